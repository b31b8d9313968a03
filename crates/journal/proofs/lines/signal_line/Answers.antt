-- By the answer's case: a line of one number, or the refusal's. Assumes nothing.
use Rattle.std.proofs.Common.{arith, rules}
use Rattle.rules.specs.Text.{ascii, decimal}
use Rattle.rules.specs.Transcript.{call_line, done_line}
use Rattle.rules.specs.Answers.{signal_told}
use Rattle.journal.proofs.LineText.{lined_one, digits_word}
use Rattle.journal.proofs.lines.signal_line.Goals as goal

pub put_one-requires : goal.put_one-requires
put_one-requires c = omega (arith, digits_word c.in-Turned.turned (search rules))

pub returns-in-Turned : goal.returns-in-Turned
unfolding call_line signal_told done_line ascii
returns-in-Turned c society = rw c.in-Turned.is (lined_one (ascii "S") (decimal c.in-Turned.turned) c.put_one.ensures (omega (arith, digits_word c.in-Turned.turned (search rules))))

pub returns-in-Refused : goal.returns-in-Refused
unfolding call_line signal_told
returns-in-Refused c society = rw c.in-Refused.is c.refusal_line.ensures
