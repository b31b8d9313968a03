-- By the answer's case: a line of three numbers, or the refusal's. Assumes nothing.
use Rattle.std.proofs.Common.{arith, rules}
use Rattle.rules.specs.Text.{ascii, decimal}
use Rattle.rules.specs.Transcript.{call_line, done_line}
use Rattle.rules.specs.Answers.{event_told}
use Rattle.journal.proofs.LineText.{lined_three, digits_word}
use Rattle.journal.proofs.lines.event_line.Goals as goal

pub put_three-requires : goal.put_three-requires
put_three-requires c = omega (arith, digits_word c.args.name c.ranges.name.fits, digits_word c.in-Moved.moved (search rules), digits_word c.in-Moved.closed (search rules))

pub returns-in-Moved : goal.returns-in-Moved
unfolding call_line event_told done_line ascii
returns-in-Moved c day society = rw c.in-Moved.is (lined_three (ascii "E") (decimal c.args.name) (decimal c.in-Moved.moved) (decimal c.in-Moved.closed) c.put_three.ensures (omega (arith, digits_word c.args.name c.ranges.name.fits, digits_word c.in-Moved.moved (search rules), digits_word c.in-Moved.closed (search rules))))

pub returns-in-Refused : goal.returns-in-Refused
unfolding call_line event_told
returns-in-Refused c day society = rw c.in-Refused.is c.refusal_line.ensures
