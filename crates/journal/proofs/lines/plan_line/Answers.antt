-- A line of three numbers. Assumes nothing.
use Rattle.journal.proofs.LineText.{lined_three}
use Rattle.rules.specs.Text.{decimal}
use Rattle.std.proofs.Common.{arith, rules}
use Rattle.rules.specs.Text.{ascii}
use Rattle.rules.specs.Transcript.{plan_line}
use Rattle.journal.proofs.LineText.{digits_word}
use Rattle.journal.proofs.lines.plan_line.Goals as goal

pub put_three-requires : goal.put_three-requires
put_three-requires c = omega (arith, digits_word c.args.c.tracks (search rules), digits_word c.args.c.states (search rules), digits_word c.args.c.transitions (search rules))

pub returns : goal.returns
unfolding plan_line ascii
returns c = lined_three (ascii "PLAN") (decimal c.args.c.tracks) (decimal c.args.c.states) (decimal c.args.c.transitions) c.put_three.ensures (omega (arith, digits_word c.args.c.tracks (search rules), digits_word c.args.c.states (search rules), digits_word c.args.c.transitions (search rules)))
