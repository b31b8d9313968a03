-- A line of one number. Assumes nothing.
use Rattle.journal.proofs.LineText.{lined_one}
use Rattle.rules.specs.Text.{decimal}
use Rattle.std.proofs.Common.{arith}
use Rattle.rules.specs.Text.{ascii}
use Rattle.rules.specs.Transcript.{refusal_line}
use Rattle.journal.proofs.LineText.{digits_byte}
use Rattle.journal.proofs.lines.refusal_line.Goals as goal

pub put_one-requires : goal.put_one-requires
put_one-requires c = omega (arith, digits_byte c.args.number c.ranges.number.fits)

pub returns : goal.returns
unfolding refusal_line ascii
returns c = lined_one (ascii "R") (decimal c.args.number) c.put_one.ensures (omega (arith, digits_byte c.args.number c.ranges.number.fits))
