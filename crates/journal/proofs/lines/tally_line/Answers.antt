-- The head, one more field, and the newline. Assumes nothing.
use Rattle.journal.proofs.LineText.{lined_two}
use Rattle.rules.specs.Text.{decimal}
use Rattle.std.proofs.Common.{arith, rules}
use Rattle.journal.proofs.Written.{retold, wrote_then}
use Rattle.rules.specs.Text.{ascii, decimal}
use Rattle.rules.specs.Transcript.{tally_line}
use Rattle.journal.proofs.LineText.{line_two, length-head_lem, length-field_lem, digits_long}
use Rattle.journal.proofs.lines.tally_line.Goals as goal

pub put_head-second-requires : goal.put_head-second-requires
put_head-second-requires c = omega (arith, digits_long c.args.held c.ranges.held.fits)

pub put_field-end-requires : goal.put_field-end-requires
unfolding ascii
put_field-end-requires c = omega (arith, digits_long c.args.fired c.ranges.fired.fits, digits_long c.args.held c.ranges.held.fits, c.put_head-second.ensures.place, length-head_lem (ascii "H") (decimal c.args.held), c.put_head-second.auto.out)

pub put_byte-requires : goal.put_byte-requires
unfolding ascii
put_byte-requires c = omega (arith, digits_long c.args.fired c.ranges.fired.fits, digits_long c.args.held c.ranges.held.fits, c.put_field-end.ensures.place, length-field_lem (decimal c.args.fired), c.put_field-end.auto.out, c.put_head-second.ensures.place, length-head_lem (ascii "H") (decimal c.args.held), c.put_head-second.auto.out)

pub returns : goal.returns
unfolding tally_line ascii
returns c = lined_two (ascii "H") (decimal c.args.held) (decimal c.args.fired) (retold (line_two (ascii "H") _ _) (wrote_then (search rules) (wrote_then (search rules) c.put_head-second.ensures c.put_field-end.ensures) c.put_byte.ensures)) (omega (arith, digits_long c.args.held c.ranges.held.fits, digits_long c.args.fired c.ranges.fired.fits))
