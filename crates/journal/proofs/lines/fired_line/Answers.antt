-- The head, two more fields, and the newline. Assumes nothing.
use Rattle.journal.proofs.LineText.{lined_three}
use Rattle.rules.specs.Text.{decimal}
use Rattle.std.proofs.Common.{arith, rules}
use Rattle.journal.proofs.Written.{retold, wrote_then}
use Rattle.rules.specs.Text.{ascii, decimal}
use Rattle.rules.specs.Transcript.{done_line, deviation_text}
use Rattle.journal.proofs.LineText.{line_three, length-head_lem, length-field_lem, digits_word, deviation_most}
use Rattle.journal.proofs.lines.fired_line.Goals as goal

pub put_head-second-requires : goal.put_head-second-requires
put_head-second-requires c = omega (arith, digits_word c.args.track c.ranges.track.fits)

pub put_field-third-requires : goal.put_field-third-requires
unfolding ascii
put_field-third-requires c = omega (arith, digits_word c.args.code c.ranges.code.fits, digits_word c.args.track c.ranges.track.fits, c.put_head-second.ensures.place, length-head_lem (ascii "F") (decimal c.args.track), c.put_head-second.auto.out)

pub put_deviation_field-end-requires : goal.put_deviation_field-end-requires
unfolding ascii
put_deviation_field-end-requires c = omega (arith, deviation_most c.args.deviation c.ranges.deviation.fits, digits_word c.args.code c.ranges.code.fits, digits_word c.args.track c.ranges.track.fits, c.put_field-third.ensures.place, length-field_lem (decimal c.args.code), c.put_field-third.auto.out, c.put_head-second.ensures.place, length-head_lem (ascii "F") (decimal c.args.track), c.put_head-second.auto.out)

pub put_byte-requires : goal.put_byte-requires
unfolding ascii
put_byte-requires c = omega (arith, deviation_most c.args.deviation c.ranges.deviation.fits, digits_word c.args.code c.ranges.code.fits, digits_word c.args.track c.ranges.track.fits, c.put_deviation_field-end.ensures.place, length-field_lem (deviation_text c.args.deviation), c.put_deviation_field-end.auto.out, c.put_field-third.ensures.place, length-field_lem (decimal c.args.code), c.put_field-third.auto.out, c.put_head-second.ensures.place, length-head_lem (ascii "F") (decimal c.args.track), c.put_head-second.auto.out)

pub returns : goal.returns
unfolding done_line ascii
returns c = lined_three (ascii "F") (decimal c.args.track) (decimal c.args.code) (deviation_text c.args.deviation) (retold (line_three (ascii "F") _ _ _) (wrote_then (search rules) (wrote_then (search rules) (wrote_then (search rules) c.put_head-second.ensures c.put_field-third.ensures) c.put_deviation_field-end.ensures) c.put_byte.ensures)) (omega (arith, deviation_most c.args.deviation c.ranges.deviation.fits, digits_word c.args.code c.ranges.code.fits, digits_word c.args.track c.ranges.track.fits))
