-- The head, two more fields, and the newline. Assumes nothing.
use Rattle.std.proofs.Common.{arith, rules}
use Rattle.journal.proofs.Written.{retold, wrote_then}
use Rattle.rules.specs.Text.{ascii, decimal}
use Rattle.journal.proofs.LineText.{line_three, length-head_lem, length-field_lem}
use Rattle.journal.proofs.lines.put_three.Goals as goal

pub put_field-third-requires : goal.put_field-third-requires
put_field-third-requires c = omega (arith, c.put_head-second.ensures.place, length-head_lem c.args.name.now (decimal c.args.n), c.put_head-second.auto.out)

pub put_field-end-requires : goal.put_field-end-requires
put_field-end-requires c = omega (arith, c.put_field-third.ensures.place, length-field_lem (decimal c.args.m), c.put_field-third.auto.out, c.put_head-second.ensures.place, length-head_lem c.args.name.now (decimal c.args.n), c.put_head-second.auto.out)

pub put_byte-requires : goal.put_byte-requires
put_byte-requires c = omega (arith, c.put_field-end.ensures.place, length-field_lem (decimal c.args.k), c.put_field-end.auto.out, c.put_field-third.ensures.place, length-field_lem (decimal c.args.m), c.put_field-third.auto.out, c.put_head-second.ensures.place, length-head_lem c.args.name.now (decimal c.args.n), c.put_head-second.auto.out)

pub returns : goal.returns
unfolding ascii
returns c = retold (line_three _ _ _ _) (wrote_then (search rules) (wrote_then (search rules) (wrote_then (search rules) c.put_head-second.ensures c.put_field-third.ensures) c.put_field-end.ensures) c.put_byte.ensures)
