-- The head, then the newline. Assumes nothing.
use Rattle.std.proofs.Common.{arith, rules}
use Rattle.journal.proofs.Written.{retold, wrote_then}
use Rattle.rules.specs.Text.{ascii, decimal}
use Rattle.journal.proofs.LineText.{line_one, length-head_lem}
use Rattle.journal.proofs.lines.put_one.Goals as goal

pub put_byte-requires : goal.put_byte-requires
put_byte-requires c = omega (arith, c.put_head-end.ensures.place, length-head_lem c.args.name.now (decimal c.args.n), c.put_head-end.auto.out)

pub returns : goal.returns
unfolding ascii
returns c = retold (line_one _ _) (wrote_then (search rules) c.put_head-end.ensures c.put_byte.ensures)
