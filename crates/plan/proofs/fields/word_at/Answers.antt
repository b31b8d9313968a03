-- The low byte and 256 times the high byte. Assumes nothing.
use Rattle.rules.specs.Record.{word}
use Rattle.std.proofs.Common.{arith}
use Rattle.plan.proofs.fields.word_at.Goals as goal

pub returns : goal.returns
unfolding word
returns c = omega (arith, c.from_le_bytes.ensures)
