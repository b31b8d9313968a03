-- A figure has 32 bits. Assumes nothing.
use Rattle.std.proofs.Common.{arith}
use Rattle.export.specs.Packed.{bit32}
use Rattle.export.proofs.at_bit32.Goals as goal

pub returns : goal.returns
unfolding bit32
returns c = omega arith
