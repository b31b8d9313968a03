-- Three figures, of which the others are 0. Assumes nothing.
use Rattle.std.proofs.Common.{arith}
use Rattle.export.specs.Packed.{bit16, bit32, bit48}
use Rattle.export.proofs.at_bit16.Goals as goal

pub returns : goal.returns
unfolding bit16 bit32 bit48
returns c = omega arith
