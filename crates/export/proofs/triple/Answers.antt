-- Three figures of 16 bits: each has room in its own. Assumes nothing.
use Rattle.std.proofs.Common.{arith}
use Rattle.export.specs.Packed.{bit16, bit32, bit48}
use Rattle.export.proofs.triple.Goals as goal

pub returns : goal.returns
unfolding bit16 bit32 bit48
returns c = omega arith
