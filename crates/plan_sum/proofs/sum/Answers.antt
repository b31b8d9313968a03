use Rattle.std.proofs.Common.{refl, arith}
use Rattle.plan_sum.proofs.SumLaws.{adds_none, adds_round, adds_last}
use Rattle.plan_sum.proofs.sum.Goals as goal

pub loop-at-init : goal.loop-at-init
loop-at-init c = (omega arith, omega arith, adds_none _ _)

pub loop-at-preserved : goal.loop-at-preserved
loop-at-preserved c = (
  omega arith,
  omega arith,
  adds_round _ _ _ _ refl c.round-sum.ensures (omega arith) (omega arith) c.loop-at.invariant.2,
)

pub returns : goal.returns
returns c = omega (arith, adds_last _ _ c.loop-at.sum c.loop-at.at (omega arith) c.loop-at.invariant.2)
