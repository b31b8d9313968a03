use Rattle.std.proofs.Common.{arith}
use Rattle.rules.specs.Leading.{plan_sum}
use Rattle.plan_sum.proofs.SumLaws.{total_more, total_last, total_none}
use Rattle.timed_sums.proofs.timed_sum_by_two.Goals as goal

pub loop-at-init : goal.loop-at-init
unfolding plan_sum
loop-at-init c = (omega arith, omega arith, omega arith)

pub loop-at-preserved : goal.loop-at-preserved
loop-at-preserved c =
    let plan = c.args.plan.now in (
      omega arith,
      omega arith,
      omega (arith, total_more plan c.loop-at.at (omega arith)),
    )

pub returns-then-at-plan : goal.returns-then-at-plan
returns-then-at-plan c =
    let plan = c.args.plan.now in
    omega (arith, total_last plan c.loop-at.at (omega arith) (omega arith))

pub returns : goal.returns
returns c =
    omega (arith, total_none c.args.plan.now c.loop-at.at (omega arith) (omega arith))
