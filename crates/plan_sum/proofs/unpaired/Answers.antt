-- One byte is left, or none. Assumes nothing.
use Rattle.std.proofs.Common.{sym, arith}
use Rattle.plan_sum.proofs.SumLaws.{total_last, total_none}
use Rattle.plan_sum.proofs.unpaired.Goals as goal

pub returns-then-at-plan : goal.returns-then-at-plan
returns-then-at-plan c =
    (omega (arith, total_last c.args.plan.now c.args.at (omega arith) (omega arith)), c.number.ensures.1)

pub returns-else-at-plan : goal.returns-else-at-plan
returns-else-at-plan c = (sym (total_none _ _ c.requires.0 c.if-at-plan.false), omega arith)
