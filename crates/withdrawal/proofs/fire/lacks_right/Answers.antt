-- A track beyond the plan's is not asked for; of another one its mark decides. Assumes nothing.
use Rattle.std.proofs.Common.{◌∙◌, arith, le-ltb}
use Rattle.withdrawal.proofs.FiredWords.{lacks_beyond, lacks_at}
use Rattle.withdrawal.proofs.fire.lacks_right.Goals as goal

pub returns-then-t-plan : goal.returns-then-t-plan
returns-then-t-plan c = lacks_at _ _ _ _ c.if-t-plan.true (c.permitted.ensures.at _ (omega arith))

pub returns-else-t-plan : goal.returns-else-t-plan
returns-else-t-plan c = le-ltb _ _ c.if-t-plan.false ∙ lacks_beyond _ _ _ _ c.if-t-plan.false
