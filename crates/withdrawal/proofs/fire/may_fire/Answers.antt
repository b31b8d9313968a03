-- A track beyond the plan's may not be fired. Assumes nothing.
use Rattle.std.proofs.Common.{◌∙◌, le-ltb}
use Rattle.withdrawal.proofs.FiredWords.{may_beyond}
use Rattle.withdrawal.proofs.fire.may_fire.Goals as goal

pub returns-else-t-plan : goal.returns-else-t-plan
returns-else-t-plan c = le-ltb _ _ c.if-t-plan.false ∙ may_beyond _ _ _ _ _ c.if-t-plan.false
