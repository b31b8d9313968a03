-- The call's own promise, its answer as words. Assumes nothing.
use Rattle.property3.proofs.OneCall.{encoded}
use Rattle.property3.proofs.make_fire.Goals as goal

pub returns : goal.returns
returns c = encoded _ _ _ _ c.fire-answer.ensures c.from.ensures
