-- The call's own promise, its answer as words. Assumes nothing.
use Rattle.property3.proofs.OneCall.{encoded}
use Rattle.property3.proofs.make_signal.Goals as goal

pub returns : goal.returns
returns c = encoded _ _ _ _ c.signal-answer.ensures c.from.ensures
