-- The call's own promise, its answer as words. Assumes nothing.
use Rattle.property3.proofs.OneCall.{encoded, on_day}
use Rattle.property3.proofs.make_event.Goals as goal

pub returns : goal.returns
returns c = on_day _ _ _ _ _ c.args.day c.ranges.day _ _ (encoded _ _ _ _ c.event-answer.ensures c.from.ensures)
