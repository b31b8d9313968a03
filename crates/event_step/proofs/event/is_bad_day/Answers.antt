-- Out of range, or before the last accepted day. Assumes nothing.
use Rattle.std.proofs.Common.{not, ap}
use Rattle.event_step.proofs.Answering.{no_day, day_order}
use Rattle.event_step.proofs.event.is_bad_day.Goals as goal

pub returns-then-not-is_day : goal.returns-then-not-is_day
returns-then-not-is_day c = no_day _ _ c.ranges.day.sfits c.is_day.ensures (ap not c.if-not-is_day.true)

pub returns : goal.returns
returns c =
    day_order _ _ c.ranges.day.sfits c.is_day.ensures (ap not c.if-not-is_day.false) c.last_day.type_inv c.last_day.ensures
