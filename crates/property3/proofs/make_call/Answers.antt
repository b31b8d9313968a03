-- By the kind. Assumes nothing.
use Rattle.property3.proofs.OneCall.{on_day, made_event, made_signal, made_fire}
use Rattle.property3.proofs.make_call.Goals as goal

pub returns-in-Event : goal.returns-in-Event
returns-in-Event c = made_event _ _ _ _ _ _ _ _ _ c.in-Event.ensures (on_day _ _ _ _ _ c.args.day c.ranges.day _ _ c.make_event.ensures)

pub returns-in-Signal : goal.returns-in-Signal
returns-in-Signal c = made_signal _ _ _ _ _ _ _ _ _ c.in-Signal.ensures c.make_signal.ensures

pub returns-in-Fire : goal.returns-in-Fire
returns-in-Fire c = made_fire _ _ _ _ _ _ _ _ _ c.in-Fire.ensures c.make_fire.ensures
