-- By the checks: their refusal, or the step's own promise. Assumes nothing.
use Rattle.std.proofs.Common.{refl}
use Rattle.rules.specs.Call.{event, event_outcome}
use Rattle.rules.specs.Answers.{event_told}
use Rattle.signed.proofs.Integers.{read_back}
use Rattle.manager.proofs.Checks.{meets, call_refused, call_checked, on_day}
use Rattle.manager.proofs.calls.event.Goals as goal

pub event-requires : goal.event-requires
event-requires c = (rw c.in-Ok.ensures.bytes (call_checked _ _ _ _ c.in-Ok.ensures.told), c.in-Ok.ensures.scopes, c.in-Ok.ensures.firsts)

pub returns-in-Err : goal.returns-in-Err
unfolding event_told event_outcome
returns-in-Err c =
    rw c.number.ensures (meets _ _ _ _ (call_refused _ _ _ (event (record { event = _; day = _; society = _ })) _ c.in-Err.ensures.told) refl)

pub returns-in-Ok : goal.returns-in-Ok
returns-in-Ok c = on_day _ _ _ _ _ (read_back _ c.ranges.day.sfits) (rw (← c.in-Ok.ensures.bytes) c.event.ensures)
