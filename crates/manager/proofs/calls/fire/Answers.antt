-- By the checks: their refusal, or the step's own promise. Assumes nothing.
use Rattle.std.proofs.Common.{refl}
use Rattle.rules.specs.Call.{fire, fire_outcome}
use Rattle.rules.specs.Answers.{fire_told}
use Rattle.manager.proofs.Checks.{meets, call_refused, call_checked}
use Rattle.manager.proofs.calls.fire.Goals as goal

pub fire-requires : goal.fire-requires
fire-requires c = (rw c.in-Ok.ensures.bytes (call_checked _ _ _ _ c.in-Ok.ensures.told), c.in-Ok.ensures.scopes, c.in-Ok.ensures.firsts)

pub returns-in-Err : goal.returns-in-Err
unfolding fire_told fire_outcome
returns-in-Err c = rw c.number.ensures (meets _ _ _ _ (call_refused _ _ _ (fire (record { track = _; society = _ })) _ c.in-Err.ensures.told) refl)

pub returns-in-Ok : goal.returns-in-Ok
returns-in-Ok c = rw (← c.in-Ok.ensures.bytes) c.fire.ensures
