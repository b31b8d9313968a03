-- By the checks: their refusal, or the step's own promise. Assumes nothing.
use Rattle.std.proofs.Common.{refl}
use Rattle.rules.specs.Call.{signal, signal_outcome}
use Rattle.rules.specs.Answers.{signal_told}
use Rattle.manager.proofs.Checks.{meets, call_refused, call_checked}
use Rattle.manager.proofs.calls.signal.Goals as goal

pub signal-requires : goal.signal-requires
signal-requires c = rw c.in-Ok.ensures.bytes (call_checked _ _ _ _ c.in-Ok.ensures.told)

pub returns-in-Err : goal.returns-in-Err
unfolding signal_told signal_outcome
returns-in-Err c = rw c.number.ensures (meets _ _ _ _ (call_refused _ _ _ (signal (record { society = _ })) _ c.in-Err.ensures.told) refl)

pub returns-in-Ok : goal.returns-in-Ok
returns-in-Ok c = rw (← c.in-Ok.ensures.bytes) c.signal.ensures
