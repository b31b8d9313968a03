-- By the checks: their refusal, or the bits. Assumes nothing.
use Rattle.std.proofs.Common.{refl}
use Rattle.rules.specs.Answers.{ready_told}
use Rattle.manager.proofs.Checks.{meets, call_checked, ready_refused, ready_done}
use Rattle.manager.proofs.calls.ready.Goals as goal

pub ready_bits-bits-requires : goal.ready_bits-bits-requires
ready_bits-bits-requires c = (rw c.in-Ok.ensures.bytes (call_checked _ _ _ _ c.in-Ok.ensures.told), c.in-Ok.ensures.scopes)

pub returns-in-Err : goal.returns-in-Err
unfolding ready_told
returns-in-Err c = rw c.number.ensures (meets _ _ _ _ (ready_refused _ _ _ _ c.in-Err.ensures.told) refl)

pub returns-in-Ok : goal.returns-in-Ok
unfolding ready_told
returns-in-Ok c = meets _ _ _ _ (ready_done _ _ _ _ _ c.in-Ok.ensures.told (rw (← c.in-Ok.ensures.bytes) c.ready_bits-bits.ensures)) refl
