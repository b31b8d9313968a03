-- The outcome by what the checks found, and the ledger as it was overwritten. Assumes nothing.
use Rattle.std.proofs.Common.{refl}
use Rattle.rules.specs.Answers.{begin_told}
use Rattle.manager.proofs.Checks.{meets, lent_holds, begin_refused, begin_done}
use Rattle.manager.proofs.calls.begin.Goals as goal

pub begin_all-requires : goal.begin_all-requires
begin_all-requires c = (rw c.in-Ok.ensures.bytes (lent_holds _ _ _ _ c.in-Ok.ensures.told), c.in-Ok.ensures.firsts)

pub returns-in-Err : goal.returns-in-Err
unfolding begin_told
returns-in-Err c = rw c.number.ensures (meets _ _ _ _ (begin_refused _ _ _ _ c.in-Err.ensures.told) refl)

pub returns-in-Ok : goal.returns-in-Ok
unfolding begin_told
returns-in-Ok c = meets _ _ _ _ (begin_done _ _ _ _ c.in-Ok.ensures.told) (rw (← c.in-Ok.ensures.bytes) c.begin_all.ensures)
