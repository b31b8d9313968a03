-- The checks 2 to 17; where they pass, what 24 and 18 ask is found, and told in their order. Assumes nothing.
use Rattle.std.proofs.Common.{not, refl, ap}
use Rattle.std.proofs.lemmas.Result.{err_from_is_err_and}
use Rattle.ledger.proofs.Words.{leading_room}
use Rattle.manager.proofs.Checks.{lent_holds, checked_refused, checked_other, checked_unsound, checked_accepted, opens_found}
use Rattle.manager.proofs.verify.verify.Goals as goal

pub returns-in_err-read-clause-told : goal.returns-in_err-read-clause-told
returns-in_err-read-clause-told c =
    let p = err_from_is_err_and c.from_residual.result c.from_residual.ensures.1 in
    rw (p.1, p.2) (checked_refused _ _ _ _ c.in_err-read.ensures.told)

pub is_other-other-requires : goal.is_other-other-requires
is_other-other-requires c = leading_room (lent_holds _ _ _ _ c.in_ok-read.ensures.told).room

pub is_sound-sound-requires : goal.is_sound-sound-requires
is_sound-sound-requires c = rw c.in_ok-read.ensures.bytes (lent_holds _ _ _ _ c.in_ok-read.ensures.told)

pub returns-then-other-clause-told : goal.returns-then-other-clause-told
returns-then-other-clause-told c = checked_other _ _ _ _ c.in_ok-read.ensures.told c.is_other-other.ensures c.if-other.true

pub returns-then-not-sound-clause-told : goal.returns-then-not-sound-clause-told
returns-then-not-sound-clause-told c =
    checked_unsound _ _ _ _ c.in_ok-read.ensures.told c.is_other-other.ensures c.if-other.false (rw (← c.in_ok-read.ensures.bytes) c.is_sound-sound.ensures.0) (ap not c.if-not-sound.true)

pub returns-clause-told : goal.returns-clause-told
returns-clause-told c =
    checked_accepted _ _ _ _ c.in_ok-read.ensures.told c.is_other-other.ensures c.if-other.false (rw (← c.in_ok-read.ensures.bytes) c.is_sound-sound.ensures.0) (ap not c.if-not-sound.false)

pub returns-clause-scopes : goal.returns-clause-scopes
returns-clause-scopes c = opens_found _ _ _ refl (c.is_sound-sound.ensures.1 c.if-not-sound.false)
