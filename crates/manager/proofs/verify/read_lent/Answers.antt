-- The reading of the plan, and 17 where it is accepted. Assumes nothing.
use Rattle.std.proofs.Common.{◌≡◌, not, ap, ◌∙◌}
use Rattle.std.proofs.lemmas.Result.{err_from_is_err_and}
use Rattle.opening.proofs.FirstStates.{first_figures}
use Rattle.rules.specs.declared.Counts.{Counts}
use Rattle.rules.specs.Acceptance.{accepted}
use Rattle.manager.proofs.FurtherRead.{reading_clash}
use Rattle.manager.proofs.Checks.{short, roomy, lent_refused, lent_short, lent_accepted}
use Rattle.manager.proofs.verify.read_lent.Goals as goal

same : (a b : Counts) → accepted a ≡ accepted b → a ≡ b
same a b e = cc

pub returns-in_err-read-clause-told : goal.returns-in_err-read-clause-told
returns-in_err-read-clause-told c =
    let p = err_from_is_err_and c.from_residual.result c.from_residual.ensures.1 in
    rw (p.1, p.2) (lent_refused _ _ _ _ c.in_err-read.ensures.reading)

pub returns-then-not-has_room-clause-told : goal.returns-then-not-has_room-clause-told
returns-then-not-has_room-clause-told c = lent_short _ _ _ _ c.in_ok-read.ensures.reading (short _ _ _ _ c.has_room.ensures (ap not c.if-not-has_room.true))

pub returns-clause-told : goal.returns-clause-told
returns-clause-told c = lent_accepted _ _ _ _ c.in_ok-read.ensures.reading (roomy _ _ _ _ c.has_room.ensures (ap not c.if-not-has_room.false))

pub returns-clause-firsts : goal.returns-clause-firsts
returns-clause-firsts c = first_figures _ _ c.in_ok-read.read.accepted c.in_ok-read.ensures.firsts

pub returns-in_err-read-clause-found : goal.returns-in_err-read-clause-found
returns-in_err-read-clause-found c k e = reading_clash c.in_err-read.ensures.reading e

pub returns-then-not-has_room-clause-found : goal.returns-then-not-has_room-clause-found
returns-then-not-has_room-clause-found c k e =
    rw (← same _ k (c.in_ok-read.ensures.reading ∙ e), ← c.in_ok-read.ensures.bytes) c.in_ok-read.ensures.firsts

pub returns-clause-found : goal.returns-clause-found
returns-clause-found c k e =
    rw (← same _ k (c.in_ok-read.ensures.reading ∙ e), ← c.in_ok-read.ensures.bytes) c.in_ok-read.ensures.firsts
