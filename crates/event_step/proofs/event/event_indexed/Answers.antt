-- The first refusal, or the choice and what it does: a sound ledger that is not over is going. Assumes nothing.
use Rattle.std.proofs.Common.{sym}
use Rattle.event_step.proofs.Answering.{choice_day, early_passed, event_refused, going_of, event_going}
use Rattle.event_step.proofs.event.event_indexed.Goals as goal

pub returns-in-Err : goal.returns-in-Err
returns-in-Err c = event_refused _ _ _ _ c.requires.0 _ c.number.ensures c.in-Err.is c.refusal_of.ensures

pub choose_indexed-choice-requires : goal.choose_indexed-choice-requires
choose_indexed-choice-requires c =
    (going_of _ _ _ _ c.requires.0 _ (sym c.in_default.ensures), c.open_scopes-opens.ensures, c.requires.2)

pub go_on-requires : goal.go_on-requires
go_on-requires c =
    let z = sym c.in_default.ensures in
    let h = c.choose_indexed-choice.ensures in
    (going_of _ _ _ _ c.requires.0 _ z, h.0, c.open_scopes-opens.ensures, c.requires.1, choice_day c.choose_indexed-choice.result h.1 (early_passed _ _ _ _ z).0)

pub returns : goal.returns
returns c = event_going _ _ _ _ c.requires.0 _ (sym c.in_default.ensures) _ _ _ c.choose_indexed-choice.ensures.1 c.go_on.ensures
