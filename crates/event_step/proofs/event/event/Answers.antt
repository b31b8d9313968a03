-- The first refusal, or the choice and what it does: a sound ledger that is not over is going. Assumes nothing.
use Rattle.std.proofs.Common.{sym}
use Rattle.signed.proofs.Integers.{read_back}
use Rattle.event_step.proofs.Answering.{choice_day, early_passed, event_refused, going_of, event_going, on_day}
use Rattle.event_step.proofs.event.event.Goals as goal

pub returns-in-Err : goal.returns-in-Err
returns-in-Err c =
    on_day _ _ _ _ _ (read_back _ c.ranges.day.sfits) (event_refused _ _ _ _ c.requires.0 _ c.number.ensures c.in-Err.is c.refusal_of.ensures)

pub choose-choice-requires : goal.choose-choice-requires
choose-choice-requires c =
    let g = going_of _ _ _ _ c.requires.0 _ (sym c.in_default.ensures) in
    (g, c.requires.1 g.goes_on)

pub go_on-requires : goal.go_on-requires
go_on-requires c =
    let z = sym c.in_default.ensures in
    let g = going_of _ _ _ _ c.requires.0 _ z in
    let h = c.choose-choice.ensures in
    (g, h.0, c.requires.1 g.goes_on, c.requires.2, choice_day c.choose-choice.result h.1 (early_passed _ _ _ _ z).0)

pub returns : goal.returns
returns c =
    on_day _ _ _ _ _ (read_back _ c.ranges.day.sfits) (event_going _ _ _ _ c.requires.0 _ (sym c.in_default.ensures) _ _ _ c.choose-choice.ensures.1 c.go_on.ensures)
