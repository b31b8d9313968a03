-- Every scope is asked by its mark. Assumes nothing.
use Rattle.std.proofs.Common.{false, sym, ◌∙◌, arith, get_or, rules, tests}
use Rattle.rules.proofs.Folds.{every_same}
use Rattle.rules.proofs.Ranges.{every_from_all}
use Rattle.plan.proofs.FieldLaws.{track_count_lem}
use Rattle.soundness.specs.declared.scopes.ScopeMark.{ScopeMark}
use Rattle.soundness.specs.Parts.{well_marked}
use Rattle.soundness.proofs.Marks.{scope_asked}
use Rattle.soundness.proofs.scopes.are_sound.Goals as goal

pub returns : goal.returns
returns c =
    let none : ScopeMark = record { awake = false; asleep = false; unfinished = false; busy = false } in
    every_from_all (λ s. well_marked (get_or c.mark_scopes-marks.result s none)) _ c.all.ensures.ran (λ s b q k. search (rules, tests))
    ∙ every_same _ _ _ (λ s b. scope_asked _ _ s _ none (sym (track_count_lem _ _)) c.mark_scopes-marks.ensures (omega (arith, c.requires.0.accepts.holds.states)))
