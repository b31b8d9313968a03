-- The day, the words, then over, then the clauses; the open scopes are found where they are asked. Assumes nothing.
use Rattle.std.proofs.Common.{not, ap, refl, ◌∙◌}
use Rattle.rules.proofs.Tests.{clash}
use Rattle.signed.proofs.Integers.{read_back}
use Rattle.ledger.proofs.Branches.{holds}
use Rattle.ledger.proofs.Words.{leading_room}
use Rattle.soundness.proofs.Clauses.{no_day, untidy, sound_over, over_asked, sound_live}
use Rattle.soundness.proofs.sound.is_sound.Goals as goal

pub last_day-requires : goal.last_day-requires
last_day-requires c = leading_room c.requires.room

pub returns-then-not-is_day : goal.returns-then-not-is_day
returns-then-not-is_day c = (no_day _ _ _ _ (read_back _ c.last_day.type_inv ∙ c.last_day.ensures) c.is_day.ensures (ap not c.if-not-is_day.true), λ y o. clash y refl)

pub are_tidy-requires : goal.are_tidy-requires
are_tidy-requires c = c.requires.room

pub returns-then-not-are_tidy : goal.returns-then-not-are_tidy
returns-then-not-are_tidy c =
    (untidy _ _ _ _ (read_back _ c.last_day.type_inv ∙ c.last_day.ensures) c.is_day.ensures (ap not c.if-not-is_day.false) c.are_tidy.ensures (ap not c.if-not-are_tidy.true), λ y o. clash y refl)

pub returns-then-all_asleep : goal.returns-then-all_asleep
returns-then-all_asleep c =
    let over = c.all_asleep.ensures in (
      sound_over _ _ _ _ (read_back _ c.last_day.type_inv ∙ c.last_day.ensures) c.is_day.ensures (ap not c.if-not-is_day.false) c.are_tidy.ensures
          (ap not c.if-not-are_tidy.false) over c.if-all_asleep.true,
      λ y o. clash (over_asked _ _ _ _ over c.if-all_asleep.true) o,
    )

pub is_live-requires : goal.is_live-requires
is_live-requires c =
    (c.requires, holds c.are_tidy.ensures (ap not c.if-not-are_tidy.false), c.open_scopes-found.ensures)

pub returns : goal.returns
returns c = (
  sound_live _ _ _ _ (read_back _ c.last_day.type_inv ∙ c.last_day.ensures) c.is_day.ensures (ap not c.if-not-is_day.false) c.are_tidy.ensures
      (ap not c.if-not-are_tidy.false) c.all_asleep.ensures c.if-all_asleep.false c.is_live.ensures,
  λ y o. c.open_scopes-found.ensures,
)
