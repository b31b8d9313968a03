-- A date that there is has the day counted, and any other is turned back. Assumes nothing.
use Rattle.std.proofs.Common.{sym, ap, ◌∙◌, ℤ, w32}
use mir.ValLaws.{to_z-of_z}
use Rattle.rules.specs.Answers.{day_told}
use Rattle.rules.specs.Conversion.{found}
use Rattle.rules.proofs.SignedLaws.{day_fits}
use Rattle.signed.proofs.Integers.{rd}
use Rattle.calendar.proofs.DayLaws.{day_number_lem}
use Rattle.calendar.proofs.Theorems.{day_of_date_lem, no_day_of_date}
use Rattle.calendar.proofs.day_of_date.Goals as goal

pub day_of-requires : goal.day_of-requires
day_of-requires c = sym c.is_date.ensures ∙ c.if-is_date.true

pub returns-then-is_date : goal.returns-then-is_date
unfolding day_told
returns-then-is_date c =
    let h = sym c.is_date.ensures ∙ c.if-is_date.true in
    ap (λ (z : ℤ). found (rd z)) c.day_of.ensures
    ∙ ap found (to_z-of_z w32 _ (day_fits _ (day_number_lem _ h).0)) ∙ sym (day_of_date_lem _ h)

pub returns-else-is_date : goal.returns-else-is_date
unfolding day_told
returns-else-is_date c = sym (no_day_of_date _ (sym c.is_date.ensures ∙ c.if-is_date.false))
