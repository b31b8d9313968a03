-- A day in the range has the date found, and any other is turned back. Assumes nothing.
use Rattle.std.proofs.Common.{sym, ap, ◌∙◌, w32}
use mir.ValLaws.{to_z-of_z}
use Rattle.rules.specs.Answers.{date_told}
use Rattle.rules.specs.Conversion.{found, date_of_day}
use Rattle.calendar.proofs.Theorems.{date_of_day_lem, no_date_of_day}
use Rattle.calendar.proofs.date_of_day.Goals as goal

pub date_of-requires : goal.date_of-requires
date_of-requires c = sym c.is_day.ensures ∙ c.if-is_day.true

pub returns-then-is_day : goal.returns-then-is_day
unfolding date_told
returns-then-is_day c =
    ap found c.date_of.ensures
    ∙ sym (date_of_day_lem _ (sym c.is_day.ensures ∙ c.if-is_day.true)) ∙ ap date_of_day (to_z-of_z w32 c.args.day c.ranges.day)

pub returns-else-is_day : goal.returns-else-is_day
unfolding date_told
returns-else-is_day c =
    sym (no_date_of_day _ (sym c.is_day.ensures ∙ c.if-is_day.false)) ∙ ap date_of_day (to_z-of_z w32 c.args.day c.ranges.day)
