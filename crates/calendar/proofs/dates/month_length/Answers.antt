-- February, by its year; the months of 30 days; the others. Assumes nothing.
use Rattle.std.proofs.Common.{sym, ◌∙◌, rules}
use Rattle.calendar.proofs.YearLaws.{february_leap, february_plain}
use Rattle.calendar.proofs.MonthLaws.{month_february, month_30, month_31}
use Rattle.calendar.proofs.dates.month_length.Goals as goal

pub returns-then-is_leap : goal.returns-then-is_leap
returns-then-is_leap c =
    sym (february_leap _ (sym c.is_leap.ensures ∙ c.if-is_leap.true)) ∙ month_february _ _ c.in-2.is

pub returns-else-is_leap : goal.returns-else-is_leap
returns-else-is_leap c =
    sym (february_plain _ (sym c.is_leap.ensures ∙ c.if-is_leap.false)) ∙ month_february _ _ c.in-2.is

pub returns-in-4 : goal.returns-in-4
returns-in-4 c = month_30 _ _ c.in-4.is

pub returns-in_default : goal.returns-in_default
returns-in_default c = month_31 _ _ c.requires.0 c.requires.1 (search rules) (search rules)
