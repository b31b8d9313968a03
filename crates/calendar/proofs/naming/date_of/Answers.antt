-- The century, the year and the month make up the date. Assumes nothing.
use Rattle.std.proofs.Common.{sym, ap, ◌∙◌, arith, ℤ, w32}
use mir.ValLaws.{to_z-of_z}
use Rattle.rules.specs.Calendar.{date_after}
use Rattle.rules.specs.Conversion.{days_since}
use Rattle.calendar.proofs.MonthLaws.{march_bounds}
use Rattle.calendar.proofs.CenturyLaws.{date_found}
use Rattle.calendar.proofs.naming.date_of.Goals as goal

pub overflow_cast-result : goal.overflow_cast-result
overflow_cast-result c =
    let b = march_bounds c.year_at-year.result c.month_of-month.result.unit in
    omega (arith, b.0, c.year_at-year.ensures, c.century_of-century.ensures.few, c.year_of-in_century.ensures.small)

pub returns : goal.returns
returns c =
    sym (date_found _ _ _ _ _ c.century_of-century.ensures c.year_of-in_century.ensures _ _ _ c.year_at-year.ensures c.month_of-month.ensures)
    ∙ ap (λ (z : ℤ). date_after (days_since z)) (to_z-of_z w32 c.args.day c.ranges.day)
