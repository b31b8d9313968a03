-- The days to the year from March on and of it before the month, but for those before its January. Assumes nothing.
use Rattle.std.proofs.Common.{arith}
use Rattle.calendar.proofs.MonthLaws.{march_bounds, from_march, days_fit}
use Rattle.calendar.proofs.counting.before_month.Goals as goal

pub before_year-requires : goal.before_year-requires
before_year-requires c =
    let p = c.requires in
    let b = march_bounds c.args.year c.args.month in
    let e = c.march_year.ensures in
    (omega (arith, p.0, b.0, e), omega (arith, p.1, b.1, e))

pub overflow_add-result : goal.overflow_add-result
overflow_add-result c =
    let w = from_march c.args.year c.args.month _ _ _ c.requires.0 c.march_year.ensures c.before_year.ensures c.since_march.ensures in
    omega (arith, w, days_fit c.args.year c.args.month c.requires.1 c.requires.3)

pub overflow_sub-result : goal.overflow_sub-result
overflow_sub-result c =
    let w = from_march c.args.year c.args.month _ _ _ c.requires.0 c.march_year.ensures c.before_year.ensures c.since_march.ensures in
    omega (arith, w)

pub returns : goal.returns
returns c =
    let w = from_march c.args.year c.args.month _ _ _ c.requires.0 c.march_year.ensures c.before_year.ensures c.since_march.ensures in
    omega (arith, w)
