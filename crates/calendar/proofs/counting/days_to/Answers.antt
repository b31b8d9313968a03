-- The days before the month and before the day make up the days to the date. Assumes nothing.
use Rattle.std.proofs.Common.{arith}
use Rattle.calendar.proofs.DateLaws.{real_of}
use Rattle.calendar.proofs.DayLaws.{counted}
use Rattle.calendar.proofs.counting.days_to.Goals as goal

pub before_month-requires : goal.before_month-requires
before_month-requires c = let p = real_of _ c.requires in (p.0.since, p.1, p.0.first, p.0.last)

pub overflow_sub-result : goal.overflow_sub-result
overflow_sub-result c = omega (arith, (real_of _ c.requires).0.low)

pub overflow_add-result : goal.overflow_add-result
overflow_add-result c = omega (arith, counted c.args.date _ c.requires c.before_month.ensures)

pub returns : goal.returns
returns c = rw c.from.ensures (counted c.args.date _ c.requires c.before_month.ensures)
