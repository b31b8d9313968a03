-- No month is shorter than the shortest. Assumes nothing.
use Rattle.std.proofs.Common.{le-leb}
use Rattle.calendar.proofs.MonthLaws.{no_longer}
use Rattle.calendar.proofs.dates.is_in_month.Goals as goal

pub returns-then-day-le-SHORTEST_MONTH : goal.returns-then-day-le-SHORTEST_MONTH
returns-then-day-le-SHORTEST_MONTH c =
    let h = c.if-day-le-SHORTEST_MONTH.true in
    rw (le-leb _ _ h, le-leb _ _ (no_longer c.args.year c.args.month c.args.day c.requires.0 c.requires.1 h))
