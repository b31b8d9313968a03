-- A day before the first is not the window's; any other is one if it is not after the last. Assumes nothing.
use Rattle.std.proofs.Common.{sym, ◌∙◌}
use Rattle.plan.proofs.WindowLaws.{from_first, before_first}
use Rattle.plan.proofs.Records.is_within.Goals as goal

pub returns-then-first_day-day : goal.returns-then-first_day-day
returns-then-first_day-day c =
    let f = c.first_day in
    sym (from_first _ _ _ f.type_inv c.ranges.day.sfits f.ensures _ c.last_day.type_inv c.last_day.ensures c.if-first_day-day.true)

pub returns-else-first_day-day : goal.returns-else-first_day-day
returns-else-first_day-day c =
    let f = c.first_day in
    c.if-first_day-day.false ∙ sym (before_first _ _ _ f.type_inv c.ranges.day.sfits f.ensures c.if-first_day-day.false)
