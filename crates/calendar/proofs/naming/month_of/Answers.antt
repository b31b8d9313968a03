-- The months from March to December, and January and February. Assumes nothing.
use Rattle.std.proofs.Common.{refl, arith}
use Rattle.calendar.proofs.MonthLaws.{month_late, month_early}
use Rattle.calendar.proofs.naming.month_of.Goals as goal

pub returns-then-months-lt10 : goal.returns-then-months-lt10
returns-then-months-lt10 c = month_late c.args.days _ c.requires refl _ (omega arith) (omega arith) refl

pub returns-else-months-lt10 : goal.returns-else-months-lt10
returns-else-months-lt10 c = month_early c.args.days _ c.requires refl _ (omega arith) (omega arith)
