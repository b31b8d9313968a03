-- The epoch is taken off the days to the date. Assumes nothing.
use Rattle.calendar.proofs.DayLaws.{number_fits, number_of}
use Rattle.calendar.proofs.counting.day_of.Goals as goal

pub overflow_sub-result : goal.overflow_sub-result
overflow_sub-result c = number_fits _ c.days_to.ensures.1

pub returns : goal.returns
returns c = number_of _ c.days_to.ensures.1 _ c.days_to.ensures.0
