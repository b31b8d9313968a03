-- The century and the days into it, from the quotient and the remainder of four times the days since March 2000. Assumes nothing.
use Rattle.calendar.proofs.DayLaws.{sub_fits, mul_fits, add_fits, eight_more_fits, number_cast, left_cast, century_is}
use Rattle.calendar.proofs.naming.century_of.Goals as goal

pub overflow_sub-day : goal.overflow_sub-day
overflow_sub-day c = sub_fits c.args.day c.ranges.day c.requires

pub overflow_mul-day : goal.overflow_mul-day
overflow_mul-day c = mul_fits c.args.day c.ranges.day c.requires

pub overflow_add-day : goal.overflow_add-day
overflow_add-day c = add_fits c.args.day c.ranges.day c.requires

pub overflow_add-result : goal.overflow_add-result
overflow_add-result c =
    eight_more_fits c.args.day c.ranges.day c.requires _ _ c.split-s.ensures.0 c.split-s.ensures.1

pub overflow_cast-result : goal.overflow_cast-result
overflow_cast-result c =
    number_cast c.args.day c.ranges.day c.requires _ _ c.split-s.ensures.0 c.split-s.ensures.1

pub overflow_cast-result-2 : goal.overflow_cast-result-2
overflow_cast-result-2 c =
    left_cast c.args.day c.ranges.day c.requires _ _ c.split-s.ensures.0 c.split-s.ensures.1

pub returns : goal.returns
returns c =
    century_is c.args.day c.ranges.day c.requires _ _ c.split-s.ensures.0 c.split-s.ensures.1
