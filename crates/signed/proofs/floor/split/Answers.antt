-- The machine's quotient and remainder, set right where the remainder is below zero. Assumes nothing.
use Rattle.signed.proofs.FloorLaws.{divides, less_fits, more_fits, splits_below, splits_level}
use Rattle.signed.proofs.floor.split.Goals as goal

pub nonzero_div-q : goal.nonzero_div-q
nonzero_div-q c = divides _ _ c.ranges.n c.ranges.d c.requires

pub nonzero_rem-r : goal.nonzero_rem-r
nonzero_rem-r c = divides _ _ c.ranges.n c.ranges.d c.requires

pub overflow_sub-less : goal.overflow_sub-less
overflow_sub-less c = less_fits _ _ c.ranges.n c.ranges.d c.requires c.if-r-lt0.true

pub overflow_add-more : goal.overflow_add-more
overflow_add-more c = more_fits _ _ c.ranges.n c.ranges.d c.requires c.if-r-lt0.true

pub returns-then-r-lt0 : goal.returns-then-r-lt0
returns-then-r-lt0 c = splits_below _ _ c.ranges.n c.ranges.d c.requires c.if-r-lt0.true

pub returns : goal.returns
returns c = splits_level _ _ c.ranges.n c.ranges.d c.requires c.if-r-lt0.false
