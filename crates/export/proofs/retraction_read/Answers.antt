-- The plan reader's own promise, its answer packed case by case. Assumes nothing.
use Rattle.std.proofs.Common.{ap, ◌∙◌}
use Rattle.export.specs.Packed.{packed_reading}
use Rattle.export.proofs.retraction_read.Goals as goal

pub returns-in-Err : goal.returns-in-Err
unfolding packed_reading
returns-in-Err c = c.from.ensures ∙ c.number.ensures ∙ ap packed_reading c.in-Err.ensures.reading

pub returns-in-Ok : goal.returns-in-Ok
unfolding packed_reading
returns-in-Ok c = c.counted.ensures ∙ ap packed_reading c.in-Ok.ensures.reading
