-- The conversion's own promise, its answer packed case by case. Assumes nothing.
use Rattle.std.proofs.Common.{ap, ◌∙◌}
use Rattle.rules.specs.Conversion.{date_of_day}
use Rattle.rules.specs.Answers.{date_told}
use Rattle.signed.proofs.Integers.{read_back}
use Rattle.export.specs.Packed.{packed_date}
use Rattle.export.proofs.retraction_date_of_day.Goals as goal

pub returns-in-Refused : goal.returns-in-Refused
unfolding date_told packed_date
returns-in-Refused c = c.from.ensures ∙ ap packed_date (c.in-Refused.ensures ∙ ap date_of_day (read_back _ c.ranges.day.sfits))

pub returns-in-On : goal.returns-in-On
unfolding date_told packed_date
returns-in-On c = c.triple.ensures ∙ ap packed_date (c.in-On.ensures ∙ ap date_of_day (read_back _ c.ranges.day.sfits))
