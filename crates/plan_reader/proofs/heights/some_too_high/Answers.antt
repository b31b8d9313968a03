-- Some track is too high if some root is, and the closure finds one. Assumes nothing.
use Rattle.plan.specs.Plans.{plan_in}
use Rattle.std.proofs.Common.{◌∙◌, rules, tests}
use Rattle.rules.proofs.Heights.{is_high_root}
use Rattle.rules.proofs.Ranges.{some_from_any}
use Rattle.plan.proofs.ForestLaws.{roots_enough}
use Rattle.plan_reader.proofs.heights.some_too_high.Goals as goal

pub returns : goal.returns
unfolding is_high_root
returns c =
    some_from_any (is_high_root (plan_in c.args.records.now)) _ c.any.ensures.ran (λ t b q k. search (rules, tests))
    ∙ roots_enough _ _ c.args.records.now.holds c.requires.0
