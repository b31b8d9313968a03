-- The test is the definition's. Assumes nothing.
use Rattle.plan.specs.Plans.{plan_in}
use Rattle.std.proofs.Common.{rules, tests, not, eqb}
use Rattle.rules.specs.Plan.{no_state, transition}
use Rattle.rules.specs.Largest.{has_deviation}
use Rattle.rules.proofs.Ranges.{some_from_any}
use Rattle.plan.proofs.FieldLaws.{transition_count_lem}
use Rattle.largest.proofs.some_deviation.Goals as goal

pub returns : goal.returns
unfolding has_deviation no_state
returns c =
    rw transition_count_lem
    (some_from_any (λ x. not (eqb (transition (plan_in c.args.records.now) x).deviation no_state)) _ c.any.ensures.ran (λ x b q k. search (rules, tests)))
