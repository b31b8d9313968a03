-- Some grant below the count of the grants gives the right. Assumes nothing.
use Rattle.plan.specs.Plans.{plan_in}
use Rattle.std.proofs.Common.{rules, tests}
use Rattle.rules.proofs.Ranges.{some_from_any}
use Rattle.rules.specs.Rights.{gives_to, holds_somewhere}
use Rattle.plan.proofs.FieldLaws.{grant_count_lem}
use Rattle.rights.proofs.holds_somewhere.Goals as goal

pub returns : goal.returns
unfolding holds_somewhere
returns c =
    rw grant_count_lem (some_from_any (gives_to (plan_in c.args.plan.now.records) c.args.right c.args.society) _ c.any.ensures.ran (λ g b q k. search (rules, tests)))
