-- The tracks visited so far are chained by their hosts. Assumes nothing.
use Rattle.plan.specs.Plans.{plan_in}
use Rattle.plan.proofs.ForestLaws.{Chained}
use Rattle.rules.specs.Plan.{is_in}
use Rattle.plan.proofs.passes.chain_tracks.Given as goal

abbrev pub invariant-loop-t : goal.invariant-loop-t
invariant-loop-t l = Chained (is_in (plan_in l.records)) 128 l.t 32 l.scopes.last l.scopes.before
