-- The transitions so far are chained by their source. Assumes nothing.
use Rattle.plan.specs.Plans.{plan_in}
use Rattle.rules.specs.Largest.{leaves}
use Rattle.plan.proofs.ForestLaws.{Chained}
use Rattle.largest.proofs.outgoing.chain_transitions.Given as goal

abbrev pub invariant-loop-x : goal.invariant-loop-x
invariant-loop-x l = Chained (leaves (plan_in l.plan.records)) 128 l.x 256 l.outgoing.last l.outgoing.before
