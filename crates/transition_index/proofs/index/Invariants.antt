-- The invariant: the transitions so far are chained by their cell. Assumes nothing.
use Rattle.plan.specs.Plans.{plan_in}
use Rattle.plan.specs.Chain.{has, cell}
use Rattle.plan.proofs.ForestLaws.{Chained}
use Rattle.transition_index.proofs.index.Given as goal

abbrev pub invariant-loop-x : goal.invariant-loop-x
invariant-loop-x l = Chained (has (cell (plan_in l.records))) 256 l.x 256 l.chains.last l.chains.before
