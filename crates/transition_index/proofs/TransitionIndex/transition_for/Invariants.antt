-- The invariant: what the walk left behind is no transition of that source for that event. The measure is the place in the chain: each link goes
-- to a lower number. Assumes nothing.
use Rattle.plan.specs.Plans.{plan_in}
use Rattle.plan.specs.Chains.{cell_of}
use Rattle.transition_index.proofs.Walks.{Walk}
use Rattle.transition_index.proofs.TransitionIndex.transition_for.Given as goal

abbrev pub invariant-loop-next : goal.invariant-loop-next
invariant-loop-next l = Walk (plan_in l.plan.records) l.s l.event l.plan.records.counts.transitions (cell_of l.next)

abbrev pub decreases-loop-next : goal.decreases-loop-next
decreases-loop-next l = cell_of l.next
