-- The invariant: what lies behind on the chain has another event. The measure is the place in it: each link goes to a lower number.
-- Assumes nothing.
use Rattle.plan.specs.Plans.{plan_in}
use Rattle.plan.specs.Chains.{cell_of}
use Rattle.plan_reader.proofs.CellLaws.{Walk}
use Rattle.plan_reader.proofs.events.comparisons_left.Given as goal

abbrev pub invariant-loop-next : goal.invariant-loop-next
invariant-loop-next l = Walk (plan_in l.records) l.x (cell_of l.next)

abbrev pub decreases-loop-next : goal.decreases-loop-next
decreases-loop-next l = cell_of l.next
