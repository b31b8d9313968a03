-- The outer invariant: no two transitions of the groups so far share their event. The inner one: the transitions met on the chain of the group g
-- are marked. The measure is the place in the chain: each link goes to a lower number. Assumes nothing.
use Rattle.plan.specs.Plans.{plan_in}
use Rattle.plan.specs.Chains.{cell_of}
use Rattle.plan_reader.proofs.MarkLaws.{Done, Marked}
use Rattle.plan_reader.proofs.events.some_marked_event.Given as goal

abbrev pub invariant-loop-next : goal.invariant-loop-next
invariant-loop-next l = Marked (plan_in l.records) l.records.counts.transitions l.g (cell_of l.next) l.marks

abbrev pub decreases-loop-next : goal.decreases-loop-next
decreases-loop-next l = cell_of l.next

abbrev pub invariant-loop-g : goal.invariant-loop-g
invariant-loop-g l = Done (plan_in l.records) l.records.counts.transitions l.g l.marks
