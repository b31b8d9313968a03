-- Height and reach by each other: a height hands the reach one level less, a reach hands the height the levels it has, so 2 * left
-- and 2 * left + 1 fall. Each loop walks along a chain: the greatest met so far, and the members left. Assumes nothing.
use Rattle.plan.specs.Plans.{plan_in}
use Rattle.std.proofs.Common.{◌+◌, ◌-◌, ◌*◌}
use Rattle.rules.specs.Plan.{is_in, height_to, reach_by}
use Rattle.plan.specs.Chains.{cell_of}
use Rattle.plan.specs.Passes.{is_host_of}
use Rattle.plan.proofs.Members.{Walk}
use Rattle.plan_reader.proofs.heights.+height_reach.Given as goal

abbrev pub decreases-height : goal.decreases-height
decreases-height l = 2 * l.left

abbrev pub decreases-reach : goal.decreases-reach
decreases-reach l = 2 * l.left + 1

abbrev pub invariant-height-loop-next : goal.invariant-height-loop-next
invariant-height-loop-next l = Walk (is_host_of (plan_in l.records) l.t) (reach_by (plan_in l.records) (height_to (plan_in l.records) (l.left - 1))) l.records.counts.states l.best (cell_of l.next)

abbrev pub decreases-height-loop-next : goal.decreases-height-loop-next
decreases-height-loop-next l = cell_of l.next

abbrev pub invariant-reach-loop-next : goal.invariant-reach-loop-next
invariant-reach-loop-next l = Walk (is_in (plan_in l.records) l.s) (height_to (plan_in l.records) l.left) l.records.counts.tracks l.best (cell_of l.next)

abbrev pub decreases-reach-loop-next : goal.decreases-reach-loop-next
decreases-reach-loop-next l = cell_of l.next
