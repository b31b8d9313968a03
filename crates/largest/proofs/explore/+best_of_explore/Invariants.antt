-- Exploring a state and following its transitions call each other: following hands on the transitions that are left, exploring one less, so
-- 2 * left + 1 and 2 * left fall. The loop goes along the chain of the state's transitions. Assumes nothing.
use Rattle.plan.specs.Plans.{plan_in}
use Rattle.std.proofs.Common.{◌+◌, ◌*◌}
use Rattle.plan.specs.Chains.{cell_of}
use Rattle.largest.specs.Table.{most_words, step_words}
use Rattle.largest.proofs.FollowingLaws.{Passing}
use Rattle.largest.proofs.explore.+best_of_explore.Given as goal

abbrev pub decreases-best_of : goal.decreases-best_of
decreases-best_of l = 2 * l.left + 1

abbrev pub decreases-explore : goal.decreases-explore
decreases-explore l = 2 * l.left

abbrev pub invariant-best_of-loop-next : goal.invariant-best_of-loop-next
invariant-best_of-loop-next l = Passing (plan_in l.plan.records) l.plan.records.counts.transitions l.s (most_words l.initial.table) (most_words l.table) (step_words l.table) l.best (cell_of l.next)

abbrev pub decreases-best_of-loop-next : goal.decreases-best_of-loop-next
decreases-best_of-loop-next l = cell_of l.next
