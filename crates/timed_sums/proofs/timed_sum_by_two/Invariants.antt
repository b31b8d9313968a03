-- The invariant: what is added so far and the numbers left come to the sum. The measure is the bytes left. Assumes nothing.
use Rattle.std.proofs.Common.{◌≡◌, ◌+◌, ◌-◌, ◌%◌, ◌<◌, ◌≤◌, length, drop}
use Rattle.rules.specs.Leading.{numbers_total, plan_sum}
use Rattle.timed_sums.proofs.timed_sum_by_two.Given as goal

abbrev pub invariant-loop-at : goal.invariant-loop-at
invariant-loop-at l = (l.at ≤ length l.plan) × (l.sum < 65536) × ((l.sum + numbers_total (drop l.at l.plan)) % 65536 ≡ plan_sum l.plan)

abbrev pub decreases-loop-at : goal.decreases-loop-at
decreases-loop-at l = length l.plan - l.at
