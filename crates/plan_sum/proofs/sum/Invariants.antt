-- The invariant: what is added so far and the numbers ahead in each quarter come to those ahead at first. The measure is what is left of a quarter.
-- Assumes nothing.
use Rattle.std.proofs.Common.{◌≡◌, ◌-◌, ◌%◌, ◌≤◌}
use Rattle.plan_sum.proofs.SumLaws.{Adding}
use Rattle.plan_sum.proofs.sum.Given as goal

abbrev pub invariant-loop-at : goal.invariant-loop-at
invariant-loop-at l = (l.at ≤ l.quarter) × (l.at % 2 ≡ 0) × Adding l.plan l.quarter l.sum l.at

abbrev pub decreases-loop-at : goal.decreases-loop-at
decreases-loop-at l = l.quarter - l.at
