-- The invariant: the transitions so far are chained by their group. Assumes nothing.
use Rattle.plan.specs.Plans.{plan_in}
use Rattle.std.proofs.Common.{ℕ, ◌<◌}
use Rattle.plan.specs.Chain.{has}
use Rattle.plan.proofs.ForestLaws.{Chained}
use Rattle.plan_reader.specs.Keys.{group}
use Rattle.plan_reader.proofs.events.in_groups.Given as goal

abbrev pub invariant-loop-x : goal.invariant-loop-x
invariant-loop-x l =
    record {
      chained : Chained (has (group (plan_in l.records))) 2048 l.x 256 l.groups.last l.groups.before;
      keys : (y : ℕ) → y < l.x → group (plan_in l.records) y < 2048;
    }
