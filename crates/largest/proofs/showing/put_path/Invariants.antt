-- The invariant: what is put and what is left make up the path. The measure is the room left. Assumes nothing.
use Rattle.plan.specs.Plans.{plan_in}
use Rattle.std.proofs.Common.{◌-◌}
use Rattle.largest.proofs.ShowingLaws.{Putting}
use Rattle.largest.proofs.showing.put_path.Given as goal

abbrev pub invariant-loop-s : goal.invariant-loop-s
invariant-loop-s l = Putting (plan_in l.plan.records) l.plan.records.counts.states l.from l.at l.initial.steps l.steps l.s l.end

abbrev pub decreases-loop-s : goal.decreases-loop-s
decreases-loop-s l = 256 - l.end
