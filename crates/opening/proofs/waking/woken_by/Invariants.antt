-- The figures of the tracks visited. Assumes nothing.
use Rattle.plan.specs.Plans.{plan_in}
use Rattle.std.proofs.Common.{false}
use Rattle.rules.specs.Opening.{wakes}
use Rattle.lookup.specs.Figures.{Figures}
use Rattle.opening.specs.Entering.{states_of}
use Rattle.opening.proofs.waking.woken_by.Given as goal

abbrev pub invariant-loop-t : goal.invariant-loop-t
invariant-loop-t l = Figures false l.woken l.t (wakes (plan_in l.plan.records) (states_of l.to))
