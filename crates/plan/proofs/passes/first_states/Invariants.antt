-- The figures after s visits are those of the states below s: a track has its first state already, or this is it. Assumes nothing.
use Rattle.plan.specs.Plans.{plan_in}
use Rattle.std.proofs.Common.{◌≡◌}
use Rattle.plan.specs.Passes.{first_marks}
use Rattle.plan.proofs.passes.first_states.Given as goal

abbrev pub invariant-loop-s : goal.invariant-loop-s
invariant-loop-s l = (l.firsts ≡ first_marks (plan_in l.records) l.s)
