-- Without windows what is taken on any day is taken; else after t visits the tracks below t take what is left on the day. Assumes nothing.
use Rattle.plan.specs.Plans.{plan_in}
use Rattle.rules.specs.Plan.{taken_on}
use Rattle.lookup.specs.Figures.{Numbers}
use Rattle.event_choice.specs.Next.{moves_of}
use Rattle.event_choice.proofs.windows.taken_on.Given as goal

abbrev pub invariant-loop-t : goal.invariant-loop-t
invariant-loop-t l = Numbers l.taken l.t (λ u. taken_on (plan_in l.plan.records) l.day (moves_of l.any l.plan.records.counts.tracks u))
