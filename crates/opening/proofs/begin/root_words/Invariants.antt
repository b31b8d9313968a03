-- The words of the tracks visited. Assumes nothing.
use Rattle.plan.specs.Plans.{plan_in}
use Rattle.rules.specs.Opening.{roots_first}
use Rattle.lookup.specs.Figures.{Numbers}
use Rattle.opening.proofs.begin.root_words.Given as goal

abbrev pub invariant-loop-t : goal.invariant-loop-t
invariant-loop-t l = Numbers l.to l.t (roots_first (plan_in l.plan.records))
