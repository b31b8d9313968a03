-- The invariant: the figures, the lengths and the paths of the tracks so far. Assumes nothing.
use Rattle.plan.specs.Plans.{plan_in}
use Rattle.largest.proofs.ShowingLaws.{Showing}
use Rattle.largest.proofs.showing.show_all.Given as goal

abbrev pub invariant-loop-t : goal.invariant-loop-t
invariant-loop-t l =
    Showing (plan_in l.plan.records) l.plan.records.counts.tracks l.figures l.lengths l.steps l.at l.t
