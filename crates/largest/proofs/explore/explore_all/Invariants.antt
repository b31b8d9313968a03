-- The invariant: the states so far are known, and none is entered. Assumes nothing.
use Rattle.plan.specs.Plans.{plan_in}
use Rattle.largest.specs.Table.{most_words, step_words}
use Rattle.largest.proofs.StatesLaws.{Exploring-all}
use Rattle.largest.proofs.explore.explore_all.Given as goal

abbrev pub invariant-loop-s : goal.invariant-loop-s
invariant-loop-s l = Exploring-all (plan_in l.plan.records) l.plan.records.counts.states l.s (most_words l.table) (step_words l.table)
