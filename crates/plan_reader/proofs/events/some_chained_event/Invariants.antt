-- The invariant: no transition so far repeats an event, and the transitions so far are chained by their cell. Assumes nothing.
use Rattle.plan.specs.Plans.{plan_in}
use Rattle.std.proofs.Common.{◌≡◌, false}
use Rattle.rules.specs.Fold.{some_below}
use Rattle.rules.specs.Acceptance.{repeats_event}
use Rattle.plan.specs.Chain.{has, cell}
use Rattle.plan.proofs.ForestLaws.{Chained}
use Rattle.plan_reader.proofs.events.some_chained_event.Given as goal

abbrev pub invariant-loop-x : goal.invariant-loop-x
invariant-loop-x l = (some_below l.x (repeats_event (plan_in l.records)) ≡ false) × Chained (has (cell (plan_in l.records))) 256 l.x 256 l.cells.last l.cells.before
