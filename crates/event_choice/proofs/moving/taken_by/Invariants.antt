-- After x visits a track's transition is the one found among those below x. Assumes nothing.
use Rattle.plan.specs.Plans.{plan_in}
use Rattle.ledger.specs.Ladder.{ledger_of}
use Rattle.lookup.specs.Figures.{Numbers}
use Rattle.event_choice.proofs.Takers.{found_among}
use Rattle.event_choice.proofs.moving.taken_by.Given as goal

abbrev pub invariant-loop-x : goal.invariant-loop-x
invariant-loop-x l = Numbers l.taken l.plan.records.counts.tracks (found_among (plan_in l.plan.records) (ledger_of l.terms l.plan.records.counts l.ledger) l.event l.x)
