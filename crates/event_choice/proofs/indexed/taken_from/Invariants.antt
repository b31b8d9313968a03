-- The invariant: the tracks so far take what they move by. Assumes nothing.
use Rattle.plan.specs.Plans.{plan_in}
use Rattle.ledger.specs.Ladder.{ledger_of}
use Rattle.lookup.specs.Figures.{Numbers}
use Rattle.event_choice.specs.Next.{any_day_move}
use Rattle.event_choice.proofs.indexed.taken_from.Given as goal

abbrev pub invariant-loop-t : goal.invariant-loop-t
invariant-loop-t l = Numbers l.taken l.t (any_day_move (plan_in l.plan.records) (ledger_of l.terms l.plan.records.counts l.ledger) l.event)
