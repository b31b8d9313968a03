-- After t visits a track's open scope is marked unless one of the tracks below t keeps it open. Assumes nothing.
use Rattle.plan.specs.Plans.{plan_in}
use Rattle.std.proofs.Common.{false}
use Rattle.ledger.specs.Ladder.{ledger_of}
use Rattle.lookup.specs.Figures.{Figures}
use Rattle.event_choice.specs.Next.{moves_of}
use Rattle.event_choice.proofs.Visits.{closes_among}
use Rattle.event_choice.proofs.closing.closing_scopes.Given as goal

abbrev pub invariant-loop-t : goal.invariant-loop-t
invariant-loop-t l = Figures false l.closing l.plan.records.counts.tracks (closes_among (plan_in l.plan.records) (ledger_of l.terms l.plan.records.counts l.ledger) (moves_of l.taken l.plan.records.counts.tracks) l.t)
