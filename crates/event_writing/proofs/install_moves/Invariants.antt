-- The movers among the tracks visited have installed their entries, the others are as they were. Assumes nothing.
use Rattle.plan.specs.Plans.{plan_in}
use Rattle.std.proofs.Common.{◌≡◌}
use Rattle.rules.specs.Ledger.{written}
use Rattle.rules.specs.Event.{installed_by, destination_of}
use Rattle.rules.proofs.Passes.{up_to}
use Rattle.ledger.specs.Ladder.{ledger_of}
use Rattle.lookup.specs.Figures.{Numbers}
use Rattle.event_choice.specs.Next.{moves_of}
use Rattle.event_writing.proofs.install_moves.Given as goal

abbrev pub invariant-loop-t : goal.invariant-loop-t
invariant-loop-t l =
    (l.ledger ≡ written l.terms l.plan.records.counts.tracks (up_to (λ v. installed_by (plan_in l.plan.records) (moves_of l.taken l.plan.records.counts.tracks v) (ledger_of l.terms l.plan.records.counts l.initial.ledger v)) (ledger_of l.terms l.plan.records.counts l.initial.ledger) l.t) l.initial.ledger)
    × Numbers l.to l.t (λ v. destination_of (plan_in l.plan.records) (moves_of l.taken l.plan.records.counts.tracks v))
