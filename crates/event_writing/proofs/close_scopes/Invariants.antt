-- The tracks visited are closed, the others are as they were. Assumes nothing.
use Rattle.plan.specs.Plans.{plan_in}
use Rattle.std.proofs.Common.{◌≡◌}
use Rattle.rules.specs.Ledger.{written}
use Rattle.rules.proofs.Passes.{up_to}
use Rattle.ledger.specs.Ladder.{ledger_of}
use Rattle.event_writing.specs.EventParts.{closed_by}
use Rattle.event_writing.proofs.close_scopes.Given as goal

abbrev pub invariant-loop-t : goal.invariant-loop-t
invariant-loop-t l =
    (l.ledger ≡ written l.terms l.plan.records.counts.tracks (up_to (λ v. closed_by (plan_in l.plan.records) l.closing v (ledger_of l.terms l.plan.records.counts l.initial.ledger v)) (ledger_of l.terms l.plan.records.counts l.initial.ledger) l.t) l.initial.ledger)
