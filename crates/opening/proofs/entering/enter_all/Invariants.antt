-- The tracks visited have entered, woken or stayed, the others are as they were. Assumes nothing.
use Rattle.std.proofs.Common.{◌≡◌, false, get_or}
use Rattle.rules.specs.Ledger.{written}
use Rattle.rules.proofs.Passes.{up_to}
use Rattle.ledger.specs.Ladder.{ledger_of}
use Rattle.opening.specs.Entering.{entered_by}
use Rattle.opening.proofs.entering.enter_all.Given as goal

abbrev pub invariant-loop-t : goal.invariant-loop-t
invariant-loop-t l =
    (l.ledger
    ≡ written l.terms l.plan.records.counts.tracks (up_to (λ v. entered_by (get_or l.to v 0) (get_or l.woken v false) (get_or l.firsts v 0) (ledger_of l.terms l.plan.records.counts l.initial.ledger v)) (ledger_of l.terms l.plan.records.counts l.initial.ledger) l.t)
    l.initial.ledger)
