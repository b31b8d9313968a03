-- After t visits what is known is of the tracks below t. Assumes nothing.
use Rattle.plan.specs.Plans.{plan_in}
use Rattle.std.proofs.Common.{◌≡◌, not, ◌&&◌, ◌≤◌, eqb, leb, length, get_or}
use Rattle.rules.specs.Fold.{some_below, count_below}
use Rattle.rules.specs.Plan.{no_state, optional}
use Rattle.rules.specs.Event.{has_code}
use Rattle.ledger.specs.Ladder.{ledger_of}
use Rattle.event_choice.specs.Next.{is_last}
use Rattle.event_choice.proofs.judging.moves.Given as goal

abbrev pub invariant-loop-t : goal.invariant-loop-t
invariant-loop-t l =
    let p = plan_in l.plan.records in
    (l.n ≤ l.t) × (l.n ≡ count_below l.t (λ i. not (eqb (get_or l.taken i 0) no_state)))
    × (l.ends ≡ some_below l.t (λ i. is_last p (optional (get_or l.taken i 0))))
    × (l.full ≡ some_below l.t (λ i. has_code p (optional (get_or l.taken i 0)) && leb l.terms.limit (length (ledger_of l.terms l.plan.records.counts l.ledger i).held)))
