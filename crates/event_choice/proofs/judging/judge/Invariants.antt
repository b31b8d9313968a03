-- After t visits the verdict is that on the tracks below t. Assumes nothing.
use Rattle.plan.specs.Plans.{plan_in}
use Rattle.std.proofs.Common.{◌≡◌, ◌≤◌}
use Rattle.rules.specs.Fold.{some_below, count_below}
use Rattle.ledger.specs.Ladder.{ledger_of}
use Rattle.event_choice.specs.Next.{moves_of, closes_next, full_next}
use Rattle.event_choice.proofs.judging.judge.Given as goal

abbrev pub invariant-loop-t : goal.invariant-loop-t
invariant-loop-t l =
    let p = plan_in l.plan.records in
    let l' = ledger_of l.terms l.plan.records.counts l.ledger in
    let goes = moves_of l.taken l.plan.records.counts.tracks in
    (l.closed ≤ l.t) × (l.closed ≡ count_below l.t (closes_next p l' goes))
    × (l.full ≡ some_below l.t (full_next p l' goes l.terms))
