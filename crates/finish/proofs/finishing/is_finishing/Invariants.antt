-- The roots visited are done, and it is known whether one of them has ended. Assumes nothing.
use Rattle.plan.specs.Plans.{plan_in}
use Rattle.std.proofs.Common.{◌≡◌, true}
use Rattle.rules.specs.Fold.{every_below, some_below}
use Rattle.ledger.specs.Ladder.{ledger_of}
use Rattle.finish.proofs.Roots.{is_done, has_ended}
use Rattle.finish.proofs.finishing.is_finishing.Given as goal

abbrev pub invariant-loop-t : goal.invariant-loop-t
invariant-loop-t l =
    let p = plan_in l.plan.records in
    let l' = ledger_of l.terms l.plan.records.counts l.ledger in
    (every_below l.t (is_done p l') ≡ true) × (l.some_ended ≡ some_below l.t (has_ended p l'))
