-- The invariant is `Underway`. Assumes nothing.
use Rattle.std.proofs.Common.{◌≡◌, length}
use Rattle.property3.proofs.EachCall.{Underway}
use Rattle.property3.proofs.make_calls.Given as goal

abbrev pub invariant-loop-i : goal.invariant-loop-i
invariant-loop-i l =
    Underway l.terms l.plan l.initial.ledger l.calls l.initial.answers l.ledger l.answers l.i × (length l.answers ≡ length l.initial.answers) × (length l.ledger ≡ length l.initial.ledger)
