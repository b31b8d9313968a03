-- The sum after t tracks is the definition's at t; a count is a 16-bit number, so the sum fits. Assumes nothing.
use Rattle.ledger.specs.Ladder.{ledger_of}
use Rattle.std.proofs.Common.{◌≡◌, ◌≤◌, ◌*◌, length}
use Rattle.rules.specs.Fold.{sum_below}
use Rattle.journal.proofs.held.held_total.Given as goal

abbrev pub invariant-loop-t : goal.invariant-loop-t
invariant-loop-t l = (l.sum ≤ 65535 * l.t) × (l.sum ≡ sum_below l.t (λ u. length (ledger_of l.terms l.c l.ledger u).held))
