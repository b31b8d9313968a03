-- The bits of the words visited are zero where the words are. Assumes nothing.
use Rattle.std.proofs.Common.{◌≡◌, eqb, get_or}
use Rattle.rules.specs.Fold.{every_below}
use Rattle.ledger.proofs.tidy.are_zero.Given as goal

abbrev pub invariant-loop-w : goal.invariant-loop-w
invariant-loop-w l = eqb l.bits 0 ≡ every_below l.w-index (λ j. eqb (get_or l.words j 0) 0)
