-- Loops that look for a number that passes a test: what holds after one more failure, at a success and at the end. Assumes nothing.
use Rattle.std.proofs.Common.{◌≡◌, ◌∙◌, Bool, true, false, ℕ, ◌+◌, ◌<◌, ◌≤◌, arith}
use Rattle.std.proofs.Math.Option.{none, some}
use Rattle.rules.specs.Fold.{some_below, first_below}
use Rattle.rules.proofs.Folds.{some_more, first_more_here, first_stays}

module _ (f : ℕ → Bool) where
  pub none_more : (i : ℕ) → some_below i f ≡ false → f i ≡ false → some_below (i + 1) f ≡ false
  none_more i h k = some_more i f ∙ rw (h, k)

  pub none_all : (i n : ℕ) → i ≤ n → n ≤ i → some_below i f ≡ false → some_below n f ≡ false
  none_all i n a b h = let e : i ≡ n = omega arith in rw e at h

  pub first_at : (i n : ℕ) → i < n → first_below i f ≡ none → f i ≡ true → first_below n f ≡ some i
  first_at i n l h k = first_stays n (i + 1) f i (first_more_here i f h k) (omega arith)

  pub first_end : (i n : ℕ) → i ≤ n → n ≤ i → first_below i f ≡ none → first_below n f ≡ none
  first_end i n a b h = let e : i ≡ n = omega arith in rw e at h
