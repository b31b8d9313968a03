-- Loops that test each number in rising order. One that leaves at the first that fails: one more passed, one that fails, and the end. One
-- that visits all and keeps whether all passed, or whether some did: one more, and the end. Assumes nothing.
use Rattle.std.proofs.Common.{◌≡◌, sym, ap₂, ◌∙◌, Bool, true, false, ◌&&◌, ◌||◌, ℕ, ◌+◌, ◌<◌, ◌≤◌, arith}
use Rattle.rules.specs.Fold.{some_below, every_below}
use Rattle.rules.proofs.Tests.{clash, refuted}
use Rattle.rules.proofs.Folds.{every_at, every_more, some_more}

-- f is what is tested of each number; r is what the test answered, q what it answered of all before
module _ (f : ℕ → Bool) (i : ℕ) where
  pub every_next : {r : Bool} → every_below i f ≡ true → r ≡ f i → r ≡ true → every_below (i + 1) f ≡ true
  every_next h e k = every_more i f ∙ rw (h, sym e ∙ k)

  pub every_stops : (n : ℕ) {r : Bool} → r ≡ f i → r ≡ false → i < n → false ≡ every_below n f
  every_stops n e k l = sym (refuted (every_below n f) (λ h. clash (every_at n f h i l) (sym e ∙ k)))

  pub every_ends : (n : ℕ) → every_below i f ≡ true → i ≤ n → n ≤ i → true ≡ every_below n f
  every_ends n h a b = let e : i ≡ n = omega arith in sym (rw e at h)

  pub every_visit : {q r : Bool} → q ≡ every_below i f → r ≡ f i → (q && r) ≡ every_below (i + 1) f
  every_visit h e = ap₂ (λ (a b : Bool). a && b) h e ∙ sym (every_more i f)

  pub some_visit : {q r : Bool} → q ≡ some_below i f → r ≡ f i → (q || r) ≡ some_below (i + 1) f
  some_visit h e = ap₂ (λ (a b : Bool). a || b) h e ∙ sym (some_more i f)

  pub every_done : (n : ℕ) {q : Bool} → q ≡ every_below i f → i ≤ n → n ≤ i → q ≡ every_below n f
  every_done n h a b = let e : i ≡ n = omega arith in rw e at h
