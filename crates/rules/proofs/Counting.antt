-- Two tests that pair off pass equally often: a count falls by one where one number is taken out, so an injection bounds it, both ways.
-- Assumes nothing.
use mathlib.Core.Path.{◌≡◌, sym, ap, ◌∙◌}
use mathlib.Core.Logic.{inl, inr}
use mathlib.Core.Bool.{Bool, true, false, not, ◌&&◌, and-true, and-false}
use Prim.Native.Nat.{ℕ, zero, suc, ◌+◌, ◌<◌, ◌≤◌}
use native.Mathlib.Nat.{not-suc-le-zero}
use native.Mathlib.Omega.{arith}
use lib.Dec.{eqb}
use borrow.Author.Tests.{eqb-true, eqb-false, eq-eqb, ne_eqb}
use Rattle.rules.specs.Fold.{count_below}
use Rattle.rules.proofs.Tests.{look, and_both}
use Rattle.rules.proofs.Folds.{count_same}

without : (ℕ → Bool) → ℕ → ℕ → Bool
without g t u = g u && not (eqb u t)

-- one number taken out
count_without : (k : ℕ) (g : ℕ → Bool) (t : ℕ) → t < k → g t ≡ true → count_below k g ≡ count_below k (without g t) + 1
unfolding count_below without
count_without zero g t l h = absurd (not-suc-le-zero l)
count_without (suc k) g t l h =
    elim (look (eqb t k)) [
      | inl e ↦
          let q = eqb-true t k e in
          let same : count_below k g ≡ count_below k (without g t) =
          count_same k g (without g t) (λ u b. sym (ap (λ z. g u && not z) (ne_eqb u t (λ f. let z : u ≡ t = f in absurd (omega arith))) ∙ and-true (g u))) in
          let here : g k ≡ true = ap g (sym q) ∙ h in
          let left : (g k && not (eqb k t)) ≡ false = ap (λ z. g k && not z) (eq-eqb k t (sym q)) ∙ and-false (g k) in
          rw (left, here) (omega arith)
      | inr e ↦
          let n : t ≡ k → ⊥ = eqb-false t k e in
          let i = count_without k g t (omega arith) h in
          let last : (g k && not (eqb k t)) ≡ g k = ap (λ z. g k && not z) (ne_eqb k t (λ f. n (sym f))) ∙ and-true (g k) in
          rw last (omega arith)
    ]

-- the numbers that pass f, each with one of its own that passes g
pub record Pairing (n k : ℕ) (f g : ℕ → Bool) (pair : ℕ → ℕ) : Type 0 where
  pub below : (s : ℕ) → s < n → f s ≡ true → pair s < k
  pub passes : (s : ℕ) → s < n → f s ≡ true → g (pair s) ≡ true
  pub own : (r s : ℕ) → r < n → s < n → f r ≡ true → f s ≡ true → pair r ≡ pair s → r ≡ s

pub count_le : (n k : ℕ) (f g : ℕ → Bool) (pair : ℕ → ℕ) → Pairing n k f g pair → count_below n f ≤ count_below k g
unfolding count_below without
count_le zero k f g pair w = omega arith
count_le (suc n) k f g pair w =
    elim (look (f n)) [
      | inr e ↦
          let i = count_le n k f g pair (record { below = λ s b. w.below s (omega arith); passes = λ s b. w.passes s (omega arith); own = λ r s b c. w.own r s (omega arith) (omega arith) }) in
          rw e (omega arith)
      | inl e ↦
          let i = count_le n k f (without g (pair n)) pair
          (record {
            below = λ s b. w.below s (omega arith);
            passes = λ s b h.
                and_both (g (pair s)) (not (eqb (pair s) (pair n))) (w.passes s (omega arith) h)
                (ap not (ne_eqb (pair s) (pair n) (λ q. let z : s ≡ n = w.own s n (omega arith) (omega arith) h e q in absurd (omega arith))));
            own = λ r s b c. w.own r s (omega arith) (omega arith);
          }) in
          let j = count_without k g (pair n) (w.below n (omega arith) e) (w.passes n (omega arith) e) in
          rw e (omega arith)
    ]

pub count_pairs : (n k : ℕ) (f g : ℕ → Bool) (to back : ℕ → ℕ) → Pairing n k f g to → Pairing k n g f back → count_below n f ≡ count_below k g
count_pairs n k f g to back v w =
    let a = count_le n k f g to v in
    let b = count_le k n g f back w in
    omega arith
