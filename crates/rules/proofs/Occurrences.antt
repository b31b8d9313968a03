-- How often a number stands in a list: a list of numbers below n, none of them twice, is no longer than n. Assumes nothing.
use mathlib.Core.Path.{◌≡◌, refl, sym, ap, ◌∙◌}
use mathlib.Core.Bool.{cond}
use mathlib.Core.List.{List, [], ◌∷◌, ◌++◌}
use mathlib.Core.Logic.{inl, inr}
use Prim.Native.Nat.{ℕ, zero, suc, ◌+◌, ◌<◌, ◌≤◌}
use native.Mathlib.Nat.{zero-add, not-suc-le-zero}
use native.Mathlib.Omega.{arith}
use lib.ListN.{length}
use lib.Dec.{eqb, ltb}
use borrow.Author.Tests.{eqb-true, eqb-false, eq-eqb, ne_eqb, ltb-true, ltb-false}
use Rattle.rules.specs.Fold.{some_below, sum_below}
use Rattle.rules.proofs.Tests.{look}
use Rattle.rules.proofs.Folds.{some_find, some_not}

-- 1 where two numbers are the same
unfoldable pub one : ℕ → ℕ → ℕ
one x y = cond (eqb x y) 1 0

unfoldable pub occurrences : ℕ → List ℕ → ℕ
occurrences x [] = 0
occurrences x (y ∷ l) = one x y + occurrences x l

pub one_same : (x y : ℕ) → x ≡ y → one x y ≡ 1
unfolding one
one_same x y e = rw (eq-eqb x y e)

pub one_other : (x y : ℕ) → (x ≡ y → ⊥) → one x y ≡ 0
unfolding one
one_other x y d = rw (ne_eqb x y d)

pub occurrences_append : (x : ℕ) (l m : List ℕ) → occurrences x (l ++ m) ≡ occurrences x l + occurrences x m
unfolding occurrences
occurrences_append x [] m = sym (zero-add (occurrences x m))
occurrences_append x (y ∷ l) m = let ih = occurrences_append x l m in omega arith

-- a sum of which at most one part counts
sum_none : (n : ℕ) (f : ℕ → ℕ) → ((k : ℕ) → k < n → f k ≡ 0) → sum_below n f ≡ 0
unfolding sum_below
sum_none zero f h = refl
sum_none (suc n) f h = rw (sum_none n f (λ k l. h k (omega arith)), h n (omega arith))

pub sum_one : (n j : ℕ) (f : ℕ → ℕ) → j < n → ((k : ℕ) → k < n → (k ≡ j → ⊥) → f k ≡ 0) → sum_below n f ≡ f j
unfolding sum_below
sum_one zero j f l h = absurd (not-suc-le-zero l)
sum_one (suc n) j f l h =
    elim (look (eqb j n)) [
      | inl e ↦
          let q : j ≡ n = eqb-true j n e in
          let z = sum_none n f (λ k m. h k (omega arith) (λ (r : k ≡ j). omega arith)) in
          let y : f j ≡ f n = ap f q in
          omega arith
      | inr e ↦
          let q : j ≡ n → ⊥ = eqb-false j n e in
          let z = sum_one n j f (omega arith) (λ k m d. h k (omega arith) d) in
          let y = h n (omega arith) (λ (r : n ≡ j). q (sym r)) in
          omega arith
    ]

pub sum_most : (n : ℕ) (f : ℕ → ℕ) → ((k : ℕ) → k < n → f k ≤ 1) → sum_below n f ≤ n
unfolding sum_below
sum_most zero f h = omega arith
sum_most (suc n) f h = omega (arith, sum_most n f (λ k l. h k (omega arith)), h n (omega arith))

sum_both : (n : ℕ) (f g : ℕ → ℕ) → sum_below n (λ k. f k + g k) ≡ sum_below n f + sum_below n g
unfolding sum_below
sum_both zero f g = refl
sum_both (suc n) f g = let ih = sum_both n f g in omega arith

-- one more number below n
counted_more : (n y : ℕ) (l : List ℕ) → y < n → sum_below n (λ k. one k y + occurrences k l) ≡ 1 + sum_below n (λ k. occurrences k l)
counted_more n y l m =
    sum_both n (λ k. one k y) (λ k. occurrences k l)
    ∙ ap (λ (i : ℕ). i + sum_below n (λ k. occurrences k l)) (sum_one n y (λ k. one k y) m (λ k i d. one_other k y d) ∙ one_same y y refl)

-- a list is as long as its numbers stand in it
pub length-counted_lem : (n : ℕ) (l : List ℕ) → ((x : ℕ) → n ≤ x → occurrences x l ≡ 0) → length l ≡ sum_below n (λ k. occurrences k l)
unfolding occurrences
length-counted_lem n [] h = sym (sum_none n _ (λ k m. refl))
length-counted_lem n (y ∷ l) h =
    let rest : length l ≡ sum_below n (λ k. occurrences k l) = length-counted_lem n l (λ x m. let e : one x y + occurrences x l ≡ 0 = h x m in omega arith) in
    let more = counted_more n y l below in
    omega arith
  where
    below : y < n
    below =
        elim (look (ltb y n)) [
          | inl e ↦ ltb-true y n e
          | inr e ↦
              let z : one y y + occurrences y l ≡ 0 = h y (ltb-false y n e) in
              absurd (omega (arith, one_same y y refl))
        ]

pub once_fits : (n : ℕ) (l : List ℕ) → ((x : ℕ) → n ≤ x → occurrences x l ≡ 0) → ((x : ℕ) → x < n → occurrences x l ≤ 1) → length l ≤ n
once_fits n l h o = omega (arith, length-counted_lem n l h, sum_most n (λ k. occurrences k l) o)

-- so one that is longer has some number twice
pub longer_twice : (n : ℕ) (l : List ℕ) → ((x : ℕ) → n ≤ x → occurrences x l ≡ 0) → n < length l → (x : ℕ) × (1 < occurrences x l)
longer_twice n l h m =
    elim (look (some_below n (λ x. ltb 1 (occurrences x l)))) [
      | inl e ↦ let (x, i, q) = some_find n _ e in (x, ltb-true 1 (occurrences x l) q)
      | inr e ↦
          let f = once_fits n l h (λ x i. ltb-false 1 (occurrences x l) (some_not n (λ x. ltb 1 (occurrences x l)) e x i)) in
          absurd (omega arith)
    ]
