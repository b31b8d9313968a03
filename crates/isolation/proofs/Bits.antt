-- The sum of 2 ^ t over the numbers below n that pass a test, read bit by bit: bit t is 1 exactly if t is below n and passes. Those below t sum
-- to less than 2 ^ t, and those above it to a multiple of 2 ^ t twice. Assumes nothing.
use mathlib.Core.Path.{◌≡◌, sym, ap, ◌∙◌}
use mathlib.Core.Logic.{inl, inr}
use mathlib.Core.Bool.{Bool, true, false, cond, ◌&&◌}
use Prim.Native.Nat.{ℕ, zero, suc, ◌+◌, ◌*◌, ◌-◌, ◌/◌, ◌%◌, ◌^◌, ◌<◌, ◌≤◌}
use native.Mathlib.Nat.{add-zero, pow-suc, div-eq_of_lt, add-mul-div_left, add-mul-mod_self_left}
use native.Mathlib.Omega.{arith}
use lib.Pow.{pow_pos, pow_mono, pow-add}
use lib.Dec.{eqb, ltb}
use borrow.Author.Tests.{lt-ltb, le-ltb, ltb-true, ltb-false, eqb-true, eqb-false}
use Rattle.rules.specs.Fold.{sum_below}
use Rattle.rules.proofs.Tests.{look}

-- the sum of the bits of the numbers that pass
abbrev pub bits : ℕ → (ℕ → Bool) → ℕ
bits n f = sum_below n (λ t. cond (f t) (2 ^ t) 0)

abbrev bit_of : ℕ → ℕ → Bool
bit_of x t = eqb (x / 2 ^ t % 2) 1

cond_le : (c : Bool) (x : ℕ) → cond c x 0 ≤ x
cond_le true x = omega arith
cond_le false x = omega arith

bits_small : (n : ℕ) (f : ℕ → Bool) → bits n f < 2 ^ n
unfolding sum_below
bits_small zero f = omega arith
bits_small (suc n) f = omega (arith, bits_small n f, cond_le (f n) (2 ^ n), pow-suc 2 n)

-- a bit above the sum
bit_above : (x t : ℕ) → x < 2 ^ t → bit_of x t ≡ false
bit_above x t h = rw (div-eq_of_lt {n = x} {m = 2 ^ t} h)

-- the highest bit
bit_top : (x t : ℕ) (c : Bool) → x < 2 ^ t → bit_of (x + cond c (2 ^ t) 0) t ≡ c
bit_top x t false h = ap (λ y. bit_of y t) (add-zero x) ∙ bit_above x t h
bit_top x t true h =
    let e : x + 2 ^ t ≡ x + 2 ^ t * 1 = omega arith in
    ap (λ y. bit_of y t) e ∙ ap (λ y. eqb (y % 2) 1) (add-mul-div_left x 1 {y = 2 ^ t} (pow_pos t)) ∙ rw (div-eq_of_lt {n = x} {m = 2 ^ t} h)

-- what is added above a bit does not alter it
bit_below : (x t n : ℕ) (c : Bool) → t < n → bit_of (x + cond c (2 ^ n) 0) t ≡ bit_of x t
bit_below x t n false h = ap (λ y. bit_of y t) (add-zero x)
bit_below x t n true h =
    let k = n - suc t in
    let e : 2 ^ n ≡ 2 ^ t * (2 * 2 ^ k) = ap (λ i. 2 ^ i) sum ∙ pow-add 2 t (suc k) ∙ ap (λ y. 2 ^ t * y) (pow-suc 2 k ∙ turn (2 ^ k)) in
    ap (λ y. bit_of (x + y) t) e
    ∙ ap (λ y. eqb (y % 2) 1) (add-mul-div_left x (2 * 2 ^ k) {y = 2 ^ t} (pow_pos t))
    ∙ ap (λ y. eqb y 1) (add-mul-mod_self_left (x / 2 ^ t) 2 (2 ^ k))
  where
    sum : n ≡ t + suc (n - suc t)
    sum = omega arith

    turn : (y : ℕ) → y * 2 ≡ 2 * y
    turn y = omega arith

pub bit_at : (n : ℕ) (f : ℕ → Bool) (t : ℕ) → eqb (bits n f / 2 ^ t % 2) 1 ≡ (ltb t n && f t)
unfolding sum_below
bit_at zero f t = bit_above 0 t (pow_pos t) ∙ rw (le-ltb t 0 (omega arith))
bit_at (suc n) f t =
    elim (look (ltb t n)) [
      | inl h ↦
          let l = ltb-true t n h in
          bit_below (bits n f) t n (f n) l ∙ bit_at n f t ∙ rw (h, lt-ltb t (suc n) (omega arith))
      | inr h ↦
          elim (look (eqb t n)) [
            | inl e ↦
                let q = eqb-true t n e in
                ap (λ (i : ℕ). bit_of (bits n f + cond (f n) (2 ^ n) 0) i) q ∙ bit_top (bits n f) n (f n) (bits_small n f)
                ∙ ap f (sym q) ∙ rw (lt-ltb t (suc n) (omega arith))
            | inr e ↦
                let q : t ≡ n → ⊥ = eqb-false t n e in
                let b = ltb-false t n h in
                let m : suc n ≤ t = omega arith in
                bit_above (bits (suc n) f) t (omega (arith, bits_small (suc n) f, pow_mono {i = suc n} {j = t} m)) ∙ rw (le-ltb t (suc n) m)
          ]
    ]
