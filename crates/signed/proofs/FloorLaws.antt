-- Division rounded toward zero, as the machine has it, made into division rounded down: where the remainder is below zero, the quotient is one
-- less and the divisor is added to the remainder. Below zero, -(a + 1) is divided by dividing a + 1, whose quotient and remainder are those of a
-- but for one step. Assumes nothing.
use Rattle.std.proofs.Common.{◌≡◌, refl, sym, ap, ◌∙◌, ◌⊎◌, inl, inr, Bool, true, false, ℕ, zero, suc, ◌+◌, ◌-◌, ◌*◌, ◌/◌, ◌%◌, ◌<◌, ◌≤◌, div-add-mod', mod-lt, div-le_self, suc-mul, add-mul, div-lt_iff_lt-mul, arith, T, ltb, ℤ, pos, negsuc, neg_ℤ, nat_abs, ◌+ℤ◌, ◌-ℤ◌, ◌*ℤ◌, ◌<ℤ◌, le-ltb, lt-ltb, ltb-true, w32, SFits, of_z}
use Rattle.std.proofs.Math.Nat.{add-mul-div_right, add-mul-mod_self_right}
use Rattle.std.proofs.Math.Decide.{dec_lt}
use Rattle.std.proofs.Math.Arith.{digits_div, digits_mod}
use lib.Signed.{mag, mag_rem, lt_z, quot_z, rem_z}
use mir.ValLaws.{to_z-of_z}
use Rattle.rules.proofs.Tests.{clash}
use Rattle.signed.specs.Floor.{times, rest}
use Rattle.signed.proofs.Integers.{rd, sub_ge, sub_is}

-- one more than a: either the remainder grows, or it starts anew
Grows : ℕ → ℕ → Type 0
Grows a k = (suc (a % k) < k) × (suc a / k ≡ a / k) × (suc a % k ≡ suc (a % k))

Anew : ℕ → ℕ → Type 0
Anew a k = (suc (a % k) ≡ k) × (suc a / k ≡ suc (a / k)) × (suc a % k ≡ 0)

one_more : (a k : ℕ) → 0 < k → Grows a k ⊎ Anew a k
unfolding Grows Anew
one_more a k h = elim (dec_lt (suc (a % k)) k) [
  | yes p ↦ inl (p, ap (λ (x : ℕ). x / k) (grown p) ∙ digits_div (a / k) p, ap (λ (x : ℕ). x % k) (grown p) ∙ digits_mod (a / k) p)
  | no f ↦
      let e : suc (a % k) ≡ k = omega (arith, mod-lt a h) in
      inr (e, ap (λ (x : ℕ). x / k) (full e) ∙ digits_div (suc (a / k)) h, ap (λ (x : ℕ). x % k) (full e) ∙ digits_mod (suc (a / k)) h)
]
  where
    grown : suc (a % k) < k → suc a ≡ a / k * k + suc (a % k)
    grown p = omega (arith, div-add-mod' a k)

    full : suc (a % k) ≡ k → suc a ≡ suc (a / k) * k + 0
    full e = rw suc-mul (omega (arith, div-add-mod' a k))

-- the machine's quotient and remainder set right
neg_less : (q : ℕ) → neg_ℤ (pos q) -ℤ pos 1 ≡ negsuc q
neg_less zero = refl
neg_less (suc q) = ap (λ (n : ℕ). negsuc (suc n)) (let e : q + 0 ≡ q = omega arith in e)

up : (r k : ℕ) → suc r < k → negsuc r +ℤ pos k ≡ pos (k - suc r)
up r k h = rw (le-ltb k (suc r) (omega arith))

module _ (Q R q r k : ℕ) where
  below_grows : suc r < k → Q ≡ q → R ≡ suc r → (neg_ℤ (pos Q) -ℤ pos 1 ≡ negsuc q) × (neg_ℤ (pos R) +ℤ pos k ≡ pos (k - suc r))
  below_grows h e f = rw (e, f) (neg_less q, up r k h)

  level_anew : suc r ≡ k → Q ≡ suc q → R ≡ 0 → (neg_ℤ (pos Q) ≡ negsuc q) × (neg_ℤ (pos R) ≡ pos (k - suc r))
  level_anew h e f = rw (e, f) (refl, ap pos (let g : 0 ≡ k - suc r = omega arith in g))

  at_zero : {A : Type 0} → R ≡ 0 → lt_z (neg_ℤ (pos R)) (pos 0) ≡ true → A
  at_zero f t = clash (ap (λ (x : ℕ). lt_z (neg_ℤ (pos x)) (pos 0)) (sym f) ∙ t) refl

  at_suc : {A : Type 0} → R ≡ suc r → lt_z (neg_ℤ (pos R)) (pos 0) ≡ false → A
  at_suc f t = clash refl (ap (λ (x : ℕ). lt_z (neg_ℤ (pos x)) (pos 0)) (sym f) ∙ t)

below : (n : ℤ) (k : ℕ) → 0 < k → lt_z (rem_z n (pos k)) (pos 0) ≡ true
    → (quot_z n (pos k) -ℤ pos 1 ≡ times n k) × (rem_z n (pos k) +ℤ pos k ≡ pos (rest n k))
unfolding Grows Anew
below (pos a) k h t = absurd (let z = ltb-true (a % k) 0 t in omega arith)
below (negsuc a) k h t = elim (one_more a k h) [
  | inl g ↦ below_grows (suc a / k) (suc a % k) (a / k) (a % k) k g.0 g.1 g.2
  | inr g ↦ at_zero (suc a / k) (suc a % k) (a / k) (a % k) k g.2 t
]

level : (n : ℤ) (k : ℕ) → 0 < k → lt_z (rem_z n (pos k)) (pos 0) ≡ false
    → (quot_z n (pos k) ≡ times n k) × (rem_z n (pos k) ≡ pos (rest n k))
unfolding Grows Anew
level (pos a) k h t = (refl, refl)
level (negsuc a) k h t = elim (one_more a k h) [
  | inl g ↦ at_suc (suc a / k) (suc a % k) (a / k) (a % k) k g.2 t
  | inr g ↦ level_anew (suc a / k) (suc a % k) (a / k) (a % k) k g.0 g.1 g.2
]

-- each fits where the number does
neg_mag : (q a : ℕ) → q ≤ suc a → mag (neg_ℤ (pos q)) ≤ a
neg_mag zero a h = omega arith
neg_mag (suc q) a h = omega arith

quot_fits : (n : ℤ) (k : ℕ) → SFits w32 n → SFits w32 (quot_z n (pos k))
quot_fits (pos a) k f = record { sfits = omega (arith, f.sfits, div-le_self a k) }
quot_fits (negsuc a) k f = record { sfits = omega (arith, f.sfits, neg_mag (suc a / k) a (div-le_self (suc a) k)) }

rem_fits : (n : ℤ) (k : ℕ) → SFits w32 n → SFits w32 (rem_z n (pos k))
rem_fits n k f = record { sfits = omega (arith, f.sfits, mag_rem n (pos k)) }

pub times_fits : (n : ℤ) (k : ℕ) → SFits w32 n → SFits w32 (times n k)
times_fits (pos a) k f = record { sfits = omega (arith, f.sfits, div-le_self a k) }
times_fits (negsuc a) k f = record { sfits = omega (arith, f.sfits, div-le_self a k) }

-- what makes it division: the remainder is less than the divisor, and the two give back the number
pub rest_lt : (n : ℤ) (k : ℕ) → 0 < k → rest n k < k
rest_lt (pos a) k h = mod-lt a h
rest_lt (negsuc a) k h = omega (arith, mod-lt a h)

neg_add : (m x a : ℕ) → m ≡ x + suc a → neg_ℤ (pos m) +ℤ pos x ≡ negsuc a
neg_add zero x a e = absurd (omega arith)
neg_add (suc m) x a e = rw (lt-ltb x (suc m) (omega arith)) (ap negsuc (let g : suc m - suc x ≡ a = omega arith in g))

pub times_rest : (n : ℤ) (k : ℕ) → 0 < k → times n k *ℤ pos k +ℤ pos (rest n k) ≡ n
times_rest (pos a) k h = ap pos (div-add-mod' a k)
times_rest (negsuc a) k h = neg_add (suc (a / k) * k) (k - suc (a % k)) a (rw suc-mul (omega (arith, div-add-mod' a k, mod-lt a h)))

-- a positive divisor
T_true : (b : Bool) → T b → b ≡ true
T_true true t = refl
T_true false t = absurd t

positive : (d : ℤ) → pos 0 <ℤ d → 0 < nat_abs d
positive (pos k) h = ltb-true 0 k (T_true (ltb 0 k) h.lt)
positive (negsuc k) h = absurd h.lt

is_pos : (d : ℤ) → pos 0 <ℤ d → pos (nat_abs d) ≡ d
is_pos (pos k) h = refl
is_pos (negsuc k) h = absurd h.lt

above_zero : (d : ℤ) → pos 0 <ℤ d → 0 < of_z w32 d
above_zero (pos k) h = omega (arith, positive (pos k) h)
above_zero (negsuc k) h = absurd h.lt

rest_fits : (n d : ℤ) → SFits w32 d → pos 0 <ℤ d → SFits w32 (pos (rest n (nat_abs d)))
rest_fits n (pos k) f h = record { sfits = omega (arith, f.sfits, rest_lt n k (omega (arith, positive (pos k) h))) }
rest_fits n (negsuc k) f h = absurd h.lt

-- the needs of `split`, at what the machine reads back
module _ (n d : ℤ) (fn : SFits w32 n) (fd : SFits w32 d) (h : pos 0 <ℤ d) where
  abbrev q : ℤ
  q = quot_z (rd n) (rd d)

  abbrev r : ℤ
  r = rem_z (rd n) (rd d)

  quot_is : q ≡ quot_z n (pos (nat_abs d))
  quot_is = rw (to_z-of_z w32 n fn, to_z-of_z w32 d fd, is_pos d h)

  rem_is : r ≡ rem_z n (pos (nat_abs d))
  rem_is = rw (to_z-of_z w32 n fn, to_z-of_z w32 d fd, is_pos d h)

  quot_ok : SFits w32 q
  quot_ok = rw quot_is (quot_fits n (nat_abs d) fn)

  quot_rd : rd q ≡ quot_z n (pos (nat_abs d))
  quot_rd = to_z-of_z w32 _ quot_ok ∙ quot_is

  rem_rd : rd r ≡ rem_z n (pos (nat_abs d))
  rem_rd = to_z-of_z w32 _ (rw rem_is (rem_fits n (nat_abs d) fn)) ∙ rem_is

  pub divides : (0 < of_z w32 d) × SFits w32 q
  divides = (above_zero d h, quot_ok)

  module _ (t : lt_z (rd r) (pos 0) ≡ true) where
    set_right : (rd q -ℤ pos 1 ≡ times n (nat_abs d)) × (rd r +ℤ rd d ≡ pos (rest n (nat_abs d)))
    set_right =
        let p = below n (nat_abs d) (positive d h) (rw rem_rd at t) in (
          ap (λ (z : ℤ). z -ℤ pos 1) quot_rd ∙ p.0,
          ap (λ (z : ℤ). z +ℤ rd d) rem_rd
              ∙ ap (λ (z : ℤ). rem_z n (pos (nat_abs d)) +ℤ z) (to_z-of_z w32 d fd ∙ sym (is_pos d h)) ∙ p.1,
        )

    pub less_fits : SFits w32 (rd q -ℤ pos 1)
    less_fits = rw set_right.0 (times_fits n (nat_abs d) fn)

    pub more_fits : SFits w32 (rd r +ℤ rd d)
    more_fits = rw set_right.1 (rest_fits n d fd h)

    pub splits_below : (rd (rd q -ℤ pos 1) ≡ times n (nat_abs d)) × (rd (rd r +ℤ rd d) ≡ pos (rest n (nat_abs d)))
    splits_below = (to_z-of_z w32 _ less_fits ∙ set_right.0, to_z-of_z w32 _ more_fits ∙ set_right.1)

  pub splits_level : lt_z (rd r) (pos 0) ≡ false → (rd q ≡ times n (nat_abs d)) × (rd r ≡ pos (rest n (nat_abs d)))
  splits_level t = let p = level n (nat_abs d) (positive d h) (rw rem_rd at t) in (quot_rd ∙ p.0, rem_rd ∙ p.1)

-- j divisors added to a number, so that it is a natural number i: the quotient is j less than that of i, and the remainder is the same
lift_at : (a d j i : ℕ) → 0 < d → j * d ≡ suc a + i → (a / d < j) × (i ≡ (j - suc (a / d)) * d + (d - suc (a % d)))
lift_at a d j i h e =
    let q : a / d < j = (div-lt_iff_lt-mul h).1 (omega arith) in
    let g : j ≡ suc (a / d) + (j - suc (a / d)) = omega arith in
    let s = add-mul (suc (a / d)) (j - suc (a / d)) d in
    (q, omega (arith, ap (λ (x : ℕ). x * d) g, s, suc-mul (a / d) d, div-add-mod' a d, mod-lt a h))

pub lift : (n : ℤ) (d j i : ℕ) → 0 < d → n +ℤ pos (j * d) ≡ pos i → (times n d +ℤ pos j ≡ pos (i / d)) × (rest n d ≡ i % d)
lift (pos a) d j i h e =
    let p = ap nat_abs e in (
      ap pos (sym (add-mul-div_right a j h) ∙ ap (λ (x : ℕ). x / d) p),
      sym (add-mul-mod_self_right a j d) ∙ ap (λ (x : ℕ). x % d) p,
    )
lift (negsuc a) d j i h e =
    let p = lift_at a d j i h (sub_is (j * d) (suc a) i e) in
    let r : d - suc (a % d) < d = omega arith in (
      sub_ge j (suc (a / d)) p.0 ∙ ap pos (sym (ap (λ (x : ℕ). x / d) p.1 ∙ digits_div (j - suc (a / d)) r)),
      sym (ap (λ (x : ℕ). x % d) p.1 ∙ digits_mod (j - suc (a / d)) r),
    )
