-- Sums and differences of integers: a difference of two natural numbers by their order, and how far from zero another is at most, which tells
-- whether it fits 32 bits. Assumes nothing.
use Rattle.std.proofs.Common.{◌≡◌, sym, ap, ◌∙◌, inl, inr, ℕ, zero, suc, ◌+◌, ◌-◌, ◌<◌, ◌≤◌, arith, T, ltb, ℤ, pos, negsuc, neg_ℤ, nat_abs, ◌+ℤ◌, ◌-ℤ◌, ltb-true, ltb-false, lt-ltb, le-ltb, w32, SFits, Fits, to_z, of_z}
use Rattle.std.proofs.Math.IntN.{sub_ℕ}
use lib.Signed.{mag, le_z, lt_z, non_neg}
use mir.ValLaws.{to_z-of_z}
use Rattle.rules.proofs.Tests.{look}

-- what the machine reads back from a number's bits
abbrev pub rd : ℤ → ℤ
rd z = to_z w32 (of_z w32 z)

-- a number that fits is read back unchanged, so that two are compared as they are
pub read_back : (z : ℤ) → mag z < 2147483648 → rd z ≡ z
read_back z h = to_z-of_z w32 z (record { sfits = h })

module _ (x y : ℤ) (h : mag x < 2147483648) (k : mag y < 2147483648) where
  pub read_le : le_z (rd x) (rd y) ≡ le_z x y
  read_le = rw (read_back x h, read_back y k)

  pub read_lt : lt_z (rd x) (rd y) ≡ lt_z x y
  read_lt = rw (read_back x h, read_back y k)

pub sub_ge : (a b : ℕ) → b ≤ a → sub_ℕ a b ≡ pos (a - b)
sub_ge a b h = rw (le-ltb a b h)

pub sub_lt : (a b : ℕ) → a < b → sub_ℕ a b ≡ negsuc (b - suc a)
sub_lt a b h = rw (lt-ltb a b h)

-- a difference that is not below zero
pub sub_is : (a b i : ℕ) → sub_ℕ a b ≡ pos i → a ≡ b + i
sub_is a b i e = elim (look (ltb a b)) [
  | inl h ↦ absurd (let z : ◌≡◌ {A = ℕ} 0 1 = clash (sym (sub_lt a b (ltb-true a b h)) ∙ e) in omega arith)
  | inr h ↦ let p = ap nat_abs (sym (sub_ge a b (ltb-false a b h)) ∙ e) in omega (arith, p, ltb-false a b h)
]
  where
    clash : negsuc (b - suc a) ≡ pos i → ◌≡◌ {A = ℕ} 0 1
    clash q = cc

mag_sub : (a b : ℕ) → mag (sub_ℕ a b) ≤ a + b
mag_sub a b = elim (look (ltb a b)) [ inl h ↦ rw h (omega arith) | inr h ↦ rw h (omega arith) ]

mag_sum : (x y : ℤ) → mag (x +ℤ y) ≤ suc (mag x + mag y)
mag_sum (pos a) (pos b) = omega arith
mag_sum (pos a) (negsuc b) = omega (arith, mag_sub a (suc b))
mag_sum (negsuc a) (pos b) = omega (arith, mag_sub b (suc a))
mag_sum (negsuc a) (negsuc b) = omega arith

mag_neg : (y : ℤ) → mag (neg_ℤ y) ≤ suc (mag y)
mag_neg (pos zero) = omega arith
mag_neg (pos (suc n)) = omega arith
mag_neg (negsuc n) = omega arith

-- the difference of two numbers that are near enough to zero fits
pub minus_fits : (x y : ℤ) (m n : ℕ) → mag x ≤ m → mag y ≤ n → m + n < 2147483646 → SFits w32 (x -ℤ y)
minus_fits x y m n h k l = record { sfits = omega (arith, mag_sum x (neg_ℤ y), mag_neg y) }

pub fits_pos : (n : ℕ) → n < 2147483648 → SFits w32 (pos n)
fits_pos n h = record { sfits = omega arith }

-- the cast to an unsigned number of one that is not below zero
pub cast_pos : (z : ℤ) (n : ℕ) → z ≡ pos n → n < 4294967296 → T (non_neg z) × Fits w32 (nat_abs z)
cast_pos z n e h = rw e (tt, record { fits = omega arith })
