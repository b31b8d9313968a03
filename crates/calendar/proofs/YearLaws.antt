-- Leap years, and the days of the years from 1600 on in closed form: 365 each, one more for each fourth, one less for each hundredth, one more for
-- each four-hundredth. A year is of one of four kinds, and for each kind the closed form grows by the year's days. Assumes nothing.
use Rattle.std.proofs.Common.{◌≡◌, refl, sym, ◌∙◌, inl, inr, true, false, ℕ, zero, suc, ◌+◌, ◌-◌, ◌*◌, ◌/◌, ◌%◌, ◌≤◌, arith, eqb, eq-eqb, ne_eqb, eqb-true}
use borrow.Author.Tests.{eqb-false}
use Rattle.rules.specs.Calendar.{is_leap, february, in_months, in_years}
use Rattle.rules.proofs.Tests.{look}

-- leap years
module _ (y : ℕ) where
  leap_no : (y % 4 ≡ 0 → ⊥) → false ≡ is_leap y
  unfolding is_leap
  leap_no h = rw (ne_eqb (y % 4) 0 h)

  leap_fourth : y % 4 ≡ 0 → (y % 100 ≡ 0 → ⊥) → true ≡ is_leap y
  unfolding is_leap
  leap_fourth h k = rw (eq-eqb (y % 4) 0 h, ne_eqb (y % 100) 0 k)

  leap_hundredth : y % 4 ≡ 0 → y % 100 ≡ 0 → eqb (y % 400) 0 ≡ is_leap y
  unfolding is_leap
  leap_hundredth h k = rw (eq-eqb (y % 4) 0 h, eq-eqb (y % 100) 0 k)

  pub february_leap : is_leap y ≡ true → february y ≡ 29
  unfolding february
  february_leap e = rw e

  pub february_plain : is_leap y ≡ false → february y ≡ 28
  unfolding february
  february_plain e = rw e

  pub february_bounds : (28 ≤ february y) × (february y ≤ 29)
  february_bounds = elim (look (is_leap y)) [ inl h ↦ omega (arith, february_leap h) | inr h ↦ omega (arith, february_plain h) ]

  pub year_days : in_months y 12 ≡ 337 + february y
  unfolding in_months
  year_days = omega arith

-- the four kinds of year
data Kind (y : ℕ) : Type 0 where
  plain : (y % 4 ≡ 0 → ⊥) → february y ≡ 28 → Kind y
  fourth : y % 4 ≡ 0 → (y % 100 ≡ 0 → ⊥) → february y ≡ 29 → Kind y
  hundredth : y % 4 ≡ 0 → y % 100 ≡ 0 → (y % 400 ≡ 0 → ⊥) → february y ≡ 28 → Kind y
  last : y % 4 ≡ 0 → y % 100 ≡ 0 → y % 400 ≡ 0 → february y ≡ 29 → Kind y

kind : (y : ℕ) → Kind y
kind y = elim (look (eqb (y % 4) 0)) [
  | inr h ↦ plain (eqb-false _ _ h) (february_plain y (sym (leap_no y (eqb-false _ _ h))))
  | inl h ↦ let e = eqb-true _ _ h in elim (look (eqb (y % 100) 0)) [
    | inr g ↦ fourth e (eqb-false _ _ g) (february_leap y (sym (leap_fourth y e (eqb-false _ _ g))))
    | inl g ↦ let f = eqb-true _ _ g in elim (look (eqb (y % 400) 0)) [
      | inr k ↦ hundredth e f (eqb-false _ _ k) (february_plain y (sym (leap_hundredth y e f) ∙ k))
      | inl k ↦ last e f (eqb-true _ _ k) (february_leap y (sym (leap_hundredth y e f) ∙ k))
    ]
  ]
]

not_hundredth : (y : ℕ) → (y % 4 ≡ 0 → ⊥) → y % 100 ≡ 0 → ⊥
not_hundredth y h e = omega arith

not_last : (y : ℕ) → (y % 100 ≡ 0 → ⊥) → y % 400 ≡ 0 → ⊥
not_last y h e = omega arith

-- the days of the k years from 1600 on
abbrev pub closed : ℕ → ℕ
closed k = 365 * k + (k + 3) / 4 - (k + 99) / 100 + (k + 399) / 400

-- each count of leap years alone
module _ (k : ℕ) where
  four : (1600 + k) % 4 ≡ 0 → (suc k + 3) / 4 ≡ suc ((k + 3) / 4)
  four h = omega arith

  four_no : ((1600 + k) % 4 ≡ 0 → ⊥) → (suc k + 3) / 4 ≡ (k + 3) / 4
  four_no h = omega arith

  hundred : (1600 + k) % 100 ≡ 0 → (suc k + 99) / 100 ≡ suc ((k + 99) / 100)
  hundred h = omega arith

  hundred_no : ((1600 + k) % 100 ≡ 0 → ⊥) → (suc k + 99) / 100 ≡ (k + 99) / 100
  hundred_no h = omega arith

  four_hundred : (1600 + k) % 400 ≡ 0 → (suc k + 399) / 400 ≡ suc ((k + 399) / 400)
  four_hundred h = omega arith

  four_hundred_no : ((1600 + k) % 400 ≡ 0 → ⊥) → (suc k + 399) / 400 ≡ (k + 399) / 400
  four_hundred_no h = omega arith

  pub hundreds_fewer : (k + 99) / 100 ≤ (k + 3) / 4
  hundreds_fewer = omega arith

-- the closed form's growth, over what the counts are
module _ (k a b c : ℕ) (h : b ≤ a) where
  grows_plain : 365 * suc k + a - b + c ≡ 365 * k + a - b + c + (337 + 28)
  grows_plain = omega arith

  grows_fourth : 365 * suc k + suc a - b + c ≡ 365 * k + a - b + c + (337 + 29)
  grows_fourth = omega arith

  grows_hundredth : 365 * suc k + suc a - suc b + c ≡ 365 * k + a - b + c + (337 + 28)
  grows_hundredth = omega arith

  grows_last : 365 * suc k + suc a - suc b + suc c ≡ 365 * k + a - b + c + (337 + 29)
  grows_last = omega arith

closed_more : (k : ℕ) → Kind (1600 + k) → closed (suc k) ≡ closed k + (337 + february (1600 + k))
closed_more k (plain h f) =
    let g = not_hundredth (1600 + k) h in
    rw (four_no k h, hundred_no k g, four_hundred_no k (not_last (1600 + k) g), f) (grows_plain k _ _ _ (hundreds_fewer k))
closed_more k (fourth h g f) =
    rw (four k h, hundred_no k g, four_hundred_no k (not_last (1600 + k) g), f) (grows_fourth k _ _ _ (hundreds_fewer k))
closed_more k (hundredth h g j f) = rw (four k h, hundred k g, four_hundred_no k j, f) (grows_hundredth k _ _ _ (hundreds_fewer k))
closed_more k (last h g j f) = rw (four k h, hundred k g, four_hundred k j, f) (grows_last k _ _ _ (hundreds_fewer k))

pub years_closed : (k : ℕ) → in_years k ≡ closed k
unfolding in_years
years_closed zero = refl
years_closed (suc k) = rw (years_closed k, year_days (1600 + k)) (sym (closed_more k (kind (1600 + k))))

pub years_more : (k : ℕ) → in_years (suc k) ≡ in_years k + in_months (1600 + k) 12
unfolding in_years
years_more k = refl

pub years_up : (k : ℕ) → in_years k ≤ in_years (suc k)
years_up k = omega (arith, years_more k)
