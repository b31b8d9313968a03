-- The lengths of months and the days before each, one month after another; and sums that never fall, as the days before months and years are: a
-- number lies between two neighbours of such a sum at one place only. Assumes nothing.
use Rattle.std.proofs.Common.{◌≡◌, refl, sym, ap, ◌∙◌, subst, ◌⊎◌, inl, inr, ℕ, zero, suc, ◌+◌, ◌-◌, ◌*◌, ◌/◌, ◌%◌, ◌<◌, ◌≤◌, arith, get_or, lt-ltb, le-ltb}
use Rattle.std.proofs.Math.Decide.{dec_lt}
use Rattle.rules.specs.Calendar.{february, months, month_length, in_months, in_years}
use Rattle.calendar.specs.Parts.{march_year, SinceMarch, MonthIs}
use Rattle.calendar.proofs.YearLaws.{february_bounds, year_days, years_more, years_closed}

-- sums that never fall
module _ (f : ℕ → ℕ) (up : (k : ℕ) → f k ≤ f (suc k)) where
  pub never_falls : (j k : ℕ) → j ≤ k → f j ≤ f k
  never_falls j zero h = let e : j ≡ 0 = omega arith in rw e (omega arith)
  never_falls j (suc k) h = elim (dec_lt j (suc k)) [
    | yes p ↦ omega (arith, never_falls j k (omega arith), up k)
    | no n ↦ let e : j ≡ suc k = omega arith in rw e (omega arith)
  ]

  pub one_place : (a b x : ℕ) → f a ≤ x → x < f (suc a) → f b ≤ x → x < f (suc b) → a ≡ b
  one_place a b x la ha lb hb = elim (dec_lt a b) [
    | yes p ↦ absurd (omega (arith, never_falls (suc a) b p))
    | no n ↦ elim (dec_lt b a) [
      | yes q ↦ absurd (omega (arith, never_falls (suc b) a q))
      | no m ↦ omega arith
    ]
  ]

-- what holds of each of the twelve holds of every month
module _ (P : ℕ → Type 0) where
  from : (a : ℕ) → P a → ((m : ℕ) → suc a ≤ m → m ≤ 12 → P m) → (m : ℕ) → a ≤ m → m ≤ 12 → P m
  from a p later m low high = elim (dec_lt a m) [
    | yes q ↦ later m q high
    | no q ↦ subst P (let e : a ≡ m = omega arith in e) p
  ]

  each_month : P 1 → P 2 → P 3 → P 4 → P 5 → P 6 → P 7 → P 8 → P 9 → P 10 → P 11 → P 12 → (m : ℕ) → 1 ≤ m → m ≤ 12 → P m
  each_month a b c d e f g h i j k l =
      from 1 a (from 2 b (from 3 c (from 4 d (from 5 e (from 6 f
      (from 7 g (from 8 h (from 9 i (from 10 j (from 11 k (from 12 l (λ m low high. absurd (omega arith)))))))))))))

-- the lengths
pub month_bounds : (y m : ℕ) → 1 ≤ m → m ≤ 12 → (28 ≤ month_length y m) × (month_length y m ≤ 31)
unfolding month_length
month_bounds y =
    each_month (λ (m : ℕ). (28 ≤ get_or (months y) (m - 1) 0) × (get_or (months y) (m - 1) 0 ≤ 31))
    (omega arith) (omega (arith, february_bounds y)) (omega arith) (omega arith) (omega arith) (omega arith)
    (omega arith) (omega arith) (omega arith) (omega arith) (omega arith) (omega arith)

pub no_longer : (y m d : ℕ) → 1 ≤ m → m ≤ 12 → d ≤ 28 → d ≤ month_length y m
no_longer y m d h g k = omega (arith, month_bounds y m h g)

abbrev Of30 : ℕ → Type 0
Of30 m = (m ≡ 4) ⊎ ((m ≡ 6) ⊎ ((m ≡ 9) ⊎ (m ≡ 11)))

pub month_february : (y m : ℕ) → m ≡ 2 → february y ≡ month_length y m
unfolding month_length
month_february y m e = rw e

pub month_30 : (y m : ℕ) → Of30 m → 30 ≡ month_length y m
unfolding month_length
month_30 y m (inl e) = rw e
month_30 y m (inr (inl e)) = rw e
month_30 y m (inr (inr (inl e))) = rw e
month_30 y m (inr (inr (inr e))) = rw e

pub month_31 : (y m : ℕ) → 1 ≤ m → m ≤ 12 → (m ≡ 2 → ⊥) → (Of30 m → ⊥) → 31 ≡ month_length y m
unfolding month_length
month_31 y =
    each_month (λ (m : ℕ). (m ≡ 2 → ⊥) → (Of30 m → ⊥) → 31 ≡ get_or (months y) (m - 1) 0)
    (λ f g. refl) (λ f g. absurd (f refl)) (λ f g. refl) (λ f g. absurd (g (inl refl)))
    (λ f g. refl) (λ f g. absurd (g (inr (inl refl)))) (λ f g. refl) (λ f g. refl)
    (λ f g. absurd (g (inr (inr (inl refl))))) (λ f g. refl) (λ f g. absurd (g (inr (inr (inr refl))))) (λ f g. refl)

-- the days before a month
pub months_up : (y k : ℕ) → in_months y k ≤ in_months y (suc k)
unfolding in_months
months_up y k = omega arith

pub months_small : (y k : ℕ) → k ≤ 12 → in_months y k ≤ 366
months_small y k h = omega (arith, never_falls (in_months y) (months_up y) k 12 h, year_days y, february_bounds y)

pub months_more : (y m : ℕ) → 1 ≤ m → in_months y m ≡ in_months y (m - 1) + month_length y m
unfolding in_months month_length
months_more y zero h = absurd (omega arith)
months_more y (suc m) h = let e : suc m - 1 ≡ m = omega arith in rw e

-- the days since March, before a month from March on and before one of the next year
module _ (m k s : ℕ) (e : m ≡ k) where
  pub since_late : 3 ≤ k → ((y : ℕ) → in_months y 2 + s ≡ in_months y (k - 1)) → SinceMarch m s
  since_late h f = record { early = λ (g : m < 3) y. absurd (omega arith); late = λ (g : 3 ≤ m) y. rw e (f y) }

  pub since_early : k < 3 → ((y : ℕ) → s ≡ 306 + in_months y (k - 1)) → SinceMarch m s
  since_early h f = record { early = λ (g : m < 3) y. rw e (f y); late = λ (g : 3 ≤ m) y. absurd (omega arith) }

-- the days to a month, from those to its year from March on
module _ (y m : ℕ) where
  pub march_early : m < 3 → y ≡ march_year y m
  march_early h = rw (lt-ltb m 3 h)

  march_late : 3 ≤ m → y + 1 ≡ march_year y m
  march_late h = rw (le-ltb m 3 h)

  pub march_bounds : (y ≤ march_year y m) × (march_year y m ≤ y + 1)
  march_bounds = elim (dec_lt m 3) [
    | yes p ↦ omega (arith, march_early p)
    | no q ↦ omega (arith, march_late (omega arith))
  ]

  pub two_months : in_months y 2 ≡ 31 + february y
  unfolding in_months
  two_months = omega arith

  next_year : 1600 ≤ y → in_years (y + 1 - 1600) ≡ in_years (y - 1600) + in_months y 12
  next_year h =
      let f : y + 1 - 1600 ≡ suc (y - 1600) = omega arith in
      let g : 1600 + (y - 1600) ≡ y = omega arith in
      ap in_years f ∙ years_more (y - 1600) ∙ ap (λ (z : ℕ). in_years (y - 1600) + in_months z 12) g

  pub from_march : (k a s : ℕ) → 1600 ≤ y → k ≡ march_year y m → a ≡ in_years (k - 1600) → SinceMarch m s
      → a + s ≡ in_years (y - 1600) + in_months y (m - 1) + 306
  from_march k a s h f e S = elim (dec_lt m 3) [
    | yes p ↦ omega (arith, e ∙ ap (λ (z : ℕ). in_years (z - 1600)) (f ∙ sym (march_early p)), S.early p y)
    | no q ↦
        let l : 3 ≤ m = omega arith in
        let g = e ∙ ap (λ (z : ℕ). in_years (z - 1600)) (f ∙ sym (march_late l)) in
        omega (arith, g, next_year h, year_days y, two_months, S.late l y)
  ]

  pub days_fit : y ≤ 2399 → m ≤ 12 → in_years (y - 1600) + in_months y (m - 1) ≤ 300000
  days_fit h g = omega (arith, years_closed (y - 1600), months_small y (m - 1) (omega arith))

-- the month of a day that is d days into a year from March on, and t days into the month
module _ (d t : ℕ) (h : d < 366) (et : t ≡ (5 * d + 2) % 153 / 5) where
  placed : (m s : ℕ) → 1 ≤ m → m ≤ 12 → t + s ≡ d → SinceMarch m s → (m ≡ 2) ⊎ ((y : ℕ) → t < month_length y m) → MonthIs d m t
  placed m s l g f S c =
      let e : d - t ≡ s = omega arith in
      record { first = l; last = g; few = omega arith; since = rw e S; short = c }

  late_at : (m s : ℕ) → (3 ≤ m) × (m ≤ 12) × (t + s ≡ d) → ((y : ℕ) → in_months y 2 + s ≡ in_months y (m - 1))
      → (t + s ≡ d → (y : ℕ) → t < month_length y m) → MonthIs d m t
  late_at m s p f g = placed m s (omega (arith, p.0)) p.1 p.2 (since_late m m s refl p.0 f) (inr (g p.2))

  pub month_late : (m : ℕ) → 1 ≤ m → m ≤ 12 → (5 * d + 2) / 153 + 3 ≡ m → MonthIs d m t
  unfolding in_months month_length
  month_late =
      each_month (λ (m : ℕ). (5 * d + 2) / 153 + 3 ≡ m → MonthIs d m t)
      (λ e. absurd (omega arith)) (λ e. absurd (omega arith))
      (λ e. late_at 3 0 (omega arith) (λ y. omega arith) (λ f y. omega arith))
      (λ e. late_at 4 31 (omega arith) (λ y. omega arith) (λ f y. omega arith))
      (λ e. late_at 5 61 (omega arith) (λ y. omega arith) (λ f y. omega arith))
      (λ e. late_at 6 92 (omega arith) (λ y. omega arith) (λ f y. omega arith))
      (λ e. late_at 7 122 (omega arith) (λ y. omega arith) (λ f y. omega arith))
      (λ e. late_at 8 153 (omega arith) (λ y. omega arith) (λ f y. omega arith))
      (λ e. late_at 9 184 (omega arith) (λ y. omega arith) (λ f y. omega arith))
      (λ e. late_at 10 214 (omega arith) (λ y. omega arith) (λ f y. omega arith))
      (λ e. late_at 11 245 (omega arith) (λ y. omega arith) (λ f y. omega arith))
      (λ e. late_at 12 275 (omega arith) (λ y. omega arith) (λ f y. omega arith))

  pub month_early : (m : ℕ) → (5 * d + 2) / 153 ≡ m + 9 → 1 ≤ m → MonthIs d m t
  unfolding in_months month_length
  month_early m e l = elim (dec_lt m 2) [
    | yes p ↦
        let k : m ≡ 1 = omega arith in
        placed m 306 l (omega arith) (omega arith) (since_early m 1 306 k (omega arith) (λ y. omega arith)) (inr (λ y. rw k (omega arith)))
    | no q ↦
        let k : m ≡ 2 = omega arith in
        placed m 337 l (omega arith) (omega arith) (since_early m 2 337 k (omega arith) (λ y. omega arith)) (inl k)
  ]
