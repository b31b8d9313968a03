-- From days to a date: the century that a day lies in and the year in it, years being from March on, and the date that these and a month make up.
-- Assumes nothing.
use Rattle.std.proofs.Common.{◌≡◌, sym, ap, ◌∙◌, inl, inr, ℕ, suc, ◌+◌, ◌-◌, ◌*◌, ◌/◌, ◌%◌, ◌<◌, ◌≤◌, arith}
use Rattle.std.proofs.Math.Decide.{dec_lt}
use Rattle.rules.specs.Calendar.{date, february, month_length, in_months, in_years, days_to, date_after}
use Rattle.calendar.specs.Parts.{march_year, CenturyIs, YearIs, MonthIs}
use Rattle.calendar.proofs.YearLaws.{closed, hundreds_fewer, year_days, years_closed, years_more}
use Rattle.calendar.proofs.MonthLaws.{never_falls, months_up, months_more, march_bounds, march_early, from_march, two_months, month_february}
use Rattle.calendar.proofs.DateLaws.{date_after_lem}

-- n in quarters: p of them in whole parts and r left over
module _ (n p r : ℕ) (e : 4 * n + 3 ≡ p + r) where
  by_quarters : p / 4 + r / 4 ≡ n
  by_quarters = omega arith

below_quarters : (n q : ℕ) → 4 * n + 3 < q → n < q / 4
below_quarters n q h = omega arith

pub century_found : (i c r : ℕ) → i < 292194 → c ≡ (4 * (i + 146037) + 3) / 146097 → r ≡ (4 * (i + 146037) + 3) % 146097 → CenturyIs i c (r / 4)
century_found i c r h ec er = record {
  few = omega arith;
  whole = by_quarters (i + 146037) (146097 * c) r (omega arith);
  short = below_quarters (i + 146037) (146097 * (c + 1)) (omega arith);
}

pub year_found : (d : ℕ) → d < 36525 → YearIs d ((4 * d + 3) / 1461) ((4 * d + 3) % 1461 / 4)
year_found d h = record {
  small = omega arith;
  whole = by_quarters d (1461 * ((4 * d + 3) / 1461)) ((4 * d + 3) % 1461) (omega arith);
  short = below_quarters d (1461 * ((4 * d + 3) / 1461 + 1)) (omega arith);
}

-- the years from 1600 on before the one that ends k years after 1600
module _ (c y k : ℕ) (hy : y < 100) (e : k + 399 ≡ 100 * c + y) where
  fours : (k + 3) / 4 + 99 ≡ 25 * c + y / 4
  fours = omega arith

  hundreds : (k + 99) / 100 + 3 ≡ c
  hundreds = omega arith

  four_hundreds : (k + 399) / 400 ≡ c / 4
  four_hundreds = omega arith

  of_century : 146097 * c / 4 ≡ 36524 * c + c / 4
  of_century = omega arith

  of_year : 1461 * y / 4 ≡ 365 * y + y / 4
  of_year = omega arith

  join : (a b f p : ℕ) → a + 99 ≡ 25 * c + p → b + 3 ≡ c → b ≤ a → 365 * k + a - b + f + 145731 ≡ 36524 * c + f + (365 * y + p)
  join a b f p ea eb l = omega arith

  closed_century : closed k + 145731 ≡ 146097 * c / 4 + 1461 * y / 4
  closed_century = rw (of_century, of_year, four_hundreds) (join _ _ _ _ fours hundreds (hundreds_fewer k))

-- a month from March on is past before January
before_january : (r m t : ℕ) → MonthIs r m t → 3 ≤ m → r < 306
before_january r m t M l = elim M.short [
  | inl e ↦ absurd (omega arith)
  | inr f ↦
      omega (
        arith,
        f 0,
        M.few,
        M.since.late l 0,
        months_more 0 m M.first,
        never_falls (in_months 0) (months_up 0) m 12 M.last,
        year_days 0,
        two_months 0 m,
      )
]

january_31 : (y m : ℕ) → m ≡ 2 → in_months y (m - 1) ≡ 31
unfolding in_months
january_31 y m e = rw e

-- a day's date, from its century, its year and its month
module _ (i c d y r : ℕ) (C : CenturyIs i c d) (Y : YearIs d y r) where
  since_1600 : 399 ≤ 100 * c + y
  since_1600 = elim (dec_lt c 3) [
    | yes p ↦ absurd (let h = C.short in omega arith)
    | no q ↦ elim (dec_lt (100 * c + y) 399) [
      | yes p ↦ absurd (let h = C.whole in let g = Y.short in omega arith)
      | no s ↦ omega arith
    ]
  ]

  years_are : in_years (100 * c + y - 399) + r ≡ i + 306
  years_are =
      let e = closed_century c y (100 * c + y - 399) Y.small (omega (arith, since_1600)) in
      omega (arith, years_closed (100 * c + y - 399), e, C.whole, Y.whole)

  next_closed : i + 146037 < closed (suc (100 * c + y - 399)) + 145731
  next_closed = elim (dec_lt (y + 1) 100) [
    | yes p ↦
        let e = closed_century c (y + 1) (suc (100 * c + y - 399)) p (omega (arith, since_1600)) in
        omega (arith, e, C.whole, Y.short)
    | no q ↦
        let e = closed_century (c + 1) 0 (suc (100 * c + y - 399)) (omega arith) (omega (arith, since_1600, Y.small)) in
        omega (arith, e, C.short)
  ]

  year_ends : r < in_months (1201 + 100 * c + y) 12
  year_ends =
      let f : 1600 + (100 * c + y - 399) ≡ 1201 + 100 * c + y = omega (arith, since_1600) in
      let n = years_more (100 * c + y - 399) ∙ ap (λ (z : ℕ). in_years (100 * c + y - 399) + in_months z 12) f in
      omega (arith, years_are, n, years_closed (suc (100 * c + y - 399)), next_closed)

  module _ (z m t : ℕ) (e : march_year z m ≡ 1200 + 100 * c + y + 1) (M : MonthIs r m t) where
    started : 1600 ≤ z
    started = elim (dec_lt z 1600) [
      | no q ↦ omega arith
      | yes p ↦ absurd (elim (dec_lt m 3) [
        | yes l ↦ omega (arith, since_1600, e, march_early z m l)
        | no l ↦
            let b = before_january r m t M (omega arith) in
            omega (arith, since_1600, e, march_bounds z m, b, years_are, years_closed (100 * c + y - 399))
      ])
    ]

    counts : in_years (100 * c + y - 399) + (r - t) ≡ in_years (z - 1600) + in_months z (m - 1) + 306
    counts =
        let f : 1200 + 100 * c + y + 1 - 1600 ≡ 100 * c + y - 399 = omega arith in
        from_march z m (1200 + 100 * c + y + 1) _ _ started (sym e) (ap in_years (sym f)) M.since

    days_found : days_to (date z m (t + 1)) ≡ i
    unfolding days_to
    days_found = omega (arith, counts, years_are, M.few)

    day_high : t + 1 ≤ month_length z m
    day_high = elim M.short [
      | inr f ↦ omega (arith, f z)
      | inl g ↦
          let l : m < 3 = omega arith in
          let f : z ≡ 1201 + 100 * c + y = omega (arith, e, march_early z m l) in
          omega (
            arith,
            M.few,
            M.since.early l z,
            january_31 z m g,
            month_february z m g,
            ap february f,
            year_days (1201 + 100 * c + y),
            year_ends,
          )
    ]

    pub date_found : date_after i ≡ date z m (t + 1)
    date_found =
        date_after_lem i (date z m (t + 1))
        (record { since = started; first = M.first; last = M.last; low = omega arith; high = day_high })
        days_found
