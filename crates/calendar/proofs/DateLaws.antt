-- Dates that the calendar has, and the days from 1 January 1600 to each: the day after a date has one more, so the date n days after the first has n,
-- and no other date has as many. Assumes nothing.
use Rattle.std.proofs.Common.{◌≡◌, refl, sym, ap, ◌∙◌, inl, inr, true, false, ◌&&◌, ℕ, zero, suc, ◌+◌, ◌-◌, ◌<◌, ◌≤◌, arith, leb, ltb, ltb-true, ltb-false, leb-true, le-leb}
use Rattle.std.proofs.Math.Decide.{dec_lt}
use Rattle.rules.specs.declared.Date.{Date}
use Rattle.rules.specs.Calendar.{date, month_length, is_date, next_date, date_after, in_months, in_years, days_to}
use Rattle.rules.proofs.Tests.{look, and_holds}
use Rattle.calendar.proofs.YearLaws.{years_up, years_closed}
use Rattle.calendar.proofs.MonthLaws.{never_falls, one_place, month_bounds, months_up, months_more}

-- a date of 1600 or later
pub record Real (D : Date) : Type 0 where
  pub since : 1600 ≤ D.year
  pub first : 1 ≤ D.month
  pub last : D.month ≤ 12
  pub low : 1 ≤ D.day
  pub high : D.day ≤ month_length D.year D.month

pub real_of : (D : Date) → is_date D ≡ true → Real D × (D.year ≤ 2399)
unfolding is_date
real_of D e =
    let p5 = and_holds _ (leb D.day (month_length D.year D.month)) e in
    let p4 = and_holds (leb 1600 D.year && leb D.year 2399 && leb 1 D.month && leb D.month 12) (leb 1 D.day) p5.0 in
    let p3 = and_holds (leb 1600 D.year && leb D.year 2399 && leb 1 D.month) (leb D.month 12) p4.0 in
    let p2 = and_holds (leb 1600 D.year && leb D.year 2399) (leb 1 D.month) p3.0 in
    let p1 = and_holds (leb 1600 D.year) (leb D.year 2399) p2.0 in (
      record {
        since = leb-true _ _ p1.0;
        first = leb-true _ _ p2.1;
        last = leb-true _ _ p3.1;
        low = leb-true _ _ p4.1;
        high = leb-true _ _ p5.1;
      },
      leb-true _ _ p1.1,
    )

pub real_is : (D : Date) → Real D → D.year ≤ 2399 → is_date D ≡ true
unfolding is_date
real_is D r h =
    rw (le-leb _ _ r.since, le-leb _ _ h, le-leb _ _ r.first, le-leb _ _ r.last, le-leb _ _ r.low, le-leb _ _ r.high)

-- the days of its year before a date
in_year : Date → ℕ
in_year D = in_months D.year (D.month - 1) + (D.day - 1)

module _ (D : Date) (r : Real D) where
  in_month : in_year D < in_months D.year D.month
  unfolding in_year
  in_month = omega (arith, months_more D.year D.month r.first, r.low, r.high)

  in_year_lem : in_year D < in_months D.year 12
  in_year_lem = omega (arith, in_month, never_falls (in_months D.year) (months_up D.year) D.month 12 r.last)

  days_are : days_to D ≡ in_years (D.year - 1600) + in_year D
  unfolding days_to in_year
  days_are = omega arith

  year_after : in_years (suc (D.year - 1600)) ≡ in_years (D.year - 1600) + in_months D.year 12
  unfolding in_years
  year_after = let e : 1600 + (D.year - 1600) ≡ D.year = omega (arith, r.since) in rw e

  from_year : in_years (D.year - 1600) ≤ days_to D
  from_year = omega (arith, days_are)

  to_year : days_to D < in_years (suc (D.year - 1600))
  to_year = omega (arith, days_are, year_after, in_year_lem)

  from_month : in_months D.year (D.month - 1) ≤ in_year D
  unfolding in_year
  from_month = omega arith

  to_month : in_year D < in_months D.year (suc (D.month - 1))
  to_month = let e : suc (D.month - 1) ≡ D.month = omega (arith, r.first) in rw e in_month

  -- to 2399 there are 292194 days
  pub days_small : D.year ≤ 2399 → days_to D < 292194
  days_small h = omega (arith, to_year, never_falls in_years years_up (suc (D.year - 1600)) 800 (omega (arith, r.since)), years_closed 800)

  pub year_small : days_to D < 292194 → D.year ≤ 2399
  year_small h = elim (dec_lt 2399 D.year) [
    | yes p ↦ absurd (omega (arith, from_year, never_falls in_years years_up 800 (D.year - 1600) (omega arith), years_closed 800))
    | no q ↦ omega arith
  ]

-- one date for so many days
date_is : (D E : Date) → D.year ≡ E.year → D.month ≡ E.month → D.day ≡ E.day → D ≡ E
date_is D E p q s = λ i. record { year = p i; month = q i; day = s i }

module _ (D E : Date) (r : Real D) (s : Real E) (e : days_to D ≡ days_to E) where
  same_year : D.year ≡ E.year
  same_year =
      let p = one_place in_years years_up (D.year - 1600) (E.year - 1600) (days_to D)
      (from_year D r) (to_year D r) (rw e (from_year E s)) (rw e (to_year E s)) in
      omega (arith, p, r.since, s.since)

  same_in_year : in_year D ≡ in_year E
  same_in_year = omega (arith, days_are D r, days_are E s, ap (λ (y : ℕ). in_years (y - 1600)) same_year, e)

  same_month : D.month ≡ E.month
  same_month =
      let p = one_place (in_months D.year) (months_up D.year) (D.month - 1) (E.month - 1) (in_year D)
      (from_month D r) (to_month D r) (rw (same_in_year, same_year) (from_month E s)) (rw (same_in_year, same_year) (to_month E s)) in
      omega (arith, p, r.first, s.first)

  same_day : D.day ≡ E.day
  unfolding in_year
  same_day =
      let p = same_in_year in
      let q = ap (λ (m : ℕ). in_months D.year (m - 1)) same_month in
      let t = ap (λ (y : ℕ). in_months y (E.month - 1)) same_year in
      omega (arith, p, q, t, r.low, s.low)

  same_date : D ≡ E
  same_date = date_is D E same_year same_month same_day

-- the day after, in the same month, in the next, and in the next year
module _ (D : Date) where
  next_in_month : ltb D.day (month_length D.year D.month) ≡ true → next_date D ≡ date D.year D.month (D.day + 1)
  unfolding next_date
  next_in_month e = rw e

  next_month : ltb D.day (month_length D.year D.month) ≡ false → ltb D.month 12 ≡ true → next_date D ≡ date D.year (D.month + 1) 1
  unfolding next_date
  next_month e f = rw (e, f)

  next_year : ltb D.day (month_length D.year D.month) ≡ false → ltb D.month 12 ≡ false → next_date D ≡ date (D.year + 1) 1 1
  unfolding next_date
  next_year e f = rw (e, f)

new_year : (y : ℕ) → days_to (date y 1 1) ≡ in_years (y - 1600)
unfolding days_to in_months
new_year y = omega arith

Follows : Date → Date → Type 0
Follows D E = Real E × (days_to E ≡ suc (days_to D))

module _ (D : Date) (r : Real D) where
  follows_in_month : D.day < month_length D.year D.month → Follows D (date D.year D.month (D.day + 1))
  unfolding Follows days_to
  follows_in_month h =
      (record { since = r.since; first = r.first; last = r.last; low = omega arith; high = omega arith }, omega (arith, r.low))

  follows_month : month_length D.year D.month ≤ D.day → D.month < 12 → Follows D (date D.year (D.month + 1) 1)
  unfolding Follows days_to
  follows_month h k =
      let e : D.month + 1 - 1 ≡ D.month = omega arith in
      let b = month_bounds D.year (D.month + 1) (omega arith) (omega arith) in (
        record { since = r.since; first = omega arith; last = omega arith; low = omega arith; high = omega (arith, b) },
        omega (arith, r.low, r.high, ap (in_months D.year) e, months_more D.year D.month r.first),
      )

  days_plain : days_to D ≡ in_years (D.year - 1600) + in_months D.year (D.month - 1) + (D.day - 1)
  unfolding days_to
  days_plain = refl

  follows_year : month_length D.year D.month ≤ D.day → 12 ≤ D.month → Follows D (date (D.year + 1) 1 1)
  unfolding Follows
  follows_year h k =
      let e : D.month ≡ 12 = omega (arith, r.last) in
      let g : D.year + 1 - 1600 ≡ suc (D.year - 1600) = omega (arith, r.since) in
      let b = month_bounds (D.year + 1) 1 (omega arith) (omega arith) in (
        record { since = omega (arith, r.since); first = omega arith; last = omega arith; low = omega arith; high = omega (arith, b) },
        omega (
          arith,
          new_year (D.year + 1),
          ap in_years g,
          year_after D r,
          ap (in_months D.year) e,
          months_more D.year D.month r.first,
          r.low,
          r.high,
          days_plain,
        ),
      )

  follows : Follows D (next_date D)
  follows = elim (look (ltb D.day (month_length D.year D.month))) [
    | inl h ↦ rw (next_in_month D h) (follows_in_month (ltb-true _ _ h))
    | inr h ↦ elim (look (ltb D.month 12)) [
      | inl k ↦ rw (next_month D h k) (follows_month (ltb-false _ _ h) (ltb-true _ _ k))
      | inr k ↦ rw (next_year D h k) (follows_year (ltb-false _ _ h) (ltb-false _ _ k))
    ]
  ]

-- the date n days after the first, and no other
first_date : days_to (date 1600 1 1) ≡ 0
unfolding days_to in_years in_months
first_date = refl

pub after : (n : ℕ) → Real (date_after n) × (days_to (date_after n) ≡ n)
unfolding date_after Follows
after zero =
    let b = month_bounds 1600 1 (omega arith) (omega arith) in
    (record { since = omega arith; first = omega arith; last = omega arith; low = omega arith; high = omega (arith, b) }, first_date)
after (suc n) = let p = follows (date_after n) (after n).0 in (p.0, p.1 ∙ ap suc (after n).1)

pub date_after_lem : (n : ℕ) (D : Date) → Real D → days_to D ≡ n → date_after n ≡ D
date_after_lem n D r e = same_date (date_after n) D (after n).0 r ((after n).1 ∙ sym e)
