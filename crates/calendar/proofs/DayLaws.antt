-- Days, which are signed, and the days since 1 January 1600, which are not: the epoch is added and taken off, and what the machine computes on the way
-- fits 32 bits. Assumes nothing.
use Rattle.std.proofs.Common.{◌≡◌, refl, sym, ap, ◌∙◌, true, ℕ, suc, ◌+◌, ◌-◌, ◌*◌, ◌/◌, ◌%◌, ◌<◌, ◌≤◌, arith, T, leb, ℤ, pos, negsuc, nat_abs, ◌+ℤ◌, ◌-ℤ◌, ◌*ℤ◌, leb-true, le-leb, w32, SFits, Fits, to_z}
use Rattle.std.proofs.Math.Decide.{dec_lt}
use Rattle.std.proofs.Math.IntN.{+ℤ_assoc}
use lib.Signed.{mag, non_neg}
use mir.ValLaws.{to_z-of_z, to_z_pos}
use Rattle.rules.specs.Names.{Day}
use Rattle.rules.specs.Day.{is_day}
use Rattle.rules.specs.declared.Date.{Date}
use Rattle.rules.specs.Calendar.{is_date, in_months, in_years, days_to}
use Rattle.rules.specs.Conversion.{days_since, day_number}
use Rattle.rules.proofs.Tests.{and_holds}
use Rattle.signed.specs.Floor.{times, rest}
use Rattle.signed.proofs.Integers.{rd, sub_ge, sub_lt, sub_is, minus_fits, fits_pos, cast_pos}
use Rattle.signed.proofs.FloorLaws.{lift, times_fits, rest_lt}
use Rattle.calendar.specs.Parts.{CenturyIs}
use Rattle.calendar.proofs.DateLaws.{real_of, days_small}
use Rattle.calendar.proofs.CenturyLaws.{century_found}

-- a day in the range
pub record Ranged (z : Day) : Type 0 where
  pub is : z +ℤ pos 109573 ≡ pos (days_since z)
  pub below : days_since z < 292194
  pub small : mag z ≤ 182620

pub ranged : (z : Day) → is_day z ≡ true → Ranged z
unfolding is_day days_since
ranged (pos a) e = let h = leb-true a 182620 e in record { is = refl; below = omega arith; small = h }
ranged (negsuc a) e =
    let h = leb-true a 109572 (and_holds (leb a 109572) true e).0 in
    let g = sub_ge 109573 (suc a) (omega arith) in
    record { is = g ∙ ap (λ (x : ℤ). pos (nat_abs x)) (sym g); below = rw g (omega arith); small = omega arith }

-- the day so many days after 1 January 1600, and of a date
day_since : (n : ℕ) → n < 292194 → (is_day (pos n -ℤ pos 109573) ≡ true) × (days_since (pos n -ℤ pos 109573) ≡ n)
unfolding is_day days_since
day_since n h = elim (dec_lt n 109573) [
  | yes p ↦
      let e = sub_lt n 109573 p in
      let f : suc (109573 - suc n) ≤ 109573 = omega arith in
      let g : 109573 - suc (109573 - suc n) ≡ n = omega arith in
      rw e (rw (le-leb (109573 - suc n) 109572 (omega arith)), ap nat_abs (sub_ge 109573 (suc (109573 - suc n)) f) ∙ g)
  | no q ↦
      let e = sub_ge n 109573 (omega arith) in
      let g : n - 109573 + 109573 ≡ n = omega arith in
      rw e (rw (le-leb (n - 109573) 182620 (omega arith)), g)
]

pub day_number_lem : (D : Date) → is_date D ≡ true → (is_day (day_number D) ≡ true) × (days_since (day_number D) ≡ days_to D)
unfolding day_number
day_number_lem D e = let p = real_of D e in day_since (days_to D) (days_small D p.0 p.1)

-- a number that is not below zero once n is added is near zero, and so is four times it
near : (x : ℤ) (n i : ℕ) → x +ℤ pos n ≡ pos i → mag x ≤ n + i
near (pos a) n i e = let f = ap nat_abs e in omega (arith, f)
near (negsuc a) n i e = omega (arith, sub_is n (suc a) i e)

four_times : (x : ℤ) (n i : ℕ) → x +ℤ pos n ≡ pos i → pos 4 *ℤ x +ℤ pos (4 * n) ≡ pos (4 * i)
four_times (pos a) n i e = let f = ap nat_abs e in let g : 4 * a + 4 * n ≡ 4 * i = omega (arith, f) in ap pos g
four_times (negsuc a) n i e =
    let f = sub_is n (suc a) i e in
    let g : 4 * suc a ≡ suc (3 + 4 * a) = omega arith in
    let k : 4 * n - suc (3 + 4 * a) ≡ 4 * i = omega (arith, f) in
    rw g (sub_ge (4 * n) (suc (3 + 4 * a)) (omega (arith, f)) ∙ ap pos k)

-- counted from 1 March 2000, on which a century begins, and this by quarters of days
abbrev from2000 : Day → ℤ
from2000 z = z -ℤ pos 36584

abbrev quarters : Day → ℤ
quarters z = pos 4 *ℤ from2000 z +ℤ pos 3

module _ (z : Day) (r : Ranged z) where
  days_up : from2000 z +ℤ pos 292194 ≡ pos (days_since z + 146037)
  days_up =
      +ℤ_assoc z (negsuc 36583) (pos 292194)
      ∙ sym (+ℤ_assoc z (pos 109573) (pos 146037)) ∙ ap (λ (x : ℤ). x +ℤ pos 146037) r.is

  four_up : pos 4 *ℤ from2000 z +ℤ pos 1168776 ≡ pos (4 * (days_since z + 146037))
  four_up = four_times (from2000 z) 292194 (days_since z + 146037) days_up

  quarters_up : quarters z +ℤ pos 1168776 ≡ pos (4 * (days_since z + 146037) + 3)
  quarters_up =
      +ℤ_assoc (pos 4 *ℤ from2000 z) (pos 3) (pos 1168776)
      ∙ sym (+ℤ_assoc (pos 4 *ℤ from2000 z) (pos 1168776) (pos 3)) ∙ ap (λ (x : ℤ). x +ℤ pos 3) four_up

  from2000_fits : SFits w32 (from2000 z)
  from2000_fits = record { sfits = omega (arith, near (from2000 z) 292194 (days_since z + 146037) days_up, r.below) }

  four_fits : SFits w32 (pos 4 *ℤ from2000 z)
  four_fits = record { sfits = omega (arith, near (pos 4 *ℤ from2000 z) 1168776 (4 * (days_since z + 146037)) four_up, r.below) }

  quarters_fits : SFits w32 (quarters z)
  quarters_fits = record { sfits = omega (arith, near (quarters z) 1168776 (4 * (days_since z + 146037) + 3) quarters_up, r.below) }

-- the needs of `century_of` before it calls `split`
module _ (z : Day) (f : SFits w32 z) (e : is_day z ≡ true) where
  r : Ranged z
  r = ranged z e

  day_read : rd z ≡ z
  day_read = to_z-of_z w32 z f

  from_read : rd (rd z -ℤ pos 36584) ≡ from2000 z
  from_read = rw day_read (to_z-of_z w32 (from2000 z) (from2000_fits z r))

  four_read : rd (pos 4 *ℤ rd (rd z -ℤ pos 36584)) ≡ pos 4 *ℤ from2000 z
  four_read = rw from_read (to_z-of_z w32 (pos 4 *ℤ from2000 z) (four_fits z r))

  quarters_read : rd (rd (pos 4 *ℤ rd (rd z -ℤ pos 36584)) +ℤ pos 3) ≡ quarters z
  quarters_read = rw four_read (to_z-of_z w32 (quarters z) (quarters_fits z r))

  pub sub_fits : SFits w32 (rd z -ℤ pos 36584)
  sub_fits = rw day_read (from2000_fits z r)

  pub mul_fits : SFits w32 (pos 4 *ℤ rd (rd z -ℤ pos 36584))
  mul_fits = rw from_read (four_fits z r)

  pub add_fits : SFits w32 (rd (pos 4 *ℤ rd (rd z -ℤ pos 36584)) +ℤ pos 3)
  add_fits = rw four_read (quarters_fits z r)

  lifted : (times (quarters z) 146097 +ℤ pos 8 ≡ pos ((4 * (days_since z + 146037) + 3) / 146097))
      × (rest (quarters z) 146097 ≡ (4 * (days_since z + 146037) + 3) % 146097)
  lifted = lift (quarters z) 146097 8 (4 * (days_since z + 146037) + 3) (omega arith) (quarters_up z r)

  -- and at the two numbers t and u that it gives
  module _ (t u : ℤ) (gt : t ≡ times (rd (rd (pos 4 *ℤ rd (rd z -ℤ pos 36584)) +ℤ pos 3)) 146097)
      (gu : u ≡ pos (rest (rd (rd (pos 4 *ℤ rd (rd z -ℤ pos 36584)) +ℤ pos 3)) 146097)) where
    times_is : t ≡ times (quarters z) 146097
    times_is = gt ∙ ap (λ (x : ℤ). times x 146097) quarters_read

    rest_is : u ≡ pos (rest (quarters z) 146097)
    rest_is = gu ∙ ap (λ (x : ℤ). pos (rest x 146097)) quarters_read

    t_fits : SFits w32 t
    t_fits = rw times_is (times_fits (quarters z) 146097 (quarters_fits z r))

    u_fits : SFits w32 u
    u_fits = rw rest_is (fits_pos _ (omega (arith, rest_lt (quarters z) 146097 (omega arith))))

    eight_more : rd t +ℤ pos 8 ≡ pos ((4 * (days_since z + 146037) + 3) / 146097)
    eight_more = ap (λ (x : ℤ). x +ℤ pos 8) (to_z-of_z w32 t t_fits ∙ times_is) ∙ lifted.0

    pub eight_more_fits : SFits w32 (rd t +ℤ pos 8)
    eight_more_fits = rw eight_more (record { sfits = omega (arith, r.below) })

    number_is : rd (rd t +ℤ pos 8) ≡ pos ((4 * (days_since z + 146037) + 3) / 146097)
    number_is = to_z-of_z w32 _ eight_more_fits ∙ eight_more

    left_is : rd u ≡ pos ((4 * (days_since z + 146037) + 3) % 146097)
    left_is = to_z-of_z w32 u u_fits ∙ rest_is ∙ ap pos lifted.1

    pub number_cast : T (non_neg (rd (rd t +ℤ pos 8))) × Fits w32 (nat_abs (rd (rd t +ℤ pos 8)))
    number_cast = cast_pos _ _ number_is (omega (arith, r.below))

    pub left_cast : T (non_neg (rd u)) × Fits w32 (nat_abs (rd u))
    left_cast = cast_pos _ _ left_is (omega arith)

    pub century_is : CenturyIs (days_since z) (nat_abs (rd (rd t +ℤ pos 8))) (nat_abs (rd u) / 4)
    century_is = century_found (days_since z) _ _ r.below (ap nat_abs number_is) (ap nat_abs left_is)

-- the needs of `days_to`, at the days n before the date's month
pub counted : (D : Date) (n : ℕ) → is_date D ≡ true → n ≡ in_years (D.year - 1600) + in_months D.year (D.month - 1)
    → (n + (D.day - 1) ≡ days_to D) × (n + (D.day - 1) < 292194)
unfolding days_to
counted D n e en =
    let p = real_of D e in
    let c : n + (D.day - 1) ≡ days_to D = rw en in
    (c, omega (arith, c, days_small D p.0 p.1))

-- the needs of `day_of`, at the days n from 1 January 1600
module _ (n : ℕ) (h : n < 292194) where
  as_pos : to_z w32 n ≡ pos n
  as_pos = to_z_pos w32 n (omega arith)

  pub number_fits : SFits w32 (to_z w32 n -ℤ pos 109573)
  number_fits = rw as_pos (minus_fits (pos n) (pos 109573) 292194 109573 (omega arith) (omega arith) (omega arith))

  pub number_of : (D : Date) → n ≡ days_to D → rd (to_z w32 n -ℤ pos 109573) ≡ day_number D
  unfolding day_number
  number_of D e = to_z-of_z w32 _ number_fits ∙ ap (λ (x : ℤ). x -ℤ pos 109573) (as_pos ∙ ap pos e)
