-- What the two conversions are to each other, by the definitions alone: each undoes the other, each refuses exactly what lies outside, a day later is
-- the next date. The days since 1 January 1600 are what a day and its date have in common. Assumes nothing.
use Rattle.std.proofs.Common.{◌≡◌, sym, ap, ◌∙◌, ◌↔◌, inl, inr, true, false, ℕ, suc, ◌+◌, arith, ℤ, pos, nat_abs, ◌+ℤ◌, ◌-ℤ◌}
use Rattle.std.proofs.Math.IntN.{+ℤ_assoc, +ℤ-neg_ℤ_cancel}
use Rattle.rules.specs.Names.{Refusal, Day}
use Rattle.rules.specs.declared.Date.{Date}
use Rattle.rules.specs.Day.{is_day}
use Rattle.rules.specs.Calendar.{is_date, next_date, date_after, days_to}
use Rattle.rules.specs.Conversion.{Converted, refusal, found, days_since, day_number, date_of_day, day_of_date}
use Rattle.rules.proofs.Tests.{look}
use Rattle.calendar.proofs.DateLaws.{real_of, real_is, year_small, after, date_after_lem}
use Rattle.calendar.proofs.DayLaws.{Ranged, ranged, day_number_lem}

-- answers tell what they hold
found_inj : {A : Type 0} {a b : A} → found a ≡ found b → a ≡ b
found_inj e = cc

refusal_inj : {A : Type 0} {m n : Refusal} → ◌≡◌ {A = Converted A} (refusal m) (refusal n) → m ≡ n
refusal_inj e = cc

found_refusal : {A B : Type 0} {a : A} {n : Refusal} → found a ≡ refusal n → B
found_refusal e = let z : ◌≡◌ {A = ℕ} 0 1 = cc in absurd (omega arith)

-- each conversion within its range and outside
pub date_of_day_lem : (z : Day) → is_day z ≡ true → date_of_day z ≡ found (date_after (days_since z))
unfolding date_of_day
date_of_day_lem z e = rw e

pub no_date_of_day : (z : Day) → is_day z ≡ false → date_of_day z ≡ refusal 26
unfolding date_of_day
no_date_of_day z e = rw e

pub day_of_date_lem : (D : Date) → is_date D ≡ true → day_of_date D ≡ found (day_number D)
unfolding day_of_date
day_of_date_lem D e = rw e

pub no_day_of_date : (D : Date) → is_date D ≡ false → day_of_date D ≡ refusal 26
unfolding day_of_date
no_day_of_date D e = rw e

-- the date of a day that there is
number_back : (z : Day) (D : Date) → Ranged z → days_to D ≡ days_since z → day_number D ≡ z
unfolding day_number
number_back z D r e =
    ap (λ (n : ℕ). pos n -ℤ pos 109573) e ∙ ap (λ (x : ℤ). x -ℤ pos 109573) (sym r.is) ∙ +ℤ-neg_ℤ_cancel z (pos 109573)

date_on : (z : Day) → is_day z ≡ true → (is_date (date_after (days_since z)) ≡ true) × (day_number (date_after (days_since z)) ≡ z)
date_on z e =
    let r = ranged z e in
    let p = after (days_since z) in
    (real_is _ p.0 (year_small _ p.0 (omega (arith, p.1, r.below))), number_back z _ r p.1)

-- each undoes the other
pub there_and_back : (D : Date) (z : Day) → day_of_date D ≡ found z → date_of_day z ≡ found D
there_and_back D z h = elim (look (is_date D)) [
  | inl e ↦
      let p = day_number_lem D e in
      ap date_of_day (sym (found_inj (sym (day_of_date_lem D e) ∙ h)))
      ∙ date_of_day_lem (day_number D) p.0 ∙ ap found (date_after_lem (days_since (day_number D)) D (real_of D e).0 (sym p.1))
  | inr e ↦ found_refusal (sym h ∙ no_day_of_date D e)
]

pub back_and_there : (z : Day) (D : Date) → date_of_day z ≡ found D → day_of_date D ≡ found z
back_and_there z D h = elim (look (is_day z)) [
  | inl e ↦
      let p = date_on z e in
      ap day_of_date (sym (found_inj (sym (date_of_day_lem z e) ∙ h))) ∙ day_of_date_lem _ p.0 ∙ ap found p.1
  | inr e ↦ found_refusal (sym h ∙ no_date_of_day z e)
]

-- the date of a day is one that there is, and the day of a date is in the range
pub date_there_is : (z : Day) (D : Date) → date_of_day z ≡ found D → is_date D ≡ true
date_there_is z D h = elim (look (is_date D)) [ inl e ↦ e | inr e ↦ found_refusal (sym (back_and_there z D h) ∙ no_day_of_date D e) ]

pub day_there_is : (D : Date) (z : Day) → day_of_date D ≡ found z → is_day z ≡ true
day_there_is D z h = elim (look (is_day z)) [ inl e ↦ e | inr e ↦ found_refusal (sym (there_and_back D z h) ∙ no_date_of_day z e) ]

-- refused exactly outside, and as 26
pub date_refused : (z : Day) (n : Refusal) → (date_of_day z ≡ refusal n) ↔ ((is_day z ≡ false) × (n ≡ 26))
date_refused z n = (to, λ p. no_date_of_day z p.0 ∙ ap refusal (sym p.1))
  where
    to : date_of_day z ≡ refusal n → (is_day z ≡ false) × (n ≡ 26)
    to h = elim (look (is_day z)) [
      | inl e ↦ found_refusal (sym (date_of_day_lem z e) ∙ h)
      | inr e ↦ (e, refusal_inj (sym h ∙ no_date_of_day z e))
    ]

pub day_refused : (D : Date) (n : Refusal) → (day_of_date D ≡ refusal n) ↔ ((is_date D ≡ false) × (n ≡ 26))
day_refused D n = (to, λ p. no_day_of_date D p.0 ∙ ap refusal (sym p.1))
  where
    to : day_of_date D ≡ refusal n → (is_date D ≡ false) × (n ≡ 26)
    to h = elim (look (is_date D)) [
      | inl e ↦ found_refusal (sym (day_of_date_lem D e) ∙ h)
      | inr e ↦ (e, refusal_inj (sym h ∙ no_day_of_date D e))
    ]

-- a day later
day_later : (z : Day) → is_day z ≡ true → days_since (z +ℤ pos 1) ≡ suc (days_since z)
unfolding days_since
day_later z e =
    ap nat_abs (+ℤ_assoc z (pos 1) (pos 109573) ∙ sym (+ℤ_assoc z (pos 109573) (pos 1)) ∙ ap (λ (x : ℤ). x +ℤ pos 1) (ranged z e).is)
    ∙ (let g : nat_abs (z +ℤ pos 109573) + 1 ≡ suc (nat_abs (z +ℤ pos 109573)) = omega arith in g)

pub next_day_lem : (z : Day) (D : Date) → date_of_day z ≡ found D → is_day (z +ℤ pos 1) ≡ true → date_of_day (z +ℤ pos 1) ≡ found (next_date D)
unfolding date_after
next_day_lem z D h later = elim (look (is_day z)) [
  | inl e ↦
      date_of_day_lem (z +ℤ pos 1) later ∙ ap (λ (n : ℕ). found (date_after n)) (day_later z e)
      ∙ ap (λ (E : Date). found (next_date E)) (found_inj (sym (date_of_day_lem z e) ∙ h))
  | inr e ↦ found_refusal (sym h ∙ no_date_of_day z e)
]
