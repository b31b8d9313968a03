-- The bits of a packed answer give it back: the refusal, the figures, and where a part lies. By division. Assumes nothing.
use Rattle.std.proofs.Common.{◌≡◌, refl, sym, ap, ◌∙◌, true, List, [], ◌∷◌, ℕ, ◌+◌, ◌*◌, ◌≤◌, ◌<◌, ◌/◌, ◌%◌, arith, length, take, drop, ne_eqb}
use Rattle.rules.specs.Names.{Day}
use Rattle.rules.specs.Signed.{signed_of, bits_of}
use Rattle.rules.specs.Day.{is_day}
use Rattle.rules.specs.Layout.{entry_width, entries_place}
use Rattle.rules.specs.declared.Counts.{Counts}
use Rattle.rules.specs.declared.Date.{Date}
use Rattle.rules.specs.declared.Setting.{Setting}
use Rattle.rules.specs.declared.Terms.{Terms}
use Rattle.rules.specs.Setting.{terms_of}
use Rattle.rules.specs.Acceptance.{turned_back, accepted}
use Rattle.rules.specs.Call.{refusal, done, entries_part}
use Rattle.rules.specs.Conversion as converted
use Rattle.rules.proofs.SettingLaws.{limit_most}
use Rattle.rules.proofs.SignedLaws.{signed_bits, day_fits}
use Rattle.export.specs.Packed.{bit16, bit32, bit48, packed_reading, packed, packed_ready, packed_part, packed_date, packed_day}
use Rattle.export.proofs.Packing.{held}

pub refusal_read : (n : ℕ) → n < bit16 → packed (refusal n) % bit16 ≡ n
unfolding packed bit16
refusal_read n h = omega arith

pub accepted_read : (a b : ℕ) → packed (done (a ∷ b ∷ [])) % bit16 ≡ 0
unfolding packed bit16 bit32
accepted_read a b = omega arith

pub first_read : (a b : ℕ) → a < bit16 → (packed (done (a ∷ b ∷ [])) / bit16) % bit16 ≡ a
unfolding packed bit16 bit32
first_read a b h = omega arith

pub second_read : (a b : ℕ) → a < bit16 → b < bit16 → (packed (done (a ∷ b ∷ [])) / bit32) % bit16 ≡ b
unfolding packed bit16 bit32
second_read a b h k = omega arith

pub ready_read : (n : ℕ) → packed_ready (done (n ∷ [])) / bit32 ≡ n
unfolding packed_ready bit32
ready_read n = omega arith

-- what read tells of a plan, from the number alone
pub turned_back_read : (n : ℕ) → n < bit16 → packed_reading (turned_back n) % bit16 ≡ n
unfolding packed_reading bit16
turned_back_read n h = omega arith

module _ (c : Counts) where
  pub counted_read : packed_reading (accepted c) % bit16 ≡ 0
  unfolding packed_reading bit16 bit32 bit48
  counted_read = omega arith

  pub tracks_read : c.tracks < bit16 → (packed_reading (accepted c) / bit16) % bit16 ≡ c.tracks
  unfolding packed_reading bit16 bit32 bit48
  tracks_read h = omega arith

  pub states_read : c.tracks < bit16 → c.states < bit16 → (packed_reading (accepted c) / bit32) % bit16 ≡ c.states
  unfolding packed_reading bit16 bit32 bit48
  states_read h k = omega arith

  pub transitions_read : c.tracks < bit16 → c.states < bit16 → packed_reading (accepted c) / bit48 ≡ c.transitions
  unfolding packed_reading bit16 bit32 bit48
  transitions_read h k = omega arith

-- a date and a day, from the number alone
module _ (D : Date) where
  pub dated_read : packed_date (converted.found D) % bit16 ≡ 0
  unfolding packed_date bit16 bit32 bit48
  dated_read = omega arith

  pub year_read : D.year < bit16 → (packed_date (converted.found D) / bit16) % bit16 ≡ D.year
  unfolding packed_date bit16 bit32 bit48
  year_read h = omega arith

  pub month_read : D.year < bit16 → D.month < bit16 → (packed_date (converted.found D) / bit32) % bit16 ≡ D.month
  unfolding packed_date bit16 bit32 bit48
  month_read h k = omega arith

  pub day_of_month_read : D.year < bit16 → D.month < bit16 → packed_date (converted.found D) / bit48 ≡ D.day
  unfolding packed_date bit16 bit32 bit48
  day_of_month_read h k = omega arith

pub no_date_read : (n : ℕ) → n < bit16 → packed_date (converted.refusal n) % bit16 ≡ n
unfolding packed_date bit16
no_date_read n h = omega arith

module _ (z : Day) where
  pub found_read : packed_day (converted.found z) % bit16 ≡ 0
  unfolding packed_day bit16 bit32
  found_read = omega arith

  pub day_read : is_day z ≡ true → signed_of (packed_day (converted.found z) / bit32) ≡ z
  unfolding packed_day bit32
  day_read h = let e : bits_of z * bit32 / bit32 ≡ bits_of z = omega arith in ap signed_of e ∙ signed_bits z (day_fits z h)

pub no_day_read : (n : ℕ) → n < bit16 → packed_day (converted.refusal n) % bit16 ≡ n
unfolding packed_day bit16
no_day_read n h = omega arith

-- the part that entries speaks of, from the number alone
module _ (setting : Setting) (ws : List ℕ) (t : ℕ) where
  abbrev terms : Terms
  terms = terms_of setting

  held_read : (part : List ℕ) → (length part ≡ 0 → ⊥) → length part ≤ entry_width * terms.limit
      → part ≡ take (length part) (drop (entries_place terms t) ws) → take (packed_part terms part t % bit16) (drop (packed_part terms part t / bit16) ws) ≡ part
  unfolding packed_part bit16 entry_width
  held_read part h most e =
      let few = limit_most setting in
      let n : packed_part terms part t ≡ length part + entries_place terms t * bit16 = rw (ne_eqb (length part) 0 h, packed_part) in
      let count : packed_part terms part t % bit16 ≡ length part = omega arith in
      let index : packed_part terms part t / bit16 ≡ entries_place terms t = omega arith in
      rw (count, index) (sym e)

  pub part_read : (bs : List ℕ) (part : List ℕ) → part ≡ entries_part terms bs ws t
      → take (packed_part terms part t % bit16) (drop (packed_part terms part t / bit16) ws) ≡ part
  unfolding packed_part bit16
  part_read bs [] e = refl
  part_read bs (x ∷ xs) e =
      let h = held terms bs ws t (λ z. let y : ◌≡◌ {A = ℕ} (length (x ∷ xs)) 0 = ap length e ∙ z in absurd (omega arith)) in
      held_read (x ∷ xs) (λ z. absurd (omega arith)) (rw (sym e) at h.few) (rw (sym e) at h.there)
