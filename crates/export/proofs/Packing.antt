-- A packed answer keeps what the call promised. A part that is not empty lies in one track's words, so its place and its count can be packed.
-- Assumes nothing.
use Rattle.std.proofs.Common.{◌≡◌, refl, sym, ap, ◌∙◌, Bool, true, false, ◌&&◌, List, [], ◌∷◌, ℕ, zero, suc, ◌+◌, ◌*◌, ◌≤◌, ◌<◌, arith, ltb, eqb, length, take, drop, ltb-true, eqb-true, eq-eqb, ne_eqb}
use Rattle.rules.specs.declared.Counts.{Counts}
use Rattle.rules.specs.declared.Setting.{Setting}
use Rattle.rules.specs.declared.Terms.{Terms}
use Rattle.rules.specs.Setting.{terms_of}
use Rattle.rules.specs.Layout.{entry_width, head_words, entries_place}
use Rattle.ledger.proofs.LayoutLaws.{place_small}
use Rattle.rules.specs.Plan.{plan_of, track_count}
use Rattle.rules.specs.Acceptance.{Reading, turned_back, accepted, read_plan}
use Rattle.rules.specs.Ledger.{ledger_at}
use Rattle.rules.specs.Call.{Answer, Outcome, Meets, ledger_refusal, held_part, entries_part}
use Rattle.rules.proofs.Tests.{and_holds}
use Rattle.rules.proofs.SettingLaws.{limit_most}
use Rattle.rules.proofs.LedgerChecks.{none_passes}
use Rattle.rules.proofs.Soundness.{sound_words}
use Rattle.plan.proofs.FieldLaws.{track_count_lem}
use Rattle.plan_reader.proofs.Reader.{accepted_holds}
use Rattle.ledger.proofs.ReadTracks.{count_within}
use Rattle.export.specs.Packed.{bit16, packed_part, Returns}

pub packs : (pack : Answer → ℕ) (o : Outcome) (a : Answer) (n : ℕ) (ws : List ℕ) → Meets o a ws → n ≡ pack a → Returns pack o n ws
packs pack o a n ws m e = record { answered = e ∙ ap pack m.answered; left = m.left }

take_within : (n : ℕ) (xs : List ℕ) → length (take n xs) ≤ n
take_within zero xs = omega arith
take_within (suc n) [] = omega arith
take_within (suc n) (x ∷ xs) = omega (arith, take_within n xs)

-- what a part of so many words is, by its length
take_again : (n : ℕ) (xs : List ℕ) → take n xs ≡ take (length (take n xs)) xs
take_again zero xs = refl
take_again (suc n) [] = refl
take_again (suc n) (x ∷ xs) = ap (λ (r : List ℕ). x ∷ r) (take_again n xs)

module _ (terms : Terms) (bs ws : List ℕ) (t : ℕ) where
  -- a part that is not empty
  pub record Held : Type 0 where
    pub exists : t < 32
    pub few : length (entries_part terms bs ws t) ≤ entry_width * terms.limit
    pub there : entries_part terms bs ws t ≡ take (length (entries_part terms bs ws t)) (drop (entries_place terms t) ws)

  held_at : (k : ℕ) → t < 32 → k ≤ terms.limit → entries_part terms bs ws t ≡ take (entry_width * k) (drop (entries_place terms t) ws) → Held
  unfolding entry_width
  held_at k h m e =
      record {
        exists = h;
        few = rw e (omega (arith, take_within (entry_width * k) (drop (entries_place terms t) ws)));
        there = rw e (take_again (entry_width * k) (drop (entries_place terms t) ws));
      }

  held_under : (c : Counts) → read_plan bs ≡ accepted c → (eqb (ledger_refusal terms bs (plan_of bs c) ws) 0 && ltb t (track_count (plan_of bs c))) ≡ true → Held
  unfolding entries_part held_part
  held_under c a e =
      let (f, l) = and_holds (eqb (ledger_refusal terms bs (plan_of bs c) ws) 0) (ltb t (track_count (plan_of bs c))) e in
      let s = (none_passes terms bs (plan_of bs c) ws (eqb-true _ 0 f)).sound in
      let y = (sound_words terms (plan_of bs c) ws s).tidy in
      let b = ltb-true t (track_count (plan_of bs c)) l in
      held_at
      (length (ledger_at terms ws (track_count (plan_of bs c)) t).held)
      (omega (arith, b, track_count_lem bs c, (accepted_holds bs c a).tracks))
      (count_within terms (track_count (plan_of bs c)) ws t _ y refl)
      (rw (a, entries_part, e))

  pub held : (length (entries_part terms bs ws t) ≡ 0 → ⊥) → Held
  unfolding entries_part
  held h = go (read_plan bs) refl
    where
      tested : (c : Counts) (b : Bool) → read_plan bs ≡ accepted c → (eqb (ledger_refusal terms bs (plan_of bs c) ws) 0 && ltb t (track_count (plan_of bs c))) ≡ b → Held
      tested c true a e = held_under c a e
      tested c false a e = absurd (h (rw (a, entries_part, e)))

      go : (x : Reading) → read_plan bs ≡ x → Held
      go (turned_back r) a = absurd (h (rw (a, entries_part)))
      go (accepted c) a = tested c (eqb (ledger_refusal terms bs (plan_of bs c) ws) 0 && ltb t (track_count (plan_of bs c))) a refl

-- the number of the empty part, and of another
pub part_empty : (terms : Terms) (part : List ℕ) (t : ℕ) → length part ≡ 0 → 0 ≡ packed_part terms part t
unfolding packed_part
part_empty terms part t h = rw (eq-eqb (length part) 0 h)

pub part_packed : (terms : Terms) (part xs : List ℕ) (t from : ℕ) → xs ≡ part → (length xs ≡ 0 → ⊥) → from ≡ entries_place terms t + entry_width * 0 → length xs + from * 65536 ≡ packed_part terms part t
unfolding packed_part bit16 entry_width
part_packed terms part xs t from e h f = rw (sym e, ne_eqb (length xs) 0 h) (omega arith)

-- the place of a track's entries, by the setting that the terms come from; it is small
pub part_place : (setting : Setting) {terms : Terms} (t u from : ℕ) → terms ≡ terms_of setting → u ≡ t
    → from ≡ entries_place terms u + entry_width * 0 → from ≡ entries_place (terms_of setting) t + entry_width * 0
part_place setting t u from e f g = rw (sym e, sym f) g

pub part_small : (setting : Setting) (t from : ℕ) → t < 32 → from ≡ entries_place (terms_of setting) t + entry_width * 0 → from < 4194344
unfolding entries_place head_words entry_width
part_small setting t from h f = omega (arith, place_small (terms_of setting) t (omega (arith, limit_most setting)) (omega arith))
