-- What ready and entries tell of words that pass the checks: ready's bit of a track is whether it may be fired, and the part that entries hands back
-- is the words of the entries held. So both depend on what the ledger holds of the track and of those that it hosts alone. Assumes nothing.
use mathlib.Core.Path.{◌≡◌, sym, ap, ◌∙◌}
use mathlib.Core.Logic.{inl, inr}
use mathlib.Core.Bool.{cond, ◌&&◌}
use mathlib.Core.List.{List, []}
use Prim.Native.Nat.{ℕ, ◌+◌, ◌*◌, ◌/◌, ◌%◌, ◌^◌, ◌<◌, ◌≤◌}
use native.Mathlib.Omega.{arith}
use lib.ListN.{length, get_or, take, drop, length-drop}
use lib.Seq.{ext_get_or, length-take-le, get_or-take, get_or-drop}
use lib.Dec.{eqb, ltb}
use borrow.Author.Tests.{lt-ltb, ltb-true, ltb-false}
use Rattle.rules.specs.declared.Counts.{Counts}
use Rattle.rules.specs.declared.Terms.{Terms}
use Rattle.rules.specs.Plan.{Plan, track_count, plan_of}
use Rattle.rules.specs.Acceptance.{accepted, read_plan}
use Rattle.rules.specs.Layout.{head_words, count_place, entry_width, track_width, track_place, entries_place, word_count}
use Rattle.rules.specs.Ledger.{Configuration, Ledger, held_words, held_at, configuration_at, ledger_at}
use Rattle.rules.specs.Soundness.{is_tidy, are_tidy}
use Rattle.rules.specs.Fire.{may_fire, ready}
use Rattle.rules.specs.Call.{refused_or, under_plan, too_short, ready_outcome, held_part, entries_part}
use Rattle.rules.specs.Isolation.{ready_bit}
use Rattle.rules.proofs.Tests.{look}
use Rattle.rules.proofs.Folds.{every_at}
use Rattle.rules.proofs.Soundness.{sound_words}
use Rattle.rules.proofs.TrackWords.{length-held_words, length-held_at, held_word, place_below, tidy_count}
use Rattle.rules.proofs.LedgerChecks.{Passes, passes_none}
use Rattle.isolation.proofs.Bits.{bit_at}

-- a track beyond the last may not be fired, and else the test is about it
may_below : (p : Plan) (l : Ledger) (t : ℕ) → (ltb t (track_count p) && may_fire p l t) ≡ may_fire p l t
unfolding may_fire
may_below p l t = elim (look (ltb t (track_count p))) [ inl b ↦ rw b | inr b ↦ rw b ]

-- bit t of ready
pub ready_bit_lem : (p : Plan) (l : Ledger) (t : ℕ) → eqb (ready p l / 2 ^ t % 2) 1 ≡ may_fire p l t
unfolding ready
ready_bit_lem p l t = bit_at (track_count p) (may_fire p l) t ∙ may_below p l t

-- words of entries are those that the entries are read from
part_words : (ws : List ℕ) (at n : ℕ) → at + entry_width * n ≤ length ws → take (entry_width * n) (drop at ws) ≡ held_words (held_at ws at n)
unfolding entry_width
part_words ws at n b =
    let a = length-take-le (entry_width * n) (drop at ws) (omega (arith, length-drop at ws)) in
    let c : length (held_words (held_at ws at n)) ≡ entry_width * n = length-held_words (held_at ws at n) ∙ ap (λ (m : ℕ). entry_width * m) (length-held_at ws at n) in
    ext_get_or 0 (take (entry_width * n) (drop at ws)) (held_words (held_at ws at n)) (a ∙ sym c)
    (λ i j.
    let m : i < entry_width * n = omega (arith, a, j) in
    get_or-take (entry_width * n) (drop at ws) i 0 m ∙ get_or-drop at ws i 0 ∙ sym (held_word n ws at i m))

module _ (terms : Terms) (bs : List ℕ) (k : Counts) (read : read_plan bs ≡ accepted k) (ws : List ℕ) (h : Passes terms bs (plan_of bs k) ws) where
  abbrev p : Plan
  p = plan_of bs k

  abbrev l : Ledger
  l = ledger_at terms ws (track_count p)

  pub ready_told_lem : (t : ℕ) → ready_bit (ready_outcome terms bs ws).answer t ≡ may_fire p l t
  unfolding ready_outcome under_plan refused_or ready_bit
  ready_told_lem t = rw (read, under_plan, passes_none terms bs p ws h) (ready_bit_lem p l t)

  -- a track of the plan has room for its entries
  room : (t n : ℕ) → t < track_count p → n ≤ terms.limit → track_place terms t + head_words + entry_width * n ≤ length ws
  unfolding too_short word_count track_width entry_width
  room t n b m = omega (arith, ltb-false (length ws) (word_count terms (track_count p)) h.long, place_below terms (track_count p) t b)

  -- the words of what a track of the plan holds
  held_words_lem : (t : ℕ) → t < track_count p → held_part terms p ws t ≡ held_words (l t).held
  unfolding held_part ledger_at configuration_at are_tidy entries_place
  held_words_lem t b =
      let at = track_place terms t in
      let n = get_or ws (count_place at) 0 in
      let tidy = every_at (track_count p) (λ t. is_tidy terms ws (track_place terms t)) (sound_words terms p ws h.sound).tidy t b in
      let e : l t ≡ configuration_at ws at = rw (lt-ltb t (track_count p) b) in
      ap (λ (c : Configuration). take (entry_width * length c.held) (drop (entries_place terms t) ws)) e
      ∙ ap (λ m. take (entry_width * m) (drop (entries_place terms t) ws)) (length-held_at ws (at + head_words) n)
      ∙ part_words ws (at + head_words) n (room t n b (tidy_count terms ws at tidy))
      ∙ ap (λ (c : Configuration). held_words c.held) (sym e)

  pub entries_told : (t : ℕ) → entries_part terms bs ws t ≡ cond (ltb t (track_count p)) (held_words (l t).held) []
  unfolding entries_part
  entries_told t =
      elim (look (ltb t (track_count p))) [
        | inl b ↦ rw (read, entries_part, passes_none terms bs p ws h, b) (held_words_lem t (ltb-true t (track_count p) b))
        | inr b ↦ rw (read, entries_part, passes_none terms bs p ws h, b)
      ]

  -- two words for each entry
  pub part_length : (t : ℕ) → t < track_count p → length (entries_part terms bs ws t) ≡ 2 * length (l t).held
  unfolding entry_width
  part_length t b =
      ap length (entries_told t) ∙ (rw (lt-ltb t (track_count p) b) (length-held_words (l t).held))
