-- A track's words read and written, said of the ledger that they hold. Assumes nothing.
use Rattle.std.proofs.Common.{◌≡◌, refl, sym, ap, ◌∙◌, List, ◌∷◌, ◌++◌, ℕ, zero, suc, pred, ◌+◌, ◌-◌, ◌<◌, ◌≤◌, arith, add-one, sub-one, drop-drop, length-take-le, length, get_or, set, take, drop, replicate, length-drop}
use Rattle.std.proofs.Math.Nat.{add-sub_cancel_left}
use Rattle.std.proofs.Math.ListN.{replicate-append-replicate}
use Rattle.rules.specs.declared.Mode.{Mode}
use Rattle.rules.specs.declared.Mode.TheVariants.{Asleep, Forward, Undoing}
use Rattle.rules.specs.declared.Terms.{Terms}
use Rattle.rules.specs.declared.Track.{Track}
use Rattle.rules.specs.Layout.{leading_words, head_words, entry_width, track_width, track_place, word_count}
use Rattle.rules.specs.Ledger.{Entry, Ledger, sleeping, mode_of, mode_word, configuration_at, configuration_words, ledger_words, written}
use Rattle.rules.proofs.TrackWords.{length-held_at, place_first, place_after, place_more, place_below, words_sleeping}
use Rattle.rules.proofs.Stored.{Fits, read_track}
use Rattle.rules.proofs.Replaced.{updated, in_track, set_three, install_entry, remove_entry, sleep_track}
use Rattle.ledger.specs.Ladder.{Within, Room}
use Rattle.ledger.specs.Words.{track_of, track_at, with_track, entry_place, with_entry, with_installed, with_removed, with_asleep}

-- what a mode's word is read as
pub mode_zero : (w : ℕ) → w ≡ 0 → Asleep ≡ mode_of w
unfolding mode_of
mode_zero w h = rw h

pub mode_one : (w : ℕ) → w ≡ 1 → Forward ≡ mode_of w
unfolding mode_of
mode_one w h = rw h

pub mode_more : (w : ℕ) → (w ≡ 0 → ⊥) → (w ≡ 1 → ⊥) → Undoing ≡ mode_of w
unfolding mode_of
mode_more zero h k = absurd (h refl)
mode_more (suc zero) h k = absurd (k refl)
mode_more (suc (suc w)) h k = refl

pub count_of : {k j : Track} → k ≡ j → k.count ≡ j.count
count_of e = ap (λ (x : Track). x.count) e

-- one track of so many has room where all have, and so have the leading words
pub in_room : {terms : Terms} (ws : List ℕ) (tracks t : ℕ) → Room terms ws tracks → t < tracks → Within terms ws t
unfolding word_count
in_room {terms} ws tracks t r h = let a = r.few in let b = r.words in record { number = omega arith; room = omega (arith, place_below terms tracks t h) }

pub leading_room : {terms : Terms} {ws : List ℕ} {tracks : ℕ} → Room terms ws tracks → leading_words ≤ length ws
unfolding word_count
leading_room {terms = terms} {tracks = tracks} r = omega (arith, r.words, place_after terms tracks)

module _ (terms : Terms) where
  -- the track at a place, from its three words
  pub track_words_lem : (ws : List ℕ) (t : ℕ) (m : Mode) → m ≡ mode_of (get_or ws (track_place terms t) 0)
      → record { mode = m; state = get_or ws (track_place terms t + 1) 0; count = get_or ws (track_place terms t + 2) 0 } ≡ track_at terms ws t
  unfolding track_at track_of configuration_at
  track_words_lem ws t m h =
      let n = length-held_at ws (track_place terms t + head_words) (get_or ws (track_place terms t + 2) 0) in
      λ x. record { mode = h x; state = get_or ws (track_place terms t + 1) 0; count = sym n x }

  -- the leading words stand before a track's, and have room where all tracks have
  pub leading_before : {at : ℕ} (t : ℕ) → at ≡ track_place terms t → leading_words ≤ at
  leading_before t e = omega (arith, e, place_after terms t)

  -- In words that hold a ledger: a track is read as the ledger has it, and a track's words written are those of the ledger with that track
  -- replaced.
  module _ (n : ℕ) (l : Ledger) (ws : List ℕ) (t : ℕ) (f : Fits terms l) (h : t < n) (room : word_count terms n ≤ length ws) where
    pub track_written : track_at terms (written terms n l ws) t ≡ track_of (l t)
    unfolding track_at
    track_written = ap track_of (read_track terms n l ws f room t h)

    count_written : (track_at terms (written terms n l ws) t).count ≡ length (l t).held
    unfolding track_of
    count_written = ap (λ (k : Track). k.count) track_written

    pub asleep_written : with_asleep terms (written terms n l ws) t ≡ written terms n (updated l t sleeping) ws
    unfolding with_asleep in_track
    asleep_written = sleep_track terms n l ws t f h room

    pub put_written : (k : Track) → k.count ≡ length (l t).held
        → with_track terms (written terms n l ws) t k
        ≡ written terms n (updated l t (record { mode = k.mode; state = k.state; held = (l t).held })) ws
    unfolding with_track configuration_words track_width head_words entry_width
    put_written k e =
        let p : track_place terms t ≡ track_place terms t + 0 = omega arith in
        let q = set_three terms n l ws t f h room (record { mode = k.mode; state = k.state; held = (l t).held })
        0 (mode_word k.mode) 1 k.state 2 k.count (omega arith) (omega arith) (omega arith) (rw e) in
        ap (λ (i : ℕ). set (set (set (written terms n l ws) i (mode_word k.mode)) (track_place terms t + 1) k.state) (track_place terms t + 2) k.count) p ∙ q

    pub installed_written : (e : Entry) → length (l t).held < terms.limit
        → with_installed terms (written terms n l ws) t e.code e.deviation
        ≡ written terms n (updated l t (record { mode = (l t).mode; state = (l t).state; held = e ∷ (l t).held })) ws
    unfolding with_installed with_entry entry_place
    installed_written e b = rw count_written (install_entry terms n l ws t f h room e b)

    pub removed_written : (e : Entry) (es : List Entry) → (l t).held ≡ e ∷ es
        → with_removed terms (written terms n l ws) t
        ≡ written terms n (updated l t (record { mode = (l t).mode; state = (l t).state; held = es })) ws
    unfolding with_removed with_entry entry_place
    removed_written e es q =
        let m : pred (track_at terms (written terms n l ws) t).count ≡ length es = ap pred (count_written ∙ ap length q) in
        rw m (remove_entry terms n l ws t f h room e es q)

  -- installing and removing, step by step
  pub install_steps : (ws v w : List ℕ) (t code deviation : ℕ) (k : Track) → k ≡ track_at terms ws t → v ≡ with_entry terms ws t k.count code deviation
      → w ≡ set v (track_place terms t + 2) (k.count + 1) → w ≡ with_installed terms ws t code deviation
  unfolding with_installed
  install_steps ws v w t code deviation k e f g = g ∙ rw (f, add-one, e)

  pub remove_steps : (ws v w : List ℕ) (t : ℕ) (k : Track) → k ≡ track_at terms ws t → v ≡ with_entry terms ws t (k.count - 1) 0 0
      → w ≡ set v (track_place terms t + 2) (k.count - 1) → w ≡ with_removed terms ws t
  unfolding with_removed
  remove_steps ws v w t k e f g = g ∙ rw (f, sub-one, e)

  -- a track's part lent, zeroed and given back
  pub sleep_steps : (ws ys : List ℕ) (t at width : ℕ) → at ≡ track_place terms t → width ≡ track_width terms
      → track_place terms t + track_width terms ≤ length ws → ys ≡ replicate (length (take (at + width - at) (drop at ws))) 0
      → take at ws ++ (ys ++ drop (at + width - at) (drop at ws)) ≡ with_asleep terms ws t
  unfolding with_asleep
  sleep_steps ws ys t at width e w room f =
      let d = length-drop at ws in
      let n : length (take width (drop at ws)) ≡ width = length-take-le width (drop at ws) (omega arith) in
      let g : ys ≡ replicate (length (take width (drop at ws))) 0 = rw add-sub_cancel_left at f in
      rw (add-sub_cancel_left, g, n, e, w)

  -- the words of so many sleeping tracks are zeros
  zeros : (n : ℕ) → ledger_words terms n (λ t. sleeping) ≡ replicate (word_count terms n - leading_words) 0
  unfolding ledger_words word_count
  zeros zero = let e : track_place terms 0 - leading_words ≡ 0 = omega (arith, place_first terms) in rw e
  zeros (suc n) =
      let e : track_place terms (suc n) - leading_words ≡ track_place terms n - leading_words + track_width terms =
      omega (arith, place_more terms n, place_after terms n) in
      rw (zeros n, words_sleeping terms, e) (replicate-append-replicate (track_place terms n - leading_words) (track_width terms) 0)

  -- the part behind the leading words lent, zeroed and given back
  pub sleep_all : (ws ys : List ℕ) (n at : ℕ) → at ≡ track_place terms n → word_count terms n ≤ length ws
      → ys ≡ replicate (length (take (at - leading_words) (drop leading_words ws))) 0
      → take leading_words ws ++ (ys ++ drop (at - leading_words) (drop leading_words ws)) ≡ written terms n (λ t. sleeping) ws
  unfolding written word_count
  sleep_all ws ys n at e room f =
      let d = length-drop leading_words ws in
      let k : length (take (at - leading_words) (drop leading_words ws)) ≡ at - leading_words = length-take-le (at - leading_words) (drop leading_words ws) (omega arith) in
      let m : leading_words + (at - leading_words) ≡ at = omega (arith, place_after terms n) in
      rw (zeros n, f, k, drop-drop (at - leading_words) leading_words ws, m, e)
