-- The words of a ledger and the ledger of words: each gives the other back. Assumes nothing.
use mathlib.Core.Path.{◌≡◌, refl, sym, ap, ◌∙◌, fun_ext}
use mathlib.Core.Logic.{inl, inr}
use mathlib.Core.Bool.{true, false}
use mathlib.Core.List.{List, ◌++◌, append_assoc, append-nil}
use Prim.Native.Nat.{ℕ, zero, suc, ◌+◌, ◌<◌, ◌≤◌}
use native.Mathlib.Nat.{not-suc-le-zero}
use native.Mathlib.Omega.{arith}
use lib.ListN.{length, get_or, take, drop, length-append, length-drop, take-append-drop, get_or-append}
use lib.Seq.{get_or-append-add, ext_get_or, take_at, drop_at, take-add, get_or-take, get_or-drop, length-take-le}
use lib.Dec.{eqb, ltb}
use borrow.Author.Tests.{eqb-true, eqb-false, lt-ltb, le-ltb, ltb-true, ltb-false}
use Rattle.rules.specs.declared.Terms.{Terms}
use Rattle.rules.specs.Layout.{leading_words, track_width, track_place, word_count}
use Rattle.rules.specs.Ledger.{Configuration, Ledger, is_awake, sleeping, configuration_at, configuration_words, ledger_words, written, ledger_at}
use Rattle.rules.specs.Soundness.{is_tidy, are_tidy}
use Rattle.rules.proofs.Tests.{look}
use Rattle.rules.proofs.Folds.{every_at, every_of}
use Rattle.rules.proofs.TrackWords.{place_first, place_after, place_more, place_below, length-configuration_words, Stands, read_stands, tidy_stands, tidy_fits, tidy_read, tidy_blank}

-- `limit` is the most entries that a track holds
module _ (terms : Terms) where
  -- Whole ledgers: every track holds at most `limit` entries.
  abbrev pub Fits : Ledger → Type 0
  Fits l = (t : ℕ) → length (l t).held ≤ terms.limit

  -- the words of so many tracks, after leading words that have their length
  pub length-up_to : (xs : List ℕ) (n : ℕ) (l : Ledger) → length xs ≡ leading_words → Fits l → length (xs ++ ledger_words terms n l) ≡ track_place terms n
  unfolding ledger_words
  length-up_to xs zero l e f = ap length (append-nil xs) ∙ e ∙ sym (place_first terms)
  length-up_to xs (suc n) l e f =
      ap length (sym (append_assoc xs (ledger_words terms n l) (configuration_words terms (l n))))
      ∙ length-append (xs ++ ledger_words terms n l) (configuration_words terms (l n))
      ∙ (let a = length-up_to xs n l e f in let b = length-configuration_words terms (l n) (f n) in let m = place_more terms n in omega arith)

  -- a ledger with room has all leading words
  pub length-leading_lem : (n : ℕ) (ws : List ℕ) → word_count terms n ≤ length ws → length (take leading_words ws) ≡ leading_words
  unfolding word_count
  length-leading_lem n ws h = length-take-le leading_words ws (let a = place_after terms n in omega arith)

  -- what stands before the words beyond, as one list
  pub written_up_to : (n : ℕ) (l : Ledger) (ws : List ℕ)
      → written terms n l ws ≡ (take leading_words ws ++ ledger_words terms n l) ++ drop (word_count terms n) ws
  unfolding written
  written_up_to n l ws = sym (append_assoc (take leading_words ws) (ledger_words terms n l) (drop (word_count terms n) ws))

  pub length-written_lem : (n : ℕ) (l : Ledger) (ws : List ℕ) → Fits l → word_count terms n ≤ length ws → length (written terms n l ws) ≡ length ws
  unfolding word_count
  length-written_lem n l ws f h =
      ap length (written_up_to n l ws)
      ∙ length-append (take leading_words ws ++ ledger_words terms n l) (drop (word_count terms n) ws)
      ∙ (let a = length-up_to (take leading_words ws) n l (length-leading_lem n ws h) f in let b = length-drop (track_place terms n) ws in omega arith)

  -- only the tracks written matter
  pub words_same : (n : ℕ) (l m : Ledger) → ((t : ℕ) → t < n → l t ≡ m t) → ledger_words terms n l ≡ ledger_words terms n m
  unfolding ledger_words
  words_same zero l m h = refl
  words_same (suc n) l m h = rw (words_same n l m (λ t k. h t (omega arith)), h n (omega arith))

  pub written_same : (n : ℕ) (l m : Ledger) (ws : List ℕ) → ((t : ℕ) → t < n → l t ≡ m t) → written terms n l ws ≡ written terms n m ws
  unfolding written
  written_same n l m ws h = ap (λ (v : List ℕ). take leading_words ws ++ (v ++ drop (word_count terms n) ws)) (words_same n l m h)

  -- what was there before and beyond stays
  module _ (n : ℕ) (m : Ledger) (ws : List ℕ) (f : Fits m) (h : word_count terms n ≤ length ws) where
    pub leading_written : take leading_words (written terms n m ws) ≡ take leading_words ws
    unfolding written
    leading_written = take_at (take leading_words ws) _ leading_words (length-leading_lem n ws h)

    pub beyond_written : drop (word_count terms n) (written terms n m ws) ≡ drop (word_count terms n) ws
    unfolding word_count
    beyond_written =
        ap (drop (track_place terms n)) (written_up_to n m ws)
        ∙ drop_at (take leading_words ws ++ ledger_words terms n m) (drop (track_place terms n) ws) _ (length-up_to (take leading_words ws) n m (length-leading_lem n ws h) f)

    -- written twice is written once
    pub written_twice : (l : Ledger) → written terms n l (written terms n m ws) ≡ written terms n l ws
    unfolding written
    written_twice l = rw (leading_written, beyond_written)

  -- each track's words stand at its place
  stands_words : (xs : List ℕ) (n : ℕ) (l : Ledger) (r : List ℕ) → length xs ≡ leading_words → Fits l → (t : ℕ) → t < n
      → Stands terms ((xs ++ ledger_words terms n l) ++ r) (track_place terms t) (l t)
  unfolding ledger_words
  stands_words xs zero l r e f t h j b = absurd (not-suc-le-zero h)
  stands_words xs (suc n) l r e f t h j b =
      let ys : List ℕ = configuration_words terms (l n) in
      let pre : List ℕ = xs ++ ledger_words terms n l in
      ap (λ (v : List ℕ). get_or (v ++ r) (track_place terms t + j) 0) (sym (append_assoc xs (ledger_words terms n l) ys))
      ∙ ap (λ (v : List ℕ). get_or v (track_place terms t + j) 0) (append_assoc pre ys r)
      ∙ elim (look (eqb t n)) [
        | inl d ↦
            let q = eqb-true t n d in
            let i : track_place terms t ≡ length pre = ap (track_place terms) q ∙ sym (length-up_to xs n l e f) in
            ap (λ (i : ℕ). get_or (pre ++ (ys ++ r)) (i + j) 0) i
            ∙ get_or-append-add pre (ys ++ r) j 0
            ∙ get_or-append ys r 0 j (let w = length-configuration_words terms (l n) (f n) in omega arith)
            ∙ ap (λ (u : ℕ). get_or (configuration_words terms (l u)) j 0) (sym q)
        | inr d ↦ let g : t ≡ n → ⊥ = eqb-false t n d in stands_words xs n l (ys ++ r) e f t (omega arith) j b
      ]

  pub stands_written : (n : ℕ) (l : Ledger) (ws : List ℕ) → Fits l → word_count terms n ≤ length ws → (t : ℕ) → t < n
      → Stands terms (written terms n l ws) (track_place terms t) (l t)
  stands_written n l ws f h t b =
      rw (written_up_to n l ws) (stands_words (take leading_words ws) n l (drop (word_count terms n) ws) (length-leading_lem n ws h) f t b)

  -- a ledger that words can hold: it fits, nothing is beyond the last track, and asleep tracks hold nothing
  pub record Storable (n : ℕ) (l : Ledger) : Type 0 where
    pub fits : Fits l
    pub beyond : (t : ℕ) → n ≤ t → l t ≡ sleeping
    pub blank : (t : ℕ) → is_awake (l t).mode ≡ false → l t ≡ sleeping

  -- what was written is read back
  pub read_track : (n : ℕ) (l : Ledger) (ws : List ℕ) → Fits l → word_count terms n ≤ length ws → (t : ℕ) → t < n
      → configuration_at (written terms n l ws) (track_place terms t) ≡ l t
  read_track n l ws f h t b = read_stands terms _ _ (l t) (f t) (stands_written n l ws f h t b)

  pub read_written : (n : ℕ) (l : Ledger) (ws : List ℕ) → Fits l → word_count terms n ≤ length ws → ((t : ℕ) → n ≤ t → l t ≡ sleeping)
      → ledger_at terms (written terms n l ws) n ≡ l
  unfolding ledger_at
  read_written n l ws f h b =
      fun_ext
      (λ t.
      elim (look (ltb t n)) [
        | inl e ↦ rw e (read_track n l ws f h t (ltb-true t n e))
        | inr e ↦ rw e (sym (b t (ltb-false t n e)))
      ])

  pub tidy_written : (n : ℕ) (l : Ledger) (ws : List ℕ) → Storable n l → word_count terms n ≤ length ws → are_tidy terms (written terms n l ws) n ≡ true
  unfolding are_tidy
  tidy_written n l ws s h =
      every_of n _ (λ t b. tidy_stands terms _ _ (l t) (s.fits t) (s.blank t) (stands_written n l ws s.fits h t b))

  -- a track's part of a ledger that is read, and what lies beyond the last
  pub read_at : (n : ℕ) (ws : List ℕ) (t : ℕ) → t < n → ledger_at terms ws n t ≡ configuration_at ws (track_place terms t)
  unfolding ledger_at
  read_at n ws t k = rw (lt-ltb t n k)

  pub read_beyond : (n : ℕ) (ws : List ℕ) (t : ℕ) → n ≤ t → ledger_at terms ws n t ≡ sleeping
  unfolding ledger_at
  read_beyond n ws t k = rw (le-ltb t n k)

  -- Conversely, tidy words are those of the ledger that they read as.
  words_read : (ws : List ℕ) (at : ℕ) → is_tidy terms ws at ≡ true → at + track_width terms ≤ length ws
      → configuration_words terms (configuration_at ws at) ≡ take (track_width terms) (drop at ws)
  words_read ws at h r =
      let n = length-configuration_words terms (configuration_at ws at) (tidy_fits terms ws at h) in
      let m : length (take (track_width terms) (drop at ws)) ≡ track_width terms =
      length-take-le (track_width terms) (drop at ws) (let d = length-drop at ws in omega arith) in
      ext_get_or 0 _ _ (n ∙ sym m)
      (λ j l.
      let k : j < track_width terms = omega (arith, n) in
      sym (tidy_read terms ws at h j k) ∙ sym (get_or-take (track_width terms) (drop at ws) j 0 k ∙ get_or-drop at ws j 0))

  taken_words : (n : ℕ) (l : Ledger) (ws : List ℕ)
      → ((t : ℕ) → t < n → configuration_words terms (l t) ≡ take (track_width terms) (drop (track_place terms t) ws))
      → take leading_words ws ++ ledger_words terms n l ≡ take (track_place terms n) ws
  unfolding ledger_words
  taken_words zero l ws h = append-nil (take leading_words ws) ∙ ap (λ (k : ℕ). take k ws) (sym (place_first terms))
  taken_words (suc n) l ws h =
      sym (append_assoc (take leading_words ws) (ledger_words terms n l) (configuration_words terms (l n)))
      ∙ rw (taken_words n l ws (λ t k. h t (omega arith)), h n (omega arith), place_more terms n)
      (sym (take-add (track_place terms n) (track_width terms) ws))

  module _ (n : ℕ) (ws : List ℕ) (h : are_tidy terms ws n ≡ true) where
    pub tidy_at : (t : ℕ) → t < n → is_tidy terms ws (track_place terms t) ≡ true
    unfolding are_tidy
    tidy_at t k = every_at n _ h t k

    pub written_read : word_count terms n ≤ length ws → written terms n (ledger_at terms ws n) ws ≡ ws
    unfolding word_count
    written_read r =
        let e = taken_words n (ledger_at terms ws n) ws
        (λ t k.
        ap (configuration_words terms) (read_at n ws t k)
        ∙ words_read ws (track_place terms t) (tidy_at t k) (let b = place_below terms n t k in omega arith)) in
        written_up_to n (ledger_at terms ws n) ws ∙ ap (λ (v : List ℕ). v ++ drop (track_place terms n) ws) e ∙ take-append-drop (track_place terms n) ws

    pub storable_read : Storable n (ledger_at terms ws n)
    storable_read =
        record {
          fits = λ t.
              elim (look (ltb t n)) [
                | inl e ↦ let k = ltb-true t n e in rw (read_at n ws t k) (tidy_fits terms ws (track_place terms t) (tidy_at t k))
                | inr e ↦ rw (read_beyond n ws t (ltb-false t n e)) (unfold sleeping in omega arith)
              ];
          beyond = read_beyond n ws;
          blank = λ t a.
              elim (look (ltb t n)) [
                | inl e ↦
                    let k = ltb-true t n e in
                    read_at n ws t k ∙ tidy_blank terms ws (track_place terms t) (tidy_at t k) (sym (ap (λ (x : Configuration). is_awake x.mode) (read_at n ws t k)) ∙ a)
                | inr e ↦ read_beyond n ws t (ltb-false t n e)
              ];
        }
