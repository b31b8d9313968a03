-- The words of one track: which configuration they read as, and what tidy ones tell. They are compared one by one (`Stands`), whatever
-- stands around them. Assumes nothing.
use mathlib.Core.Path.{◌≡◌, refl, sym, ap, ◌∙◌}
use mathlib.Core.Logic.{◌⊎◌, inl, inr}
use mathlib.Core.Bool.{true, false, ◌&&◌}
use mathlib.Core.List.{List, [], ◌∷◌, ◌++◌, append_assoc}
use Prim.Native.Nat.{ℕ, zero, suc, ◌+◌, ◌*◌, ◌-◌, ◌<◌, ◌≤◌}
use native.Mathlib.Nat.{not-suc-le-zero, mul-suc, mul-zero}
use native.Mathlib.Omega.{arith}
use lib.ListN.{length, get_or, replicate, set, length-append, length-replicate, get_or-append}
use lib.Seq.{get_or-append-add, get_or_at, set_at}
use lib.Dec.{eqb, ltb}
use borrow.Author.Tests.{eqb-true, eqb-false, eq-eqb, ltb-true, ltb-false, le-leb, leb-true}
use Rattle.rules.specs.declared.Mode.{Mode}
use Rattle.rules.specs.declared.Mode.TheVariants.{Asleep, Forward, Undoing}
use Rattle.rules.specs.declared.Terms.{Terms}
use Rattle.rules.specs.Layout.{leading_words, head_words, entry_width, track_width, track_place, word_count}
use Rattle.rules.specs.Ledger.{Entry, Configuration, is_awake, sleeping, mode_word, held_words, mode_of, entry_at, held_at, configuration_at, configuration_words}
use Rattle.rules.specs.Soundness.{good_mode, good_count, unused_zero, asleep_zero, is_tidy}
use Rattle.rules.proofs.Tests.{look, clash, and_holds, or_holds, or_right, implies, implied}
use Rattle.rules.proofs.Folds.{every_at, every_of}

pub length-held_words : (es : List Entry) → length (held_words es) ≡ entry_width * length es
unfolding held_words entry_width
length-held_words [] = refl
length-held_words (e ∷ es) = length-append (held_words es) _ ∙ (let i = length-held_words es in omega arith)

pub length-held_at : (ws : List ℕ) (at k : ℕ) → length (held_at ws at k) ≡ k
unfolding held_at
length-held_at ws at zero = refl
length-held_at ws at (suc k) = ap suc (length-held_at ws at k)

-- words that are those of entries read as them
held_read : (es : List Entry) (ws : List ℕ) (at : ℕ)
    → ((j : ℕ) → j < entry_width * length es → get_or ws (at + j) 0 ≡ get_or (held_words es) j 0) → held_at ws at (length es) ≡ es
unfolding held_at entry_at held_words entry_width
held_read [] ws at h = refl
held_read (e ∷ es) ws at h =
    let n : length (held_words es) ≡ 2 * length es = length-held_words es in
    let c : get_or ws (at + 2 * length es) 0 ≡ e.code =
    h (2 * length es) (omega arith) ∙ get_or_at (held_words es) e.code (e.deviation ∷ []) 0 _ n in
    let i : 2 * length es + 1 ≡ length (held_words es) + 1 = omega arith in
    let d : get_or ws (at + 2 * length es + 1) 0 ≡ e.deviation =
    ap (λ (m : ℕ). get_or ws m 0) (omega arith) ∙ h (2 * length es + 1) (omega arith)
    ∙ ap (λ (m : ℕ). get_or (held_words es ++ (e.code ∷ e.deviation ∷ [])) m 0) i
    ∙ get_or-append-add (held_words es) (e.code ∷ e.deviation ∷ []) 1 0 in
    let r : held_at ws at (length es) ≡ es =
    held_read es ws at (λ j l. h j (omega arith) ∙ get_or-append (held_words es) _ 0 j (omega arith)) in
    λ x. record { code = c x; deviation = d x } ∷ r x

-- words with two more: each stands where f says, if the first ones do
two_more : (pre : List ℕ) (f : ℕ → ℕ) (j : ℕ) → (j < length pre → get_or pre j 0 ≡ f j) → j < length pre + 2
    → get_or (pre ++ (f (length pre) ∷ f (length pre + 1) ∷ [])) j 0 ≡ f j
two_more pre f j h l = go (look (ltb j (length pre))) (look (eqb j (length pre)))
  where
    post : List ℕ
    post = f (length pre) ∷ f (length pre + 1) ∷ []

    go : (ltb j (length pre) ≡ true) ⊎ (ltb j (length pre) ≡ false) → (eqb j (length pre) ≡ true) ⊎ (eqb j (length pre) ≡ false)
        → get_or (pre ++ post) j 0 ≡ f j
    go (inl a) e = let m = ltb-true j (length pre) a in get_or-append pre post 0 j m ∙ h m
    go (inr a) (inl e) =
        let i = eqb-true j (length pre) e in
        ap (λ (m : ℕ). get_or (pre ++ post) m 0) i ∙ get_or_at pre _ (f (length pre + 1) ∷ []) 0 _ refl ∙ ap f (sym i)
    go (inr a) (inr e) =
        let m : length pre ≤ j = ltb-false j (length pre) a in
        let n : j ≡ length pre → ⊥ = eqb-false j (length pre) e in
        let i : j ≡ length pre + 1 = omega arith in
        ap (λ (m : ℕ). get_or (pre ++ post) m 0) i ∙ get_or-append-add pre post 1 0 ∙ ap f (sym i)

-- entries that are read have the words that they are read from
pub held_word : (k : ℕ) (ws : List ℕ) (at j : ℕ) → j < entry_width * k → get_or (held_words (held_at ws at k)) j 0 ≡ get_or ws (at + j) 0
unfolding held_at entry_at held_words entry_width
held_word zero ws at j h = absurd (omega arith)
held_word (suc k) ws at j h =
    let pre : List ℕ = held_words (held_at ws at k) in
    let n : length pre ≡ 2 * k = length-held_words (held_at ws at k) ∙ ap (λ (m : ℕ). 2 * m) (length-held_at ws at k) in
    let a : at + 2 * k ≡ at + length pre = omega (arith, n) in
    let b : at + 2 * k + 1 ≡ at + (length pre + 1) = omega (arith, n) in
    ap (λ (m : ℕ). get_or (pre ++ (get_or ws m 0 ∷ get_or ws (at + 2 * k + 1) 0 ∷ [])) j 0) a
    ∙ ap (λ (m : ℕ). get_or (pre ++ (get_or ws (at + length pre) 0 ∷ get_or ws m 0 ∷ [])) j 0) b
    ∙ two_more pre (λ i. get_or ws (at + i) 0) j (λ l. held_word k ws at j (omega (arith, n))) (omega (arith, n))

-- Places.
mode_read : (m : Mode) → mode_of (mode_word m) ≡ m
unfolding mode_of mode_word
mode_read Asleep = refl
mode_read Forward = refl
mode_read Undoing = refl

mode_word_lem : (w : ℕ) → w ≤ 2 → mode_word (mode_of w) ≡ w
unfolding mode_of mode_word
mode_word_lem zero h = refl
mode_word_lem (suc zero) h = refl
mode_word_lem (suc (suc n)) h = omega arith

-- a mode's word is 0 where the track is asleep
mode_zero : (m : Mode) → mode_word m ≡ 0 → m ≡ Asleep
unfolding mode_word
mode_zero Asleep h = refl
mode_zero Forward h = absurd (omega arith)
mode_zero Undoing h = absurd (omega arith)

mode_most : (m : Mode) → mode_word m ≤ 2
unfolding mode_word
mode_most Asleep = omega arith
mode_most Forward = omega arith
mode_most Undoing = omega arith

-- a word set beyond the first ones, and two words set one after the other
pub set_beyond : (xs ys : List ℕ) (n j v : ℕ) → length xs ≡ n → set (xs ++ ys) (n + j) v ≡ xs ++ set ys j v
set_beyond [] ys n j v e = let i : n + j ≡ j = omega arith in rw i
set_beyond (x ∷ xs) ys zero j v e = absurd (omega arith)
set_beyond (x ∷ xs) ys (suc n) j v e =
    let i : suc n + j ≡ suc (n + j) = omega arith in
    rw i (ap (λ (u : List ℕ). x ∷ u) (set_beyond xs ys n j v (omega arith)))

set_two : (xs ys : List ℕ) (n a b c d : ℕ) → length xs ≡ n
    → set (set (xs ++ (a ∷ b ∷ ys)) n c) (n + 1) d ≡ xs ++ (c ∷ d ∷ ys)
set_two xs ys n a b c d e = rw (set_at xs a (b ∷ ys) c n e) (set_beyond xs (c ∷ b ∷ ys) n 1 d e)

asleep_zero_lem : (w : ℕ) → is_awake (mode_of w) ≡ false → w ≡ 0
unfolding mode_of is_awake
asleep_zero_lem zero h = refl
asleep_zero_lem (suc zero) h = clash refl h
asleep_zero_lem (suc (suc n)) h = clash refl h

pub zero_word : (n i : ℕ) → get_or {A = ℕ} (replicate n 0) i 0 ≡ 0
zero_word zero i = refl
zero_word (suc n) zero = refl
zero_word (suc n) (suc i) = zero_word n i

-- `limit` is the most entries that a track holds
module _ (terms : Terms) where
  pub place_first : track_place terms 0 ≡ leading_words
  unfolding track_place
  place_first = rw mul-zero (omega arith)

  pub place_more : (t : ℕ) → track_place terms (suc t) ≡ track_place terms t + track_width terms
  unfolding track_place
  place_more t = rw mul-suc (omega arith)

  -- no track's words start among the leading ones
  pub place_after : (t : ℕ) → leading_words ≤ track_place terms t
  unfolding track_place
  place_after t = omega arith

  -- a track's words end where those of so many tracks do, or before
  pub place_below : (n t : ℕ) → t < n → track_place terms t + track_width terms ≤ track_place terms n
  place_below zero t h = absurd (not-suc-le-zero h)
  place_below (suc n) t h =
      let m = place_more n in
      elim (look (eqb t n)) [
        | inl e ↦ let i = eqb-true t n e in let q : track_place terms t ≡ track_place terms n = ap (track_place terms) i in omega arith
        | inr e ↦ let f : t ≡ n → ⊥ = eqb-false t n e in let r = place_below n t (omega arith) in omega arith
      ]

  -- fewer tracks need no more words
  pub fewer_words : (n m : ℕ) → n ≤ m → word_count terms n ≤ word_count terms m
  unfolding word_count
  fewer_words n m h =
      elim (look (eqb n m)) [
        | inl e ↦ let q : track_place terms n ≡ track_place terms m = ap (track_place terms) (eqb-true n m e) in omega arith
        | inr e ↦ let f : n ≡ m → ⊥ = eqb-false n m e in omega (arith, place_below m n (omega arith))
      ]

  pub length-configuration_words : (c : Configuration) → length c.held ≤ terms.limit → length (configuration_words terms c) ≡ track_width terms
  unfolding configuration_words track_width head_words entry_width
  length-configuration_words c h =
      let a = length-append (held_words c.held) (replicate (2 * (terms.limit - length c.held)) 0) in
      let b : length (held_words c.held) ≡ 2 * length c.held = length-held_words c.held in
      let d = length-replicate {A = ℕ} (2 * (terms.limit - length c.held)) 0 in
      omega arith

  -- "An asleep track is all zeros."
  pub sleeping_word : (j : ℕ) → get_or (configuration_words terms sleeping) j 0 ≡ 0
  unfolding configuration_words sleeping held_words mode_word
  sleeping_word zero = refl
  sleeping_word (suc zero) = refl
  sleeping_word (suc (suc zero)) = refl
  sleeping_word (suc (suc (suc j))) = zero_word (entry_width * (terms.limit - 0)) j

  pub words_sleeping : configuration_words terms sleeping ≡ replicate (track_width terms) 0
  unfolding configuration_words sleeping held_words mode_word track_width head_words entry_width
  words_sleeping =
      let i : 3 + 2 * terms.limit ≡ suc (suc (suc (2 * (terms.limit - 0)))) = omega arith in
      rw i

  -- one more entry, and one less, in a track's own words
  pub install_words : (c : Configuration) (e : Entry) → length c.held < terms.limit
      → set
      (set (set (configuration_words terms c) (3 + entry_width * length c.held) e.code) (3 + entry_width * length c.held + 1)
      e.deviation)
      2 (suc (length c.held))
      ≡ configuration_words terms (record { mode = c.mode; state = c.state; held = e ∷ c.held })
  unfolding configuration_words held_words entry_width
  install_words c e h =
      let o : ℕ = length c.held in
      let hs : List ℕ = held_words c.held in
      let m : length hs ≡ 2 * o = length-held_words c.held in
      let z : List ℕ = replicate (2 * (terms.limit - suc o)) 0 in
      let i : 2 * (terms.limit - o) ≡ suc (suc (2 * (terms.limit - suc o))) = omega arith in
      let a : 3 + 2 * o ≡ suc (suc (suc (2 * o))) = omega arith in
      let b : 3 + 2 * o + 1 ≡ suc (suc (suc (2 * o + 1))) = omega arith in
      rw (b, a, i)
      (ap (λ (u : List ℕ). mode_word c.mode ∷ c.state ∷ suc o ∷ u)
      (set_two hs z (2 * o) 0 0 e.code e.deviation m ∙ sym (append_assoc hs (e.code ∷ e.deviation ∷ []) z)))

  pub remove_words : (c : Configuration) (e : Entry) (es : List Entry) → c.held ≡ e ∷ es → suc (length es) ≤ terms.limit
      → set (set (set (configuration_words terms c) (3 + entry_width * length es) 0) (3 + entry_width * length es + 1) 0) 2 (length es)
      ≡ configuration_words terms (record { mode = c.mode; state = c.state; held = es })
  unfolding configuration_words held_words entry_width
  remove_words c e es q h =
      let o : ℕ = length es in
      let hs : List ℕ = held_words es in
      let m : length hs ≡ 2 * o = length-held_words es in
      let z : List ℕ = replicate (2 * (terms.limit - suc o)) 0 in
      let i : 2 * (terms.limit - o) ≡ suc (suc (2 * (terms.limit - suc o))) = omega arith in
      let a : 3 + 2 * o ≡ suc (suc (suc (2 * o))) = omega arith in
      let b : 3 + 2 * o + 1 ≡ suc (suc (suc (2 * o + 1))) = omega arith in
      rw (q, b, a, i, append_assoc hs (e.code ∷ e.deviation ∷ []) z)
      (ap (λ (u : List ℕ). mode_word c.mode ∷ c.state ∷ o ∷ u) (set_two hs z (2 * o) e.code e.deviation 0 0 m))

  -- the words at a place are those of the configuration
  abbrev pub Stands : List ℕ → ℕ → Configuration → Type 0
  Stands ws at c = (j : ℕ) → j < track_width terms → get_or ws (at + j) 0 ≡ get_or (configuration_words terms c) j 0

  -- such words read as it
  pub read_stands : (ws : List ℕ) (at : ℕ) (c : Configuration) → length c.held ≤ terms.limit → Stands ws at c → configuration_at ws at ≡ c
  unfolding configuration_at configuration_words track_width head_words entry_width
  read_stands ws at c h s =
      let m : get_or ws at 0 ≡ mode_word c.mode = ap (λ (i : ℕ). get_or ws i 0) (omega arith) ∙ s 0 (omega arith) in
      let t : get_or ws (at + 1) 0 ≡ c.state = s 1 (omega arith) in
      let n : get_or ws (at + 2) 0 ≡ length c.held = s 2 (omega arith) in
      let b : length (held_words c.held) ≡ 2 * length c.held = length-held_words c.held in
      let r : held_at ws (at + 3) (length c.held) ≡ c.held =
      held_read c.held ws (at + 3)
      (λ j l.
      ap (λ (i : ℕ). get_or ws i 0) (omega arith) ∙ s (suc (suc (suc j))) (omega arith)
      ∙ get_or-append (held_words c.held) _ 0 j (omega arith)) in
      let q = ap (held_at ws (at + 3)) n ∙ r in
      λ x. record { mode = (ap mode_of m ∙ mode_read c.mode) x; state = t x; held = q x }

  -- such words are tidy
  unused_stands : (ws : List ℕ) (at : ℕ) (c : Configuration) → Stands ws at c → unused_zero terms ws at ≡ true
  unfolding unused_zero configuration_words track_width head_words entry_width
  unused_stands ws at c s =
      let n : get_or ws (at + 2) 0 ≡ length c.held = s 2 (omega arith) in
      let b : length (held_words c.held) ≡ 2 * length c.held = length-held_words c.held in
      every_of (2 * terms.limit) _
      (λ j l.
      elim (look (ltb j (2 * get_or ws (at + 2) 0))) [
        | inl e ↦ rw e
        | inr e ↦
            let m : 2 * get_or ws (at + 2) 0 ≤ j = ltb-false j (2 * get_or ws (at + 2) 0) e in
            let zs : List ℕ = replicate (2 * (terms.limit - length c.held)) 0 in
            let i : j ≡ length (held_words c.held) + (j - length (held_words c.held)) = omega arith in
            let w : get_or ws (at + 3 + j) 0 ≡ 0 =
            ap (λ (i : ℕ). get_or ws i 0) (omega arith) ∙ s (suc (suc (suc j))) (omega arith)
            ∙ ap (λ (i : ℕ). get_or (held_words c.held ++ zs) i 0) i
            ∙ get_or-append-add (held_words c.held) zs (j - length (held_words c.held)) 0
            ∙ zero_word (2 * (terms.limit - length c.held)) (j - length (held_words c.held)) in
            or_right (ltb j (2 * get_or ws (at + 2) 0)) _ (eq-eqb _ _ w)
      ])

  asleep_stands : (ws : List ℕ) (at : ℕ) (c : Configuration) → (is_awake c.mode ≡ false → c ≡ sleeping) → Stands ws at c → asleep_zero terms ws at ≡ true
  unfolding asleep_zero
  asleep_stands ws at c blank s =
      implied (eqb (get_or ws at 0) 0) _
      (λ e.
      let m : get_or ws at 0 ≡ mode_word c.mode =
      unfold configuration_words track_width head_words in ap (λ (i : ℕ). get_or ws i 0) (omega arith) ∙ s 0 (omega arith) in
      let z : c.mode ≡ Asleep = mode_zero c.mode (sym m ∙ eqb-true _ _ e) in
      let b : c ≡ sleeping = blank (ap is_awake z ∙ unfold is_awake in refl) in
      every_of (track_width terms) _
      (λ j l. eq-eqb _ _ (s j l ∙ ap (λ (x : Configuration). get_or (configuration_words terms x) j 0) b ∙ sleeping_word j)))

  mode_stands : (ws : List ℕ) (at : ℕ) (c : Configuration) → Stands ws at c → good_mode ws at ≡ true
  unfolding good_mode configuration_words track_width head_words
  mode_stands ws at c s =
      let m : get_or ws at 0 ≡ mode_word c.mode = ap (λ (i : ℕ). get_or ws i 0) (omega arith) ∙ s 0 (omega arith) in
      let o = mode_most c.mode in le-leb (get_or ws at 0) 2 (omega arith)

  count_stands : (ws : List ℕ) (at : ℕ) (c : Configuration) → length c.held ≤ terms.limit → Stands ws at c → good_count terms ws at ≡ true
  unfolding good_count configuration_words track_width head_words
  count_stands ws at c fits s =
      let n : get_or ws (at + 2) 0 ≡ length c.held = s 2 (omega arith) in le-leb (get_or ws (at + 2) 0) terms.limit (omega arith)

  pub tidy_stands : (ws : List ℕ) (at : ℕ) (c : Configuration) → length c.held ≤ terms.limit → (is_awake c.mode ≡ false → c ≡ sleeping)
      → Stands ws at c → is_tidy terms ws at ≡ true
  unfolding is_tidy
  tidy_stands ws at c fits blank s =
      rw (mode_stands ws at c s, count_stands ws at c fits s, unused_stands ws at c s) (asleep_stands ws at c blank s)

  -- What tidy words tell.
  module _ (ws : List ℕ) (at : ℕ) (h : is_tidy terms ws at ≡ true) where
    tidy_parts : (good_mode ws at ≡ true) × (good_count terms ws at ≡ true) × (unused_zero terms ws at ≡ true) × (asleep_zero terms ws at ≡ true)
    unfolding is_tidy
    tidy_parts =
        let (a, d) = and_holds (good_mode ws at && good_count terms ws at && unused_zero terms ws at) (asleep_zero terms ws at) h in
        let (a, c) = and_holds (good_mode ws at && good_count terms ws at) (unused_zero terms ws at) a in
        let (a, b) = and_holds (good_mode ws at) (good_count terms ws at) a in
        (a, b, c, d)

    pub tidy_mode : get_or ws at 0 ≤ 2
    unfolding good_mode
    tidy_mode = leb-true _ _ tidy_parts.0

    pub tidy_count : get_or ws (at + 2) 0 ≤ terms.limit
    unfolding good_count
    tidy_count = leb-true _ _ tidy_parts.1

    -- what is read of them fits
    pub tidy_fits : length (configuration_at ws at).held ≤ terms.limit
    unfolding configuration_at
    tidy_fits = omega (arith, length-held_at ws (at + head_words) (get_or ws (at + 2) 0), tidy_count)

    -- unused pairs are zero
    pub tidy_unused : (j : ℕ) → j < entry_width * terms.limit → entry_width * get_or ws (at + 2) 0 ≤ j → get_or ws (at + head_words + j) 0 ≡ 0
    unfolding unused_zero
    tidy_unused j l m =
        eqb-true _ _
        (elim (or_holds (ltb j (entry_width * get_or ws (at + 2) 0)) _ (every_at _ _ tidy_parts.2 j l)) [
          | inl e ↦ let k = ltb-true j _ e in absurd (omega arith)
          | inr e ↦ e
        ])

    -- what is read of them has these words
    pub tidy_read : Stands ws at (configuration_at ws at)
    unfolding configuration_at configuration_words track_width head_words entry_width
    tidy_read zero l = ap (λ (i : ℕ). get_or ws i 0) (omega arith) ∙ sym (mode_word_lem (get_or ws at 0) tidy_mode)
    tidy_read (suc zero) l = refl
    tidy_read (suc (suc zero)) l = sym (length-held_at ws (at + 3) (get_or ws (at + 2) 0))
    tidy_read (suc (suc (suc j))) l =
        let k : ℕ = get_or ws (at + 2) 0 in
        let es : List Entry = held_at ws (at + 3) k in
        let zs : List ℕ = replicate (2 * (terms.limit - length es)) 0 in
        let n : length (held_words es) ≡ 2 * k = length-held_words es ∙ ap (λ (m : ℕ). 2 * m) (length-held_at ws (at + 3) k) in
        let i : at + suc (suc (suc j)) ≡ at + 3 + j = omega arith in
        ap (λ (i : ℕ). get_or ws i 0) i
        ∙ elim (look (ltb j (2 * k))) [
          | inl e ↦
              let m = ltb-true j (2 * k) e in
              sym (get_or-append (held_words es) zs 0 j (omega (arith, n)) ∙ held_word k ws (at + 3) j m)
          | inr e ↦
              let m : 2 * k ≤ j = ltb-false j (2 * k) e in
              let i : j ≡ length (held_words es) + (j - length (held_words es)) = omega (arith, n) in
              tidy_unused j (omega arith) m
              ∙ sym (ap (λ (i : ℕ). get_or (held_words es ++ zs) i 0) i ∙ get_or-append-add (held_words es) zs _ 0
              ∙ zero_word (2 * (terms.limit - length es)) (j - length (held_words es)))
        ]

    -- asleep it is all zeros
    pub tidy_blank : is_awake (configuration_at ws at).mode ≡ false → configuration_at ws at ≡ sleeping
    unfolding configuration_at asleep_zero sleeping
    tidy_blank a =
        let z : get_or ws at 0 ≡ 0 = asleep_zero_lem (get_or ws at 0) a in
        let f : (j : ℕ) → j < track_width terms → get_or ws (at + j) 0 ≡ 0 =
        λ j l. eqb-true _ _ (every_at _ _ (implies (eqb (get_or ws at 0) 0) _ tidy_parts.3 (eq-eqb _ _ z)) j l) in
        let s : get_or ws (at + 1) 0 ≡ 0 = f 1 (unfold track_width head_words in omega arith) in
        let n : get_or ws (at + 2) 0 ≡ 0 = f 2 (unfold track_width head_words in omega arith) in
        let q : held_at ws (at + head_words) (get_or ws (at + 2) 0) ≡ [] = rw n (unfold held_at in refl) in
        let m : mode_of (get_or ws at 0) ≡ Asleep = rw z (unfold mode_of in refl) in
        λ x. record { mode = m x; state = s x; held = q x }
