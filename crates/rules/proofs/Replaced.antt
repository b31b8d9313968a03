-- A ledger's words with one track's replaced are those of the ledger with that track replaced, whether its part was lent or single words
-- were set. What lies before the part, and after it, is the same. Assumes nothing.
use mathlib.Core.Path.{◌≡◌, refl, sym, ap, ◌∙◌, fun_ext}
use mathlib.Core.Logic.{inl, inr}
use mathlib.Core.Bool.{cond}
use mathlib.Core.List.{List, [], ◌∷◌, ◌++◌, append_assoc, append-nil}
use Prim.Native.Nat.{ℕ, zero, suc, ◌+◌, ◌*◌, ◌<◌, ◌≤◌}
use native.Mathlib.Nat.{not-suc-le-zero}
use native.Mathlib.Omega.{arith}
use lib.ListN.{length, take, drop, replicate, set, length-set}
use lib.Seq.{set-append_left, take_at, drop_at, length-take-le}
use lib.Dec.{eqb}
use borrow.Author.Tests.{eqb-true, eqb-false, eq-eqb, ne_eqb}
use Rattle.rules.specs.declared.Terms.{Terms}
use Rattle.rules.specs.Layout.{leading_words, head_words, entry_width, track_width, track_place, entries_place, word_count}
use Rattle.rules.specs.Ledger.{Entry, Configuration, Ledger, sleeping, configuration_words, ledger_words, written}
use Rattle.rules.proofs.Tests.{look}
use Rattle.rules.proofs.TrackWords.{set_beyond, place_below, length-configuration_words, words_sleeping, install_words, remove_words}
use Rattle.rules.proofs.Stored.{Fits, length-up_to, length-leading_lem, written_up_to, length-written_lem, words_same}

-- the ledger with one track replaced
unfoldable pub updated : Ledger → ℕ → Configuration → Ledger
updated l k x t = cond (eqb t k) x (l t)

pub updated_here : (l : Ledger) (k : ℕ) (x : Configuration) → updated l k x k ≡ x
unfolding updated
updated_here l k x = rw (eq-eqb k k refl)

pub updated_other : (l : Ledger) (k t : ℕ) (x : Configuration) → (t ≡ k → ⊥) → updated l k x t ≡ l t
unfolding updated
updated_other l k t x h = rw (ne_eqb t k h)

-- nothing is replaced by itself
pub updated_same : (l : Ledger) (k : ℕ) → updated l k (l k) ≡ l
updated_same l k =
    fun_ext
    (λ t.
    elim (look (eqb t k)) [
      | inl e ↦ let q = eqb-true t k e in ap (updated l k (l k)) q ∙ updated_here l k (l k) ∙ ap l (sym q)
      | inr e ↦ updated_other l k t (l k) (eqb-false t k e)
    ])

-- `limit` is the most entries that a track holds
module _ (terms : Terms) where
  -- One track replaced. What lies before its words, and after them, is the same.
  split : (n : ℕ) (l : Ledger) (k : ℕ) → k < n
      → (post : List ℕ)
      × ((x : Configuration) → ledger_words terms n (updated l k x) ≡ ledger_words terms k l ++ (configuration_words terms x ++ post))
  unfolding ledger_words
  split zero l k h = absurd (not-suc-le-zero h)
  split (suc n) l k h =
      elim (look (eqb k n)) [
        | inl e ↦
            let q = eqb-true k n e in (
              [],
              λ x.
                  let a : ledger_words terms n (updated l k x) ≡ ledger_words terms n l =
                  words_same terms n (updated l k x) l (λ t b. updated_other l k t x (λ (i : t ≡ k). omega arith)) in
                  let b : updated l k x n ≡ x = ap (updated l k x) (sym q) ∙ updated_here l k x in
                  rw (a, b, append-nil, q),
            )
        | inr e ↦
            let g : k ≡ n → ⊥ = eqb-false k n e in
            let (post, r) = split n l k (omega arith) in (
              post ++ configuration_words terms (l n),
              λ x.
                  let b : updated l k x n ≡ l n = updated_other l k n x (λ (i : n ≡ k). g (sym i)) in
                  rw (r x, b, append_assoc, append_assoc),
            )
      ]

  pub updated_fits : (l : Ledger) (k : ℕ) (x : Configuration) → Fits terms l → length x.held ≤ terms.limit → Fits terms (updated l k x)
  updated_fits l k x f h t =
      elim (look (eqb t k)) [
        | inl e ↦ let q = eqb-true t k e in rw (q, updated_here l k x) h
        | inr e ↦ rw (updated_other l k t x (eqb-false t k e)) (f t)
      ]

  -- the words with one track's part replaced, as a part that was lent gives them back
  unfoldable pub in_track : List ℕ → ℕ → List ℕ → List ℕ
  in_track ws k ys = take (track_place terms k) ws ++ (ys ++ drop (track_width terms) (drop (track_place terms k) ws))

  -- they are those of the ledger with that track replaced
  pub put_track_lem : (n : ℕ) (l : Ledger) (ws : List ℕ) (k : ℕ) (x : Configuration) → Fits terms l → k < n → word_count terms n ≤ length ws
      → in_track (written terms n l ws) k (configuration_words terms x) ≡ written terms n (updated l k x) ws
  unfolding in_track
  put_track_lem n l ws k x f h room =
      let (post, r) = split n l k h in
      let pre : List ℕ = take leading_words ws ++ ledger_words terms k l in
      let rest : List ℕ = drop (word_count terms n) ws in
      let old : List ℕ = configuration_words terms (l k) in
      let parts : (y : Configuration) → written terms n (updated l k y) ws ≡ pre ++ (configuration_words terms y ++ (post ++ rest)) =
      λ y.
      written_up_to terms n (updated l k y) ws
      ∙ ap (λ (v : List ℕ). (take leading_words ws ++ v) ++ rest) (r y)
      ∙ ap (λ (v : List ℕ). v ++ rest) (sym (append_assoc (take leading_words ws) (ledger_words terms k l) (configuration_words terms y ++ post)))
      ∙ append_assoc pre (configuration_words terms y ++ post) rest ∙ ap (λ (v : List ℕ). pre ++ v) (append_assoc (configuration_words terms y) post rest) in
      let e : written terms n l ws ≡ pre ++ (old ++ (post ++ rest)) = ap (λ (m : Ledger). written terms n m ws) (sym (updated_same l k)) ∙ parts (l k) in
      let a : length pre ≡ track_place terms k = length-up_to terms (take leading_words ws) k l (length-leading_lem terms n ws room) f in
      let b : length old ≡ track_width terms = length-configuration_words terms (l k) (f k) in
      rw (e, take_at pre (old ++ (post ++ rest)) _ a, drop_at pre (old ++ (post ++ rest)) _ a, drop_at old (post ++ rest) _ b) (sym (parts x))

  -- a track's part is what was written of it
  pub own_part : (n : ℕ) (l : Ledger) (ws : List ℕ) (k : ℕ) → Fits terms l → k < n → word_count terms n ≤ length ws
      → written terms n l ws ≡ in_track (written terms n l ws) k (configuration_words terms (l k))
  own_part n l ws k f h room = sym (put_track_lem n l ws k (l k) f h room ∙ ap (λ (m : Ledger). written terms n m ws) (updated_same l k))

  -- single words of a track are set in its part
  pub set_part : (ws : List ℕ) (k : ℕ) (ys : List ℕ) (j v : ℕ) → track_place terms k ≤ length ws → j < length ys
      → set (in_track ws k ys) (track_place terms k + j) v ≡ in_track ws k (set ys j v)
  unfolding in_track
  set_part ws k ys j v h b =
      let a : length (take (track_place terms k) ws) ≡ track_place terms k = length-take-le (track_place terms k) ws h in
      set_beyond (take (track_place terms k) ws) _ (track_place terms k) j v a
      ∙ ap (λ (u : List ℕ). take (track_place terms k) ws ++ u) (set-append_left ys _ j v b)

  -- One word or a pair of words set in a track whose words are written.
  module _ (n : ℕ) (l : Ledger) (ws : List ℕ) (k : ℕ) (f : Fits terms l) (h : k < n) (room : word_count terms n ≤ length ws) where
    before : track_place terms k ≤ length (written terms n l ws)
    before =
        let a : track_place terms k + track_width terms ≤ word_count terms n = unfold word_count in place_below terms n k h in
        omega (arith, length-written_lem terms n l ws f room)

    -- so many words in, whatever they are: a law of the track's own words is one of the ledger
    pub set_track : (x : Configuration) (j v : ℕ) → j < track_width terms → set (configuration_words terms (l k)) j v ≡ configuration_words terms x
        → set (written terms n l ws) (track_place terms k + j) v ≡ written terms n (updated l k x) ws
    set_track x j v b e =
        ap (λ (u : List ℕ). set u (track_place terms k + j) v) (own_part n l ws k f h room)
        ∙ set_part (written terms n l ws) k (configuration_words terms (l k)) j v before (let w = length-configuration_words terms (l k) (f k) in omega arith)
        ∙ ap (in_track (written terms n l ws) k) e ∙ put_track_lem n l ws k x f h room

    -- an entry's two words and the count: three words set in the track's own words
    pub set_three : (x : Configuration) (i a j b m c : ℕ) → i < track_width terms → j < track_width terms → m < track_width terms
        → set (set (set (configuration_words terms (l k)) i a) j b) m c ≡ configuration_words terms x
        → set (set (set (written terms n l ws) (track_place terms k + i) a) (track_place terms k + j) b) (track_place terms k + m) c
        ≡ written terms n (updated l k x) ws
    set_three x i a j b m c hi hj hm e =
        let y₀ : List ℕ = configuration_words terms (l k) in
        let w : length y₀ ≡ track_width terms = length-configuration_words terms (l k) (f k) in
        let y₁ : List ℕ = set y₀ i a in
        let y₂ : List ℕ = set y₁ j b in
        let w₁ : length y₁ ≡ track_width terms = length-set y₀ i a ∙ w in
        let w₂ : length y₂ ≡ track_width terms = length-set y₁ j b ∙ w₁ in
        let W : List ℕ = written terms n l ws in
        ap (λ (u : List ℕ). set (set (set u (track_place terms k + i) a) (track_place terms k + j) b) (track_place terms k + m) c) (own_part n l ws k f h room)
        ∙ ap (λ (u : List ℕ). set (set u (track_place terms k + j) b) (track_place terms k + m) c) (set_part W k y₀ i a before (omega arith))
        ∙ ap (λ (u : List ℕ). set u (track_place terms k + m) c) (set_part W k y₁ j b before (omega arith))
        ∙ set_part W k y₂ m c before (omega arith)
        ∙ ap (in_track W k) e ∙ put_track_lem n l ws k x f h room

    -- one more entry: its two words behind those held, and the count
    pub install_entry : (e : Entry) → length (l k).held < terms.limit
        → set
        (set (set (written terms n l ws) (entries_place terms k + entry_width * length (l k).held) e.code)
        (entries_place terms k + entry_width * length (l k).held + 1) e.deviation)
        (track_place terms k + 2) (suc (length (l k).held))
        ≡ written terms n (updated l k (record { mode = (l k).mode; state = (l k).state; held = e ∷ (l k).held })) ws
    unfolding entries_place head_words entry_width track_width
    install_entry e b =
        let o : ℕ = length (l k).held in
        let x : Configuration = record { mode = (l k).mode; state = (l k).state; held = e ∷ (l k).held } in
        let i : track_place terms k + 3 + 2 * o ≡ track_place terms k + (3 + 2 * o) = omega arith in
        let j : track_place terms k + 3 + 2 * o + 1 ≡ track_place terms k + (3 + 2 * o + 1) = omega arith in
        rw (j, i)
        (set_three x (3 + 2 * o) e.code (3 + 2 * o + 1) e.deviation 2 (suc o) (omega arith) (omega arith) (omega arith)
        (install_words terms (l k) e b))

    -- the newest entry removed: its two words zero, and the count
    pub remove_entry : (e : Entry) (es : List Entry) → (l k).held ≡ e ∷ es
        → set (set (set (written terms n l ws) (entries_place terms k + entry_width * length es) 0) (entries_place terms k + entry_width * length es + 1) 0)
        (track_place terms k + 2) (length es)
        ≡ written terms n (updated l k (record { mode = (l k).mode; state = (l k).state; held = es })) ws
    unfolding entries_place head_words entry_width track_width
    remove_entry e es q =
        let o : ℕ = length es in
        let b : suc (length es) ≤ terms.limit = omega (arith, ap length q, f k) in
        let x : Configuration = record { mode = (l k).mode; state = (l k).state; held = es } in
        let i : track_place terms k + 3 + 2 * o ≡ track_place terms k + (3 + 2 * o) = omega arith in
        let j : track_place terms k + 3 + 2 * o + 1 ≡ track_place terms k + (3 + 2 * o + 1) = omega arith in
        rw (j, i)
        (set_three x (3 + 2 * o) 0 (3 + 2 * o + 1) 0 2 o (omega arith) (omega arith) (omega arith) (remove_words terms (l k) e es q b))

    -- asleep: all zeros
    pub sleep_track : in_track (written terms n l ws) k (replicate (track_width terms) 0) ≡ written terms n (updated l k sleeping) ws
    sleep_track = ap (in_track (written terms n l ws) k) (sym (words_sleeping terms)) ∙ put_track_lem n l ws k sleeping f h room
