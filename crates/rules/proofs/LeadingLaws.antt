-- The leading words: begin's are the plan's own with the earliest day, an event's day replaces the last two of them, and writing tracks leaves
-- all as they are. Each is read off the first words, whatever stands behind. Assumes nothing.
use mathlib.Core.Path.{◌≡◌, refl, sym, ap, ◌∙◌}
use mathlib.Core.Bool.{false}
use mathlib.Core.List.{List, [], ◌∷◌, ◌++◌}
use Prim.Native.Nat.{ℕ, ◌+◌, ◌-◌, ◌<◌, ◌≤◌}
use native.Mathlib.Omega.{arith}
use lib.IntN.{ℤ}
use lib.ListN.{length, get_or, set, take, drop, length-drop}
use lib.Seq.{get_or-take, drop-drop}
use borrow.Author.Tests.{eq-eqb}
use Rattle.rules.specs.declared.Terms.{Terms}
use Rattle.rules.specs.Signed.{signed_of, bits_of, joined, low_word, high_word}
use Rattle.rules.specs.Day.{earliest_day}
use Rattle.rules.specs.Layout.{leading_words, length_place, sum_place, low_day_place, high_day_place, track_place, word_count}
use Rattle.rules.specs.Leading.{plan_sum, last_day, dated, stamped, other_plan}
use Rattle.rules.specs.Ledger.{Ledger, ledger_words, written}
use Rattle.rules.proofs.TrackWords.{place_after}
use Rattle.rules.proofs.Stored.{Fits, leading_written}

module _ (bs ws : List ℕ) where
  pub length-stamped_lem : leading_words ≤ length ws → length (stamped bs ws) ≡ length ws
  unfolding stamped leading_words
  length-stamped_lem h = let d = length-drop leading_words ws in omega arith

  -- a stamped ledger is the plan's own
  pub stamped_own : other_plan bs (stamped bs ws) ≡ false
  unfolding other_plan stamped
  stamped_own = rw (eq-eqb (length bs) (length bs) refl, eq-eqb (plan_sum bs) (plan_sum bs) refl)

  pub stamped_day : last_day (stamped bs ws) ≡ earliest_day
  unfolding last_day stamped joined low_word high_word signed_of bits_of
  stamped_day = refl

  -- ledgers alike in the leading words are a plan's own alike, and have the same day
  alike_at : (vs : List ℕ) → take leading_words vs ≡ take leading_words ws → (i : ℕ) → i < leading_words → get_or vs i 0 ≡ get_or ws i 0
  alike_at vs e i b = sym (get_or-take leading_words vs i 0 b) ∙ ap (λ (u : List ℕ). get_or u i 0) e ∙ get_or-take leading_words ws i 0 b

  pub other_alike : (vs : List ℕ) → take leading_words vs ≡ take leading_words ws → other_plan bs vs ≡ other_plan bs ws
  unfolding other_plan
  other_alike vs e =
      rw (alike_at vs e length_place (unfold leading_words in omega arith), alike_at vs e sum_place (unfold leading_words in omega arith))

  pub day_alike : (vs : List ℕ) → take leading_words vs ≡ take leading_words ws → last_day vs ≡ last_day ws
  unfolding last_day
  day_alike vs e =
      rw (alike_at vs e low_day_place (unfold leading_words in omega arith), alike_at vs e high_day_place (unfold leading_words in omega arith))

  module _ (terms : Terms) (n : ℕ) (l : Ledger) (f : Fits terms l) (h : word_count terms n ≤ length ws) where
    pub other_written : other_plan bs (written terms n l ws) ≡ other_plan bs ws
    other_written = other_alike (written terms n l ws) (leading_written terms n l ws f h)

    pub day_written : last_day (written terms n l ws) ≡ last_day ws
    day_written = day_alike (written terms n l ws) (leading_written terms n l ws f h)

-- a ledger with the leading words begins with four
by_four : (P : List ℕ → Type 0) → ((a b c d : ℕ) (r : List ℕ) → P (a ∷ b ∷ c ∷ d ∷ r)) → (ws : List ℕ) → leading_words ≤ length ws → P ws
unfolding leading_words
by_four P f [] h = absurd (omega arith)
by_four P f (a ∷ []) h = absurd (omega arith)
by_four P f (a ∷ b ∷ []) h = absurd (omega arith)
by_four P f (a ∷ b ∷ c ∷ []) h = absurd (omega arith)
by_four P f (a ∷ b ∷ c ∷ d ∷ r) h = f a b c d r

-- An event's day in the leading words: what stands before and behind stays.
module _ (day : ℤ) where
  pub length-dated_lem : (ws : List ℕ) → leading_words ≤ length ws → length (dated day ws) ≡ length ws
  unfolding dated leading_words
  length-dated_lem = by_four (λ ws. length (dated day ws) ≡ length ws) (λ a b c d r. refl)

  pub dated_other : (bs ws : List ℕ) → leading_words ≤ length ws → other_plan bs (dated day ws) ≡ other_plan bs ws
  unfolding other_plan dated leading_words
  dated_other bs = by_four (λ ws. other_plan bs (dated day ws) ≡ other_plan bs ws) (λ a b c d r. refl)

  pub dated_day : (ws : List ℕ) → leading_words ≤ length ws → joined (low_word day) (high_word day) ≡ day → last_day (dated day ws) ≡ day
  unfolding last_day dated leading_words
  dated_day = by_four (λ ws. joined (low_word day) (high_word day) ≡ day → last_day (dated day ws) ≡ day) (λ a b c d r e. e)

  pub dated_behind : (ws : List ℕ) → leading_words ≤ length ws → drop leading_words (dated day ws) ≡ drop leading_words ws
  unfolding dated leading_words
  dated_behind = by_four (λ ws. drop leading_words (dated day ws) ≡ drop leading_words ws) (λ a b c d r. refl)

  -- the words that a day is written by
  pub dated_steps : (ws : List ℕ) → leading_words ≤ length ws
      → set (set ws low_day_place (low_word day)) high_day_place (high_word day) ≡ dated day ws
  unfolding dated leading_words
  dated_steps = by_four (λ ws. set (set ws low_day_place (low_word day)) high_day_place (high_word day) ≡ dated day ws) (λ a b c d r. refl)

  -- a day and the tracks are written in either order
  module _ (terms : Terms) (n : ℕ) (l : Ledger) (ws : List ℕ) (h : word_count terms n ≤ length ws) where
    room : leading_words ≤ length ws
    unfolding word_count
    room = let a = place_after terms n in omega arith

    beyond_dated : drop (word_count terms n) (dated day ws) ≡ drop (word_count terms n) ws
    unfolding word_count
    beyond_dated =
        let e : leading_words + (track_place terms n - leading_words) ≡ track_place terms n = omega (arith, place_after terms n) in
        let f : (vs : List ℕ) → drop (track_place terms n) vs ≡ drop (track_place terms n - leading_words) (drop leading_words vs) =
        λ vs. sym (drop-drop (track_place terms n - leading_words) leading_words vs ∙ ap (λ (k : ℕ). drop k vs) e) in
        f (dated day ws) ∙ ap (drop (track_place terms n - leading_words)) (dated_behind ws room) ∙ sym (f ws)

    dated_front : (vs rest : List ℕ) → leading_words ≤ length vs → dated day (take leading_words vs ++ rest) ≡ take leading_words (dated day vs) ++ rest
    unfolding dated leading_words
    dated_front vs rest =
        by_four (λ vs. dated day (take leading_words vs ++ rest) ≡ take leading_words (dated day vs) ++ rest) (λ a b c d r. refl) vs

    pub dated_written : dated day (written terms n l ws) ≡ written terms n l (dated day ws)
    unfolding written
    dated_written =
        dated_front ws _ room
        ∙ ap (λ (v : List ℕ). take leading_words (dated day ws) ++ (ledger_words terms n l ++ v)) (sym beyond_dated)
