-- What is shown: a path is put step by step behind those before it, and after all tracks every word is as the rules have it. Assumes nothing.
use Rattle.std.proofs.Common.{◌≡◌, refl, sym, ap, ◌∙◌, true, false, cond, List, [], ◌∷◌, ◌++◌, append-nil, append_assoc, inl, inr, ℕ, suc, ◌+◌, ◌-◌, ◌<◌, ◌≤◌, add-one, arith, ltb, length, get_or, set, replicate, length-append, ext_get_or, ltb-true, ltb-false, lt-ltb, le-ltb}
use Rattle.std.proofs.Math.Option.{none, some}
use Rattle.std.proofs.Math.ListN.{length-replicate, get_or-replicate}
use Rattle.std.proofs.Math.Seq.{set-append_seam, append_snoc}
use Rattle.rules.specs.declared.Counts.{Counts}
use Rattle.rules.specs.Fold.{tabulate}
use Rattle.rules.specs.Plan.{Plan, plan_of, state_count, transition, first_state}
use Rattle.rules.specs.Largest.{no_transition, padded, joined, has_deviation, largest}
use Rattle.rules.proofs.Tests.{look, look_option}
use Rattle.rules.proofs.Folds.{length-tabulate_lem, get_d_tabulate}
use Rattle.rules.proofs.Acceptance.{Accepted, accepts}
use Rattle.rules.proofs.Paths.{leaves_states}
use Rattle.rules.proofs.Figures.{first_state_lem, largest_is}
use Rattle.plan.proofs.PassLaws.{figures_set}
use Rattle.plan.proofs.FieldLaws.{track_count_lem, state_count_lem, transition_count_lem}
use Rattle.ledger.specs.Ladder.{Accepts}
use Rattle.lookup.specs.Figures.{Figures}
use Rattle.largest.specs.Chosen.{most_from, step_from, step_word, chosen, track_path}
use Rattle.largest.specs.Table.{Stepped, Whole}
use Rattle.largest.proofs.ChosenLaws.{step_some, word_some, word_none, chosen_none, chosen_some}
use Rattle.largest.proofs.FitLaws.{paths_fit}

filled : (k m : ℕ) → k ≡ suc m → replicate k no_transition ≡ no_transition ∷ replicate m no_transition
filled k m e = rw e

pub padded_put : (xs : List ℕ) (x : ℕ) → length xs < 256 → set (padded xs) (length xs) x ≡ padded (xs ++ (x ∷ []))
unfolding padded
padded_put xs x l =
    let k : ℕ = 256 - suc (length xs) in
    let a : 256 - length xs ≡ suc k = omega arith in
    let n = length-append xs (x ∷ []) in
    let b : 256 - length (xs ++ (x ∷ [])) ≡ k = omega arith in
    ap (λ (r : List ℕ). set (xs ++ r) (length xs) x) (filled (256 - length xs) k a)
    ∙ set-append_seam xs no_transition (replicate k no_transition) x
    ∙ sym (ap (λ (i : ℕ). (xs ++ (x ∷ [])) ++ replicate i no_transition) b ∙ append_snoc xs x (replicate k no_transition))

-- Putting the path from a state behind the steps before it: what is put and what is left make up the path.
pub record Putting (p : Plan) (states from at : ℕ) (steps₀ steps : List ℕ) (s end : ℕ) : Type 0 where
  pub state : s < states
  pub done : List ℕ
  pub whole : chosen p from ≡ done ++ chosen p s
  pub count : end ≡ at + length done
  pub put : (xs : List ℕ) → steps₀ ≡ padded xs → at ≡ length xs → steps ≡ padded (xs ++ done)

module _ (bs : List ℕ) (c : Counts) (acc : Accepts bs c) where
  abbrev p : Plan
  p = plan_of bs c

  ok : Accepted p
  ok = accepts bs c acc.read

  -- a step is a transition, so its number is not the word for none
  word_told : (s : ℕ) → (step_word p s ≡ 65535 → ⊥) → step_from p s ≡ some (step_word p s)
  word_told s d =
      elim (look_option (step_from p s)) [
        | inl e ↦ absurd (d (word_none p s e))
        | inr (x, e) ↦ rw (word_some p s x e) e
      ]

  word_ends : (s : ℕ) → step_word p s ≡ 65535 → step_from p s ≡ none
  word_ends s w =
      elim (look_option (step_from p s)) [
        | inl e ↦ e
        | inr (x, e) ↦
            let l = (step_some p s x e).there in
            let i = transition_count_lem bs c in
            let q = word_some p s x e in
            absurd (omega (arith, acc.holds.transitions))
      ]

  -- the step that the path takes from a state
  pub record Going (s x : ℕ) : Type 0 where
    pub there : x < c.transitions
    pub to : (transition p x).destination < c.states
    pub path : chosen p s ≡ x ∷ chosen p (transition p x).destination

  goes : (step : List ℕ) (s x : ℕ) → Stepped p step → s < c.states → x ≡ get_or step s 0 → (x ≡ 65535 → ⊥) → Going s x
  goes step s x h l e d =
      let low : s < state_count p = rw state_count_lem l in
      let w : step_word p s ≡ x = sym (e ∙ h.word s low) in
      let f : step_from p s ≡ some x = rw w at (word_told s (λ q. d (sym w ∙ q))) in
      let k = step_some p s x f in
      record {
        there = rw transition_count_lem at k.there;
        to = rw state_count_lem at (leaves_states p ok s x k.left).1;
        path = chosen_some p s x (h.ends s low) f;
      }

  stops : (step : List ℕ) (s x : ℕ) → Stepped p step → s < c.states → x ≡ get_or step s 0 → x ≡ 65535 → chosen p s ≡ []
  stops step s x h l e z = chosen_none p s (word_ends s (sym (h.word s (rw state_count_lem l)) ∙ sym e ∙ z))

  module _ (step : List ℕ) (h : Stepped p step) (from at : ℕ) (room : at + length (chosen p from) ≤ 256) (steps₀ steps : List ℕ) (s end x : ℕ)
      (w : Putting p c.states from at steps₀ steps s end) (e : x ≡ get_or step s 0) where
    -- the path goes on
    pub record Puts : Type 0 where
      pub there : x < c.transitions
      pub room_left : end < 256
      pub on : Putting p c.states from at steps₀ (set steps end x) (transition p x).destination (end + 1)

    pub put_on : (x ≡ 65535 → ⊥) → Puts
    put_on d =
        let g = goes step s x h w.state e d in
        let many = ap length w.whole ∙ length-append w.done (chosen p s) in
        let more : length (chosen p s) ≡ suc (length (chosen p (transition p x).destination)) = ap length g.path in
        let k = w.count in
        record {
          there = g.there;
          room_left = omega arith;
          on =
              record {
                state = g.to;
                done = w.done ++ (x ∷ []);
                whole =
                    w.whole ∙ ap (λ (l : List ℕ). w.done ++ l) g.path
                    ∙ sym (append_snoc w.done x (chosen p (transition p x).destination));
                count = let n = length-append w.done (x ∷ []) in omega arith;
                put = λ xs a b.
                    let n = length-append xs w.done in
                    let i : end ≡ length (xs ++ w.done) = omega arith in
                    let j : length (xs ++ w.done) < 256 = omega arith in
                    ap (λ (l : List ℕ). set l end x) (w.put xs a b) ∙ ap (λ (m : ℕ). set (padded (xs ++ w.done)) m x) i
                    ∙ padded_put (xs ++ w.done) x j
                    ∙ ap padded (append_assoc xs w.done (x ∷ []));
              };
        }

    -- it ends
    pub put_end : x ≡ 65535
        → (end ≡ at + length (chosen p from)) × ((xs : List ℕ) → steps₀ ≡ padded xs → at ≡ length xs → steps ≡ padded (xs ++ chosen p from))
    put_end z =
        let q : chosen p from ≡ w.done = w.whole ∙ ap (λ (l : List ℕ). w.done ++ l) (stops step s x h w.state e z) ∙ append-nil w.done in
        rw q (w.count, w.put)

pub put_start : (p : Plan) (states from at : ℕ) (steps : List ℕ) → from < states → Putting p states from at steps steps from at
put_start p states from at steps l =
    record { state = l; done = []; whole = refl; count = omega arith; put = λ xs a b. a ∙ ap padded (sym (append-nil xs)) }

-- Track after track.
unfoldable pub up_to : ℕ → (ℕ → ℕ) → ℕ → ℕ
up_to t f i = cond (ltb i t) (f i) 0

up_new : (t : ℕ) (f : ℕ → ℕ) → f t ≡ up_to (t + 1) f t
unfolding up_to
up_new t f = rw (lt-ltb t (t + 1) (omega arith))

up_same : (t i : ℕ) (f : ℕ → ℕ) → (i ≡ t → ⊥) → up_to t f i ≡ up_to (t + 1) f i
unfolding up_to
up_same t i f d =
    elim (look (ltb i t)) [
      | inl l ↦ let m = ltb-true i t l in rw (l, lt-ltb i (t + 1) (omega arith))
      | inr l ↦ let m = ltb-false i t l in rw (l, le-ltb i (t + 1) (omega arith))
    ]

-- a table of one value
pub each : (n v : ℕ) (f : ℕ → ℕ) → ((i : ℕ) → v ≡ f i) → replicate n v ≡ tabulate n f
each n v f h =
    ext_get_or v (replicate n v) (tabulate n f) (length-replicate {A = ℕ} n v ∙ sym (length-tabulate_lem n f))
    (λ i l.
    let k : i < n = rw (length-replicate {A = ℕ} n v) at l in
    get_or-replicate {A = ℕ} n i v v k ∙ h i ∙ sym (get_d_tabulate n i f v k))

up_none : (f : ℕ → ℕ) (i : ℕ) → 0 ≡ up_to 0 f i
unfolding up_to
up_none f i = rw (le-ltb i 0 (omega arith))

pub record Showing (p : Plan) (tracks : ℕ) (figures lengths steps : List ℕ) (at t : ℕ) : Type 0 where
  pub few : t ≤ tracks
  pub figures_are : figures ≡ tabulate 32 (up_to t (largest p))
  pub lengths_are : lengths ≡ tabulate 32 (up_to t (λ i. length (track_path p i)))
  pub steps_are : steps ≡ padded (joined t (track_path p))
  pub at_is : at ≡ length (joined t (track_path p))

pub show_start : (p : Plan) (tracks : ℕ) (steps : List ℕ) → steps ≡ padded [] → Showing p tracks (replicate 32 0) (replicate 32 0) steps 0 0
unfolding joined
show_start p tracks steps e =
    record {
      few = omega arith;
      figures_are = each 32 0 (up_to 0 (largest p)) (up_none (largest p));
      lengths_are = each 32 0 (up_to 0 (λ i. length (track_path p i))) (up_none (λ i. length (track_path p i)));
      steps_are = e;
      at_is = refl;
    }

joined_more : (t : ℕ) (path : ℕ → List ℕ) → joined (t + 1) path ≡ joined t path ++ path t
unfolding joined
joined_more t path = rw (add-one t)

module _ (bs : List ℕ) (c : Counts) (acc : Accepts bs c) (straight : has_deviation (plan_of bs c) ≡ false) (most step : List ℕ)
    (whole : Whole (plan_of bs c) most step true) where
  abbrev q : Plan
  q = plan_of bs c

  good : Accepted q
  good = accepts bs c acc.read

  pub stepped : Stepped q step
  stepped = record { ends = λ s l. (whole.known refl s l).ends; word = λ s l. (whole.known refl s l).step_is }

  -- the first state of a track, its figure and its path
  module _ (firsts : List ℕ) (f : Figures 0 firsts c.tracks (first_state q)) (t s : ℕ) (l : t < c.tracks) (e : s ≡ get_or firsts t 0) where
    is_first : s ≡ first_state q t
    is_first = e ∙ f.at t l

    pub first_low : s < c.states
    first_low = rw is_first (rw state_count_lem at (first_state_lem q good t (rw track_count_lem l)))

    figure_is : get_or most s 0 ≡ largest q t
    unfolding most_from
    figure_is = (whole.known refl s (rw state_count_lem first_low)).entries_are ∙ ap (most_from q) is_first ∙ sym (largest_is q good t (rw track_count_lem l))

    path_is : chosen q s ≡ track_path q t
    unfolding track_path
    path_is = ap (chosen q) is_first

    module _ (figures lengths steps : List ℕ) (at : ℕ) (w : Showing q c.tracks figures lengths steps at t) where
      next_length : length (joined (t + 1) (track_path q)) ≡ at + length (chosen q s)
      next_length =
          let k = w.at_is in
          let n = ap length (joined_more t (track_path q)) ∙ length-append (joined t (track_path q)) (track_path q t) in
          let m = ap length path_is in
          omega arith

      -- it fits
      pub show_room : at + length (chosen q s) ≤ 256
      show_room =
          let i = track_count_lem bs c in
          let j = transition_count_lem bs c in
          omega (arith, paths_fit q good (whole.straight refl) (t + 1) (omega arith), acc.holds.transitions, next_length)

      pub show_more : (steps' : List ℕ) (end : ℕ) → end ≡ at + length (chosen q s)
          → ((xs : List ℕ) → steps ≡ padded xs → at ≡ length xs → steps' ≡ padded (xs ++ chosen q s))
          → Showing q c.tracks (set figures t (get_or most s 0)) (set lengths t (end - at)) steps' end (t + 1)
      show_more steps' end z put =
          let k : t < 32 = omega (arith, acc.holds.tracks) in
          record {
            few = omega arith;
            figures_are =
                ap (λ (l : List ℕ). set l t (get_or most s 0)) w.figures_are
                ∙ figures_set 32 (up_to t (largest q)) (up_to (t + 1) (largest q)) t (get_or most s 0) k (figure_is ∙ up_new t (largest q))
                (λ i j d. up_same t i (largest q) d);
            lengths_are =
                ap (λ (l : List ℕ). set l t (end - at)) w.lengths_are
                ∙ figures_set 32 (up_to t length_of) (up_to (t + 1) length_of) t (end - at) k
                (let m = ap length path_is in let n : end - at ≡ length_of t = omega arith in n ∙ up_new t length_of) (λ i j d. up_same t i length_of d);
            steps_are =
                put (joined t (track_path q)) w.steps_are w.at_is
                ∙ ap padded (ap (λ (l : List ℕ). joined t (track_path q) ++ l) path_is ∙ sym (joined_more t (track_path q)));
            at_is = z ∙ sym next_length;
          }
        where
          length_of : ℕ → ℕ
          length_of = λ i. length (track_path q i)
