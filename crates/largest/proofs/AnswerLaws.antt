-- The answer as a whole: nothing beside a refusal; else every word is as the rules have it, for the paths shown. Assumes nothing.
use Rattle.std.proofs.Common.{◌≡◌, refl, sym, ap, ◌∙◌, true, false, cond, List, [], append-nil, inl, inr, ⊎_elim, ℕ, zero, suc, ◌<◌, ◌≤◌, eq-or-lt_of_le, arith, ltb, length, replicate, lt-ltb, le-ltb}
use Rattle.rules.specs.declared.Counts.{Counts}
use Rattle.rules.specs.Plan.{Plan, plan_of}
use Rattle.rules.specs.Acceptance.{turned_back, accepted, read_plan}
use Rattle.rules.specs.Call.{Answer, refusal, done}
use Rattle.rules.specs.Largest.{has_deviation, has_cycle, is_unbounded, read_bounded, largest, largest_answer, largest_of, joined, padded, Shows}
use Rattle.rules.proofs.Tests.{look}
use Rattle.rules.proofs.Acceptance.{accepts}
use Rattle.plan.proofs.PassLaws.{figures_same}
use Rattle.plan.proofs.FieldLaws.{track_count_lem, transition_count_lem}
use Rattle.plan_reader.proofs.Reader.{accepted_holds}
use Rattle.ledger.specs.Ladder.{Accepts}
use Rattle.largest.specs.Chosen.{track_path, shown_path}
use Rattle.largest.proofs.ChosenLaws.{chosen_attains}
use Rattle.largest.proofs.FitLaws.{paths_fit}
use Rattle.largest.proofs.ShowingLaws.{up_to, each, Showing}

-- How the plan is read for this call.
pub read_accepts : (bs : List ℕ) (c : Counts) → read_plan bs ≡ accepted c → Accepts bs c
read_accepts bs c e = record { read = e; holds = accepted_holds bs c e }

pub unread : (bs : List ℕ) (n : ℕ) → read_plan bs ≡ turned_back n → read_bounded bs ≡ turned_back n
unfolding read_bounded
unread bs n e = rw (e, read_bounded)

pub deviating : (bs : List ℕ) (c : Counts) → read_plan bs ≡ accepted c → has_deviation (plan_of bs c) ≡ true → read_bounded bs ≡ turned_back 29
unfolding read_bounded is_unbounded
deviating bs c e d = rw (e, read_bounded, d)

pub going_round : (bs : List ℕ) (c : Counts) → read_plan bs ≡ accepted c → has_deviation (plan_of bs c) ≡ false → has_cycle (plan_of bs c) ≡ true
    → read_bounded bs ≡ turned_back 29
unfolding read_bounded is_unbounded
going_round bs c e d h = rw (e, read_bounded, d, h)

bounded : (bs : List ℕ) (c : Counts) → read_plan bs ≡ accepted c → has_deviation (plan_of bs c) ≡ false → has_cycle (plan_of bs c) ≡ false
    → read_bounded bs ≡ accepted c
unfolding read_bounded is_unbounded
bounded bs c e d h = rw (e, read_bounded, d, h)

-- paths end to end
joined_nothing : (n : ℕ) (path : ℕ → List ℕ) → ((t : ℕ) → path t ≡ []) → joined n path ≡ []
unfolding joined
joined_nothing zero path h = refl
joined_nothing (suc n) path h = rw (joined_nothing n path h, h n)

joined_same : (n : ℕ) (f g : ℕ → List ℕ) → ((t : ℕ) → t < n → f t ≡ g t) → joined n f ≡ joined n g
unfolding joined
joined_same zero f g h = refl
joined_same (suc n) f g h = rw (joined_same n f g (λ t l. h t (omega arith)), h n (omega arith))

joined_rest : (n m : ℕ) (path : ℕ → List ℕ) → m ≤ n → ((t : ℕ) → m ≤ t → path t ≡ []) → joined n path ≡ joined m path
unfolding joined
joined_rest zero m path l h = let e : m ≡ 0 = omega arith in rw e
joined_rest (suc n) m path l h =
    ⊎_elim (λ (e : m ≡ suc n). rw e)
    (λ (k : m < suc n). rw (h n (omega arith)) (append-nil (joined n path) ∙ joined_rest n m path (omega arith) h)) (eq-or-lt_of_le l)

module _ (bs : List ℕ) (n : ℕ) (r : read_bounded bs ≡ turned_back n) where
  no_path : (t : ℕ) → shown_path bs t ≡ []
  unfolding shown_path
  no_path t = rw (r, shown_path)

  no_figure : (t : ℕ) → largest_of bs t ≡ 0
  unfolding largest_of
  no_figure t = rw (r, largest_of)

  -- a refusal
  pub shows_refused : {told : Answer} {figures lengths steps : List ℕ} → told ≡ refusal n → figures ≡ replicate 32 0 → lengths ≡ replicate 32 0
      → steps ≡ padded [] → Shows bs (shown_path bs) told figures lengths steps
  unfolding largest_answer
  shows_refused {told} {figures} {lengths} {steps} a f l s =
      record {
        answered = a ∙ rw (r, largest_answer);
        attained = λ c e. let z : turned_back n ≡ accepted c = sym r ∙ e in let y : ◌≡◌ {A = ℕ} 0 1 = cc in absurd (omega arith);
        pathless = λ t h. no_path t;
        figures_are = f ∙ each 32 0 (largest_of bs) (λ i. sym (no_figure i));
        lengths_are = l ∙ each 32 0 (λ t. length (shown_path bs t)) (λ i. sym (ap length (no_path i)));
        steps_are = s ∙ ap padded (sym (joined_nothing 32 (shown_path bs) no_path));
        fits = rw (joined_nothing 32 (shown_path bs) no_path) (omega arith);
      }

module _ (bs : List ℕ) (c : Counts) (acc : Accepts bs c) (d : has_deviation (plan_of bs c) ≡ false) (h : has_cycle (plan_of bs c) ≡ false) where
  abbrev p : Plan
  p = plan_of bs c

  read : read_bounded bs ≡ accepted c
  read = bounded bs c acc.read d h

  figure_of : (t : ℕ) → largest_of bs t ≡ up_to c.tracks (largest p) t
  unfolding largest_of up_to largest
  figure_of t =
      rw (read, largest_of, track_count_lem)
      (elim (look (ltb t c.tracks)) [ inl l ↦ rw l | inr l ↦ rw l ])

  path_of : (t : ℕ) → shown_path bs t ≡ cond (ltb t c.tracks) (track_path p t) []
  unfolding shown_path
  path_of t = rw (read, shown_path, track_count_lem)

  path_there : (t : ℕ) → t < c.tracks → shown_path bs t ≡ track_path p t
  path_there t l = path_of t ∙ rw (lt-ltb t c.tracks l)

  path_beyond : (t : ℕ) → c.tracks ≤ t → shown_path bs t ≡ []
  path_beyond t l = path_of t ∙ rw (le-ltb t c.tracks l)

  length-of_lem : (t : ℕ) → length (shown_path bs t) ≡ up_to c.tracks (λ i. length (track_path p i)) t
  unfolding up_to
  length-of_lem t = elim (look (ltb t c.tracks)) [ inl l ↦ rw (path_of t, l) | inr l ↦ rw (path_of t, l) ]

  paths_of : joined c.tracks (track_path p) ≡ joined 32 (shown_path bs)
  paths_of =
      joined_same c.tracks (track_path p) (shown_path bs) (λ i j. sym (path_there i j))
      ∙ sym (joined_rest 32 c.tracks (shown_path bs) acc.holds.tracks path_beyond)

  -- all tracks
  pub shows_all : {told : Answer} {figures lengths steps : List ℕ} {at t : ℕ} → told ≡ done [] → c.tracks ≤ t
      → Showing p c.tracks figures lengths steps at t → Shows bs (shown_path bs) told figures lengths steps
  unfolding largest_answer track_path
  shows_all {told} {figures} {lengths} {steps} {at} {t} a l w =
      let e : t ≡ c.tracks = omega (arith, w.few) in
      record {
        answered = a ∙ rw (read, largest_answer);
        attained = λ k q t i.
            let same : c ≡ k = accepted_same (sym read ∙ q) in
            let j : t < c.tracks = rw same i in
            rw (← same, path_there t j, figure_of t, up_there t j) (chosen_attains p (accepts bs c acc.read) h t (rw track_count_lem j));
        pathless = λ t g. path_beyond t (g c read);
        figures_are = w.figures_are ∙ rw e (figures_same 32 (up_to c.tracks (largest p)) (largest_of bs) (λ i j. sym (figure_of i)));
        lengths_are =
            w.lengths_are
            ∙ rw e (figures_same 32 (up_to c.tracks (λ i. length (track_path p i))) (λ i. length (shown_path bs i)) (λ i j. sym (length-of_lem i)));
        steps_are = w.steps_are ∙ rw e (ap padded paths_of);
        fits =
            rw (← paths_of)
            (omega (arith, paths_fit p (accepts bs c acc.read) h c.tracks (rw track_count_lem (omega arith)), transition_count_lem bs c, acc.holds.transitions));
      }
    where
      accepted_same : {k : Counts} → accepted c ≡ accepted k → c ≡ k
      accepted_same q = cc

      up_there : (t : ℕ) → t < c.tracks → up_to c.tracks (largest p) t ≡ largest p t
      up_there t j = unfold up_to in rw (lt-ltb t c.tracks j)
