-- Steps of many tracks. Where none is above another they are a run in track order, since each leaves the others as they were; where one is,
-- they are a run from the highest track down, the inner ones first. And when what they end in is the view of a ledger. Assumes nothing.
use mathlib.Core.Path.{◌≡◌, sym, ap, ◌∙◌, subst}
use mathlib.Core.Logic.{inl, inr}
use mathlib.Core.Bool.{Bool, true, false, cond, ◌&&◌}
use mathlib.Core.Option.{Option, none, some}
use Prim.Native.Nat.{ℕ, suc, ◌<◌, ◌≤◌}
use native.Mathlib.Omega.{arith}
use lib.Dec.{eqb, leb, ltb}
use borrow.Author.Tests.{eqb-true, eqb-false, leb-true, leb-false, le-leb, ltb-true, ltb-false, lt-ltb}
use Rattle.rules.specs.Plan.{Plan, track_count, is_above}
use Rattle.rules.specs.Ledger.{Configuration, Ledger, is_forward}
use Rattle.rules.specs.Scope.{has_open_scope}
use Rattle.rules.proofs.Tests.{look, look_option, refuted}
use Rattle.rules.proofs.Acceptance.{Accepted}
use Rattle.rules.proofs.Forest.{above_lower, reaches_above}
use Rattle.rules.proofs.Abandoning.{hosts_higher}
use Rattle.theory.proofs.Nesting.{Awake, Nested}
use Rattle.automaton.specs.Listing.{listed, listed_down}
use Rattle.automaton.specs.Configuration.{NConf, Vect}
use Rattle.automaton.specs.Semantics.{FailReading, Act, Step, VStep, Run}
use Rattle.automaton.specs.View.{facing, is_within, shown, view_of, is_on_top, view}
use Rattle.automaton.proofs.Listings.{listed_same, run_listed, run_down, run_same}
use Rattle.automaton.proofs.Frames.{down, frame, frames, instead_none, instead_some, within_parts, top_parts, shown_same, hosted_above, view_frames, view_law, frame_law, frames_same, replaced, shown_alike}

module _ (p : Plan) (ρ : FailReading) (ok : Accepted p) (l : Ledger) where
  -- where nothing at or below a track is replaced, it is as in the view
  untouched : (o : ℕ → Option NConf) (t : ℕ) → t < track_count p → o t ≡ none → ((u : ℕ) → is_above p t u ≡ true → Awake l u → o u ≡ none)
      → frame p ρ l o t ≡ view_of p ρ l t
  untouched o =
      down (track_count p) (λ t. o t ≡ none → ((u : ℕ) → is_above p t u ≡ true → Awake l u → o u ≡ none) → frame p ρ l o t ≡ view_of p ρ l t)
      (λ t b ih e below.
      frame_law p ρ l ok o t b ∙ instead_none (o t) (shown p ρ l t (frame p ρ l o)) e
      ∙ shown_same p ρ l t (frame p ρ l o) (view_of p ρ l)
      (λ u c i a.
      let x = hosted_above p ok t u i in
      ih u c (hosts_higher p ok t u i) (below u x a) (λ v y w. below v (reaches_above p ok t u v (inr x) y) w))
      ∙ sym (view_law p ρ l ok t b))

  -- a track shown on another ledger as on this
  pub record Alike (m : Ledger) (t : ℕ) : Type 0 where
    pub within : (u : ℕ) → u < track_count p → is_within p l t u ≡ is_within p m t u
    pub state : (l t).state ≡ (m t).state
    pub held : (l t).held ≡ (m t).held
    pub way : has_open_scope p l t ≡ false → is_forward (l t).mode ≡ is_forward (m t).mode
    pub host : has_open_scope p l t ≡ true → facing ρ (l t).mode ≡ facing ρ (m t).mode

  -- where nothing of it has changed
  pub unchanged : (m : Ledger) (t : ℕ) → ((u : ℕ) → u < track_count p → is_within p l t u ≡ is_within p m t u) → m t ≡ l t → Alike m t
  unchanged m t w e =
      let z = sym e in
      record {
        within = w;
        state = ap (λ (c : Configuration). c.state) z;
        held = ap (λ (c : Configuration). c.held) z;
        way = λ f. ap (λ (c : Configuration). is_forward c.mode) z;
        host = λ f. ap (λ (c : Configuration). facing ρ c.mode) z;
      }

  -- where what is replaced is so on another ledger, and the rest is alike, all is as on that ledger
  module _ (o : ℕ → Option NConf) (m : Ledger) (top : (t : ℕ) → t < track_count p → is_on_top p l t ≡ is_on_top p m t)
      (new : (t : ℕ) (d : NConf) → t < track_count p → Awake l t → Awake m t → o t ≡ some d → d ≡ view_of p ρ m t)
      (old : (t : ℕ) → t < track_count p → Awake l t → Awake m t → o t ≡ none → Alike m t) where
    track_view : (t : ℕ) → t < track_count p → Awake l t → Awake m t → frame p ρ l o t ≡ view_of p ρ m t
    track_view =
        down (track_count p) (λ t. Awake l t → Awake m t → frame p ρ l o t ≡ view_of p ρ m t)
        (λ t b ih a w.
        frame_law p ρ l ok o t b
        ∙ elim (look_option (o t)) [
          | inr q ↦ instead_some (o t) (shown p ρ l t (frame p ρ l o)) q.0 q.1 ∙ new t q.0 b a w q.1
          | inl q ↦
              let k = old t b a w q in
              instead_none (o t) (shown p ρ l t (frame p ρ l o)) q
              ∙ shown_alike p l m t k.within ρ (frame p ρ l o) (view_of p ρ m) k.state k.held k.way k.host
              (λ u c y.
              let (i, v) = within_parts p l t u y in
              ih u c (hosts_higher p ok t u i) v (within_parts p m t u (sym (k.within u c) ∙ y)).1)
              ∙ sym (view_law p ρ m ok t b)
        ])

    pub frames_view : frames p ρ l o ≡ view p ρ m
    unfolding frames view
    frames_view =
        ap Vect
        (listed_same (track_count p) (is_on_top p l) (is_on_top p m) (frame p ρ l o) (view_of p ρ m) top
        (λ t b y. track_view t b (top_parts p l t y).1 (top_parts p m t (sym (top t b) ∙ y)).1))

  module _ (n : Nested p l) (f : ℕ → Bool) (act : ℕ → Act) (c : ℕ → NConf) (awake : (t : ℕ) → f t ≡ true → Awake l t)
      (apart : (t u : ℕ) → f t ≡ true → f u ≡ true → is_above p t u ≡ true → ⊥)
      (steps : (t : ℕ) → f t ≡ true → Step p ρ (view_of p ρ l t) (act t) (c t)) where
    -- those below k have stepped
    stepped : ℕ → ℕ → Option NConf
    stepped k t = cond (ltb t k && f t) (some (c t)) none

    -- all have
    unfoldable pub all_stepped : ℕ → Option NConf
    all_stepped t = cond (f t) (some (c t)) none

    pub stepped_all : (t : ℕ) → f t ≡ true → all_stepped t ≡ some (c t)
    unfolding all_stepped
    stepped_all t h = rw h

    pub stepped_not : (t : ℕ) → f t ≡ false → all_stepped t ≡ none
    unfolding all_stepped
    stepped_not t h = rw h

    stepped_some : (k t : ℕ) → t < k → f t ≡ true → stepped k t ≡ some (c t)
    unfolding stepped
    stepped_some k t b h = rw (lt-ltb t k b, h)

    stepped_none : (k t : ℕ) → f t ≡ false → stepped k t ≡ none
    unfolding stepped
    stepped_none k t h = elim (look (ltb t k)) [ inl e ↦ rw (e, h) | inr e ↦ rw e ]

    stepped_high : (k t : ℕ) → k ≤ t → stepped k t ≡ none
    unfolding stepped
    stepped_high k t b = elim (look (ltb t k)) [ inl e ↦ let d = ltb-true t k e in absurd (omega arith) | inr e ↦ rw e ]

    stepped_same : (k t : ℕ) → (t ≡ k → ⊥) → stepped k t ≡ stepped (suc k) t
    stepped_same k t d =
        elim (look (f t)) [
          | inr h ↦ stepped_none k t h ∙ sym (stepped_none (suc k) t h)
          | inl h ↦
              elim (look (ltb t k)) [
                | inl e ↦ let b = ltb-true t k e in stepped_some k t b h ∙ sym (stepped_some (suc k) t (omega arith) h)
                | inr e ↦ let b = ltb-false t k e in stepped_high k t b ∙ sym (stepped_high (suc k) t (omega arith))
              ]
        ]

    one_step : (k : ℕ) → k < track_count p → f k ≡ true → VStep p ρ (frames p ρ l (stepped k)) (act k) (frames p ρ l (stepped (suc k)))
    one_step k b h =
        let a = awake k h in
        let beside : (u : ℕ) → f u ≡ true → is_above p k u ≡ true → ⊥ = λ u g x. apart k u h g x in
        let one : frame p ρ l (stepped k) k ≡ view_of p ρ l k =
        untouched (stepped k) k b (stepped_high k k (omega arith))
        (λ u x w. stepped_none k u (refuted (f u) (λ g. beside u g x))) in
        let two : frame p ρ l (stepped (suc k)) k ≡ c k =
        frame_law p ρ l ok (stepped (suc k)) k b
        ∙ instead_some (stepped (suc k) k) (shown p ρ l k (frame p ρ l (stepped (suc k)))) (c k) (stepped_some (suc k) k (omega arith) h) in
        replaced p ρ l ok n (stepped k) (stepped (suc k)) k (λ t d. stepped_same k t d)
        (λ t x. stepped_none k t (refuted (f t) (λ g. apart t k g h x))) (act k) a
        (subst (λ z. Step p ρ z (act k) (frame p ρ l (stepped (suc k)) k)) (sym one) (subst (λ z. Step p ρ (view_of p ρ l k) (act k) z) (sym two) (steps k h)))

    no_step : (k : ℕ) → f k ≡ false → frames p ρ l (stepped k) ≡ frames p ρ l (stepped (suc k))
    no_step k h =
        frames_same p ρ l ok (stepped k) (stepped (suc k))
        (λ t.
        elim (look (eqb t k)) [
          | inl e ↦ let z : f t ≡ false = ap f (eqb-true t k e) ∙ h in stepped_none k t z ∙ sym (stepped_none (suc k) t z)
          | inr e ↦ stepped_same k t (eqb-false t k e)
        ])

    at_first : frames p ρ l (stepped 0) ≡ view p ρ l
    at_first = frames_same p ρ l ok (stepped 0) (λ t. none) (λ t. stepped_high 0 t (omega arith)) ∙ sym (view_frames p ρ l)

    at_last : frames p ρ l (stepped (track_count p)) ≡ frames p ρ l all_stepped
    at_last =
        frames_same p ρ l ok (stepped (track_count p)) all_stepped
        (λ t.
        elim (look (f t)) [
          | inl h ↦ stepped_some (track_count p) t (n.below t (awake t h)) h ∙ sym (stepped_all t h)
          | inr h ↦ stepped_none (track_count p) t h ∙ sym (stepped_not t h)
        ])

    -- one step for each of them, in track order
    pub steps_run : Run p ρ (view p ρ l) (listed (track_count p) f act) (frames p ρ l all_stepped)
    steps_run =
        subst (λ z. Run p ρ z (listed (track_count p) f act) (frames p ρ l all_stepped)) at_first
        (run_same p ρ (run_listed p ρ (track_count p) f act (λ k. frames p ρ l (stepped k)) one_step (λ k b h. no_step k h)) at_last)

  -- From the highest down: a track steps when those nested in it have stepped.
  module _ (n : Nested p l) (f : ℕ → Bool) (act : ℕ → Act) (c : ℕ → NConf) (awake : (t : ℕ) → f t ≡ true → Awake l t) where
    -- those from k on have stepped
    unfoldable pub stepped_from : ℕ → ℕ → Option NConf
    stepped_from k t = cond (leb k t && f t) (some (c t)) none

    pub from_some : (k t : ℕ) → k ≤ t → f t ≡ true → stepped_from k t ≡ some (c t)
    unfolding stepped_from
    from_some k t b h = rw (le-leb k t b, h)

    pub from_none : (k t : ℕ) → f t ≡ false → stepped_from k t ≡ none
    unfolding stepped_from
    from_none k t h = elim (look (leb k t)) [ inl e ↦ rw (e, h) | inr e ↦ rw e ]

    pub from_low : (k t : ℕ) → t < k → stepped_from k t ≡ none
    unfolding stepped_from
    from_low k t b = elim (look (leb k t)) [ inl e ↦ let d = leb-true k t e in absurd (omega arith) | inr e ↦ rw e ]

    from_same : (k t : ℕ) → (t ≡ k → ⊥) → stepped_from (suc k) t ≡ stepped_from k t
    from_same k t d =
        elim (look (f t)) [
          | inr h ↦ from_none (suc k) t h ∙ sym (from_none k t h)
          | inl h ↦
              elim (look (leb k t)) [
                | inl e ↦ let b = leb-true k t e in from_some (suc k) t (omega arith) h ∙ sym (from_some k t b h)
                | inr e ↦ let b = leb-false k t e in from_low (suc k) t (omega arith) ∙ sym (from_low k t b)
              ]
        ]

    module _ (steps : (k : ℕ) → k < track_count p → f k ≡ true → Step p ρ (frame p ρ l (stepped_from (suc k)) k) (act k) (c k)) where
      down_step : (k : ℕ) → k < track_count p → f k ≡ true → VStep p ρ (frames p ρ l (stepped_from (suc k))) (act k) (frames p ρ l (stepped_from k))
      down_step k b h =
          let two : frame p ρ l (stepped_from k) k ≡ c k =
          frame_law p ρ l ok (stepped_from k) k b
          ∙ instead_some (stepped_from k k) (shown p ρ l k (frame p ρ l (stepped_from k))) (c k) (from_some k k (omega arith) h) in
          replaced p ρ l ok n (stepped_from (suc k)) (stepped_from k) k (λ t d. from_same k t d)
          (λ t z. let d = above_lower p ok t k z in from_low (suc k) t (omega arith)) (act k) (awake k h)
          (subst (λ z. Step p ρ (frame p ρ l (stepped_from (suc k)) k) (act k) z) (sym two) (steps k b h))

      down_none : (k : ℕ) → f k ≡ false → frames p ρ l (stepped_from (suc k)) ≡ frames p ρ l (stepped_from k)
      down_none k h =
          frames_same p ρ l ok (stepped_from (suc k)) (stepped_from k)
          (λ t.
          elim (look (eqb t k)) [
            | inl e ↦ let z : f t ≡ false = ap f (eqb-true t k e) ∙ h in from_none (suc k) t z ∙ sym (from_none k t z)
            | inr e ↦ from_same k t (eqb-false t k e)
          ])

      none_yet : frames p ρ l (stepped_from (track_count p)) ≡ view p ρ l
      none_yet =
          frames_same p ρ l ok (stepped_from (track_count p)) (λ t. none)
          (λ t.
          elim (look (f t)) [
            | inl h ↦ from_low (track_count p) t (n.below t (awake t h))
            | inr h ↦ from_none (track_count p) t h
          ])
          ∙ sym (view_frames p ρ l)

      -- one step for each of them, from the highest down
      pub falling_run : Run p ρ (view p ρ l) (listed_down (track_count p) f act) (frames p ρ l (stepped_from 0))
      falling_run =
          subst (λ z. Run p ρ z (listed_down (track_count p) f act) (frames p ρ l (stepped_from 0))) none_yet
          (run_down p ρ (track_count p) f act (λ k. frames p ρ l (stepped_from k)) down_step (λ k b h. down_none k h))
