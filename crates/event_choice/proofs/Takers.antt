-- Who takes a transition: a forward track is in a state of its own, so none but the transition's own track; and since no two transitions share
-- source and event, the one found last is the first. Assumes nothing.
use Rattle.std.proofs.Common.{◌≡◌, refl, sym, ap, ◌∙◌, subst, inl, inr, Bool, true, false, cond, not, ◌&&◌, List, ℕ, ◌+◌, ◌<◌, arith, eqb, ltb, eq-eqb, eqb-true}
use Rattle.std.proofs.Math.Option.{Option, none, some}
use borrow.Author.Tests.{not-true}
use Rattle.rules.specs.declared.Counts.{Counts}
use Rattle.rules.specs.declared.Track.{Track}
use Rattle.rules.specs.declared.Terms.{Terms}
use Rattle.rules.specs.Fold.{first_below}
use Rattle.rules.specs.Plan.{Plan, plan_of, state_count, no_state, owner, transition, mover, is_state_of, transition_for}
use Rattle.rules.specs.Ledger.{Ledger, is_forward}
use Rattle.rules.specs.Scope.{has_open_scope}
use Rattle.rules.proofs.Modes.{forward_awake}
use Rattle.rules.proofs.Tests.{look, look_option, clash, refuted, and_holds, same_test}
use Rattle.rules.proofs.Folds.{first_found, first_more_none, first_more_here, first_stays}
use Rattle.plan.proofs.FieldLaws.{track_count_lem, transition_count_lem}
use Rattle.ledger.specs.Ladder.{Going, ledger_of}
use Rattle.ledger.specs.Words.{track_of}
use Rattle.ledger.proofs.ReadTracks.{mode_as, state_as}
use Rattle.lookup.specs.Figures.{Only, Numbers}
use Rattle.lookup.proofs.Facts.{plan_facts, live_of_going}
use Rattle.lookup.proofs.FiguresLaws.{only_none}
use Rattle.event_choice.specs.Next.{is_taken, any_day_move}
use Rattle.event_choice.proofs.Visits.{mover_low}

pub is_owner : (p : Plan) (t s : ℕ) → is_state_of p t s ≡ true → owner p s ≡ t
unfolding is_state_of
is_owner p t s h = eqb-true (owner p s) t (and_holds (ltb s (state_count p)) (eqb (owner p s) t) h).1

-- what the pass over the transitions has found among those below n
abbrev answers : Plan → Ledger → ℕ → ℕ → ℕ → Bool
answers p l event t x = eqb (transition p x).source (l t).state && eqb (transition p x).event event

unfoldable pub found_among : Plan → Ledger → ℕ → ℕ → ℕ → Option ℕ
found_among p l event n t = cond (is_forward (l t).mode && not (has_open_scope p l t)) (first_below n (answers p l event t)) none

pub found_none : (p : Plan) (l : Ledger) (event t : ℕ) → none ≡ found_among p l event 0 t
unfolding found_among first_below
found_none p l event t = go (is_forward (l t).mode && not (has_open_scope p l t))
  where
    go : (b : Bool) → ◌≡◌ {A = Option ℕ} none (cond b none none)
    go true = refl
    go false = refl

module _ (terms : Terms) (bs : List ℕ) (c : Counts) (ws : List ℕ) (g : Going terms bs c ws) (event : ℕ) where
  abbrev p : Plan
  p = plan_of bs c

  abbrev l : Ledger
  l = ledger_of terms c ws

  module _ (x : ℕ) where
    parts : (t : ℕ) → is_taken p l event x t ≡ true
        → ((is_forward (l t).mode ≡ true) × (not (has_open_scope p l t) ≡ true)) × (((transition p x).source ≡ (l t).state) × ((transition p x).event ≡ event))
    unfolding is_taken
    parts t h =
        let (q, r) = and_holds (is_forward (l t).mode && not (has_open_scope p l t)) _ h in
        let (s, e) = and_holds (eqb (transition p x).source (l t).state) (eqb (transition p x).event event) r in
        (and_holds (is_forward (l t).mode) (not (has_open_scope p l t)) q, (eqb-true _ _ s, eqb-true _ _ e))

    taken_there : (t : ℕ) → t < c.tracks → is_taken p l event x t ≡ true → t ≡ mover p x
    unfolding mover
    taken_there t b h =
        let (q, r) = parts t h in
        sym (is_owner p t (l t).state ((live_of_going terms bs c ws g).own t (rw (track_count_lem bs c) b) (forward_awake (l t).mode q.0))) ∙ ap (owner p) (sym r.0)

    -- for another event none takes it
    pub other_event : {e : ℕ} → e ≡ (transition p x).event → (e ≡ event → ⊥) → Only c.tracks (is_taken p l event x) no_state
    other_event q n = only_none c.tracks g.checked.lent.room.few _ (λ t b. refuted _ (λ h. n (q ∙ (parts t h).1.1)))

    -- its own track does or does not
    module _ {e s t : ℕ} (ev : e ≡ (transition p x).event) (same : e ≡ event) (src : s ≡ (transition p x).source) (own : t ≡ owner p s) where
      here : t ≡ mover p x
      unfolding mover
      here = own ∙ ap (owner p) src

      none_takes : is_taken p l event x t ≡ false → Only c.tracks (is_taken p l event x) no_state
      none_takes f =
          only_none c.tracks g.checked.lent.room.few _
          (λ u b. refuted _ (λ h. clash (subst (λ z. is_taken p l event x z ≡ true) (taken_there u b h ∙ sym here) h) f))

      pub open_takes_not : has_open_scope p l t ≡ true → Only c.tracks (is_taken p l event x) no_state
      open_takes_not o = none_takes (refuted _ (λ h. clash o (not-true _ (parts t h).0.1)))

      module _ {k : Track} (read : k ≡ track_of (l t)) where
        pub other_source : (s ≡ k.state → ⊥) → Only c.tracks (is_taken p l event x) no_state
        other_source n = none_takes (refuted _ (λ h. n (src ∙ (parts t h).1.0 ∙ sym (state_as _ read))))

        module _ {f : Bool} (ahead : f ≡ is_forward k.mode) where
          forward_is : is_forward (l t).mode ≡ f
          forward_is = ap is_forward (sym (mode_as _ read)) ∙ sym ahead

          pub not_forward : f ≡ false → Only c.tracks (is_taken p l event x) no_state
          not_forward n = none_takes (refuted _ (λ h. clash (sym forward_is ∙ (parts t h).0.0) n))

          pub takes : f ≡ true → has_open_scope p l t ≡ false → s ≡ k.state → x < c.transitions → Only c.tracks (is_taken p l event x) t
          takes y o q b =
              record {
                low = λ z. mover_low bs c g.checked.lent.accepts b src own;
                at = λ u d.
                    same_test (is_taken p l event x u) (eqb u t) (λ h. eq-eqb u t (taken_there u d h ∙ sym here))
                    (λ h. subst (λ z. is_taken p l event x z ≡ true) (sym (eqb-true u t h)) it);
              }
            where
              it : is_taken p l event x t ≡ true
              it =
                  unfold is_taken in
                  rw (forward_is ∙ y, o, eq-eqb (transition p x).source (l t).state (sym src ∙ q ∙ state_as _ read)) (eq-eqb (transition p x).event event (sym ev ∙ same))

  pub found_more : (n : ℕ) → n < c.transitions → (t : ℕ) → cond (is_taken p l event n t) (some n) (found_among p l event n t) ≡ found_among p l event (n + 1) t
  unfolding found_among is_taken
  found_more n b t =
      elim (look (is_forward (l t).mode && not (has_open_scope p l t))) [
        | inr m ↦ rw m
        | inl m ↦
            rw m
            (elim (look (answers p l event t n)) [
              | inr a ↦
                  elim (look_option (first_below n (answers p l event t))) [
                    | inl q ↦ rw a (q ∙ sym (first_more_none n (answers p l event t) q a))
                    | inr q ↦ rw a (q.1 ∙ sym (first_stays (n + 1) n (answers p l event t) q.0 q.1 (omega arith)))
                  ]
              | inl a ↦
                  elim (look_option (first_below n (answers p l event t))) [
                    | inl q ↦ rw a (sym (first_more_here n (answers p l event t) q a))
                    | inr q ↦ absurd (twice q.0 (first_found n (answers p l event t) q.0 q.1) a)
                  ]
            ])
      ]
    where
      halves : (x : ℕ) → answers p l event t x ≡ true → ((transition p x).source ≡ (l t).state) × ((transition p x).event ≡ event)
      halves x a =
          let (s, e) = and_holds (eqb (transition p x).source (l t).state) (eqb (transition p x).event event) a in
          (eqb-true _ _ s, eqb-true _ _ e)

      twice : (i : ℕ) → (i < n) × (answers p l event t i ≡ true) → answers p l event t n ≡ true → ⊥
      twice i h a =
          let (s, e) = halves i h.1 in
          let (r, d) = halves n a in
          let k = transition_count_lem bs c in
          let q : i ≡ n = (plan_facts bs c g.checked.lent.accepts).deterministic i n (omega (arith, h.0)) (omega arith) (s ∙ sym r) (e ∙ sym d) in
          absurd (omega (arith, h.0))

  pub found_all : {ts : List ℕ} {n : ℕ} → n ≡ c.transitions → Numbers ts c.tracks (found_among p l event n) → Numbers ts c.tracks (any_day_move p l event)
  unfolding found_among any_day_move transition_for
  found_all e m = rw (e ∙ sym (transition_count_lem bs c)) at m
