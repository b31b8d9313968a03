-- The moves of an event are SUC once for each track that moves: each is a basic configuration in forward direction, and none is above
-- another; entering the destination is goto. Assumes nothing.
use mathlib.Core.Path.{◌≡◌, refl, sym, ap, ◌∙◌, subst}
use mathlib.Core.Logic.{inl, inr}
use mathlib.Core.Bool.{Bool, true, false, ◌&&◌}
use mathlib.Core.List.{List}
use mathlib.Core.Option.{Option, none, some}
use Prim.Native.Nat.{ℕ, ◌<◌}
use lib.Dec.{eqb}
use Rattle.rules.specs.Plan.{Plan, track_count, transition, mover, optional, host, is_hosted_by, is_above, may_take, transition_count, transition_for}
use Rattle.rules.specs.Rights.{move_right, is_permitted}
use Rattle.rules.specs.Ledger.{Entry, Configuration, Ledger, is_awake}
use Rattle.rules.specs.Opening.{enter}
use Rattle.rules.specs.Event.{EventArguments, install, is_move, move, moves, moved}
use borrow.Author.Tests.{eq-eqb}
use Rattle.rules.proofs.Tests.{look, look_option, clash, none-some, and_both}
use Rattle.rules.proofs.Folds.{some_at, first_none}
use Rattle.rules.proofs.Acceptance.{Accepted, transition_for_lem}
use Rattle.rules.proofs.Opening.{wakes_root}
use Rattle.theory.proofs.Nesting.{Awake, Nested, free_below}
use Rattle.theory.proofs.EnteringNested.{Fate, enters, wakens, stays, fate, arrived_awake}
use Rattle.restoration.proofs.Theorems01.{move_takes, move_for, move_day, move_permitted, by_some, to_none, to_some, to_destination, recorded, goes, moved_is, recorded_awake, mover_awake, mover_is, recorded_nested, goes_free, moved_still}
use Rattle.automaton.specs.Configuration.{forward, NConf, Basic, push, goto}
use Rattle.automaton.specs.Semantics.{FailReading, suc_at, Step, SUC, Run}
use Rattle.automaton.specs.View.{stack_of, direction_of, is_within, basic, view_of, is_on_top, view, movings}
use Rattle.automaton.proofs.Listings.{alike, run_same}
use Rattle.automaton.proofs.Frames.{same_conf, top_parts, top_of, shown_free, view_law}
use Rattle.automaton.proofs.Entered as entered
use Rattle.automaton.proofs.Replacing.{unchanged, frames_view, all_stepped, stepped_all, stepped_not, steps_run}

-- the transition is the state's for the event
pub takes_it : (p : Plan) → Accepted p → (i q x : ℕ) → x < transition_count p → (transition p x).source ≡ q → (transition p x).event ≡ i → transition_for p q i ≡ some x
takes_it p ok i q x b s e =
    elim (look_option (transition_for p q i)) [
      | inl h ↦
          clash
          (some_at (transition_count p) (λ x. eqb (transition p x).source q && eqb (transition p x).event i) x b
          (and_both (eqb (transition p x).source q) (eqb (transition p x).event i) (eq-eqb _ _ s) (eq-eqb _ _ e)))
          (first_none (transition_count p) (λ x. eqb (transition p x).source q && eqb (transition p x).event i) (unfold transition_for in h))
      | inr h ↦
          let (c, t, u) = transition_for_lem p q i h.0 h.1 in
          h.1 ∙ ap some (ok.deterministic h.0 x c b (t ∙ sym s) (u ∙ sym e))
    ]

-- installing is pushing
pub stack_install : (c d : ℕ) (es : List Entry) → stack_of (install c d es) ≡ push c (optional d) (stack_of es)
unfolding stack_of install push
stack_install c d es = elim (look (eqb c 0)) [ inl e ↦ rw e | inr e ↦ rw e ]

module _ (p : Plan) (l : Ledger) (e : EventArguments) where
  pub moves_some : (t : ℕ) → moves p l e t ≡ true → (x : ℕ) × (move p l e t ≡ some x)
  unfolding moves is_move
  moves_some t h =
      elim (look_option (move p l e t)) [
        | inl q ↦ let z : ◌≡◌ {A = Bool} false true = rw (q, is_move) at h in clash z refl
        | inr q ↦ q
      ]

  pub some_moves : (t x : ℕ) → move p l e t ≡ some x → moves p l e t ≡ true
  unfolding moves is_move
  some_moves t x q = rw (q, is_move)

  none_moves : (t : ℕ) → moves p l e t ≡ false → move p l e t ≡ none
  none_moves t h = elim (look_option (move p l e t)) [ inl q ↦ q | inr q ↦ clash (some_moves t q.0 q.1) h ]

  -- the transition taken is one for the event
  pub on_event : (t x : ℕ) → move p l e t ≡ some x → (transition p x).event ≡ e.event
  on_event t x h = (transition_for_lem p (l t).state e.event x (move_for p l e t x h)).2

  -- where a track goes
  pub arrives : ℕ → Option ℕ → NConf
  arrives t none = basic p l t
  arrives t (some x) =
      goto p t (transition p x).destination (push (transition p x).code (optional (transition p x).deviation) (stack_of (l t).held))

  pub arrival : ℕ → NConf
  arrival t = arrives t (move p l e t)

  arrival_is : (t x : ℕ) → move p l e t ≡ some x
      → arrival t ≡ goto p t (transition p x).destination (push (transition p x).code (optional (transition p x).deviation) (stack_of (l t).held))
  unfolding arrival arrives
  arrival_is t x q = rw (q, arrives)

  module _ (ρ : FailReading) (ok : Accepted p) (n : Nested p l) where
    abbrev m : Ledger
    m = moved p l e

    awake : (t : ℕ) → moves p l e t ≡ true → Awake l t
    awake t h = let (x, q) = moves_some t h in mover_awake p l e t x q

    pub apart : (t u : ℕ) → moves p l e t ≡ true → moves p l e u ≡ true → is_above p t u ≡ true → ⊥
    apart t u h k a = let (x, q) = moves_some t h in clash (awake u k) (free_below p ok l n t (move_takes p l e t x q).free u a)

    pub takes : (t : ℕ) → moves p l e t ≡ true → Step p ρ (view_of p ρ l t) (suc_at t e) (arrival t)
    unfolding basic direction_of
    takes t h =
        let (x, q) = moves_some t h in
        let w = move_takes p l e t x q in
        let own : mover p x ≡ t = mover_is p l e ok n t x q in
        let from : (transition p x).source ≡ (l t).state = w.from in
        let on : (transition p x).event ≡ e.event = on_event t x q in
        let day : may_take p e.day x ≡ true = move_day p l e t x q in
        let right : is_permitted p move_right e.society t ≡ true = move_permitted p l e t x q in
        let one : view_of p ρ l t ≡ Basic t (l t).state forward (stack_of (l t).held) =
        view_law p ρ l ok t (n.below t (awake t h)) ∙ shown_free p ρ l t (view_of p ρ l) w.free
        ∙ ap (λ z. Basic t (l t).state (direction_of z) (stack_of (l t).held)) w.forward in
        subst (λ z. Step p ρ z (suc_at t e) (arrival t)) (sym one)
        (subst (λ z. Step p ρ (Basic t (l t).state forward (stack_of (l t).held)) (suc_at t e) z) (sym (arrival_is t x q))
        (SUC t (l t).state e x (stack_of (l t).held) w.real (cc) (cc) (cc) (cc) (cc)))

    root_awake : (t : ℕ) → host p t ≡ none → is_awake (m t).mode ≡ is_awake (l t).mode
    root_awake t h = ap (λ (k : Ledger). is_awake (k t).mode) (moved_is p l e) ∙ go (fate p ok (recorded p l e) (goes p l e) t)
      where
        go : Fate p ok (recorded p l e) (goes p l e) t → is_awake (enter p (goes p l e) (recorded p l e) t).mode ≡ is_awake (l t).mode
        go (enters s f q) =
            let (x, k, z) = to_some p (move p l e t) s f in
            ap (λ (c : Configuration). is_awake c.mode) q ∙ arrived_awake s (recorded p l e t) ∙ sym (mover_awake p l e t x k)
        go (wakens f w q) = clash w (wakes_root p ok (goes p l e) t h)
        go (stays f w q) = ap (λ (c : Configuration). is_awake c.mode) q ∙ recorded_awake p l e t

    arrived_view : (t x : ℕ) → t < track_count p → move p l e t ≡ some x → arrival t ≡ view_of p ρ m t
    arrived_view t x b q =
        arrival_is t x q
        ∙ ap (goto p t (transition p x).destination) (sym (ap stack_of (by_some p (move p l e t) (l t) x q) ∙ stack_install (transition p x).code (transition p x).deviation (l t).held))
        ∙ sym ((entered.goes p ok (recorded p l e) (recorded_nested p l e ok n) (goes p l e) (goes_free p l e ok n) ρ t b).enters (transition p x).destination (to_destination p (move p l e t) x q))
        ∙ ap (λ k. view_of p ρ k t) (sym (moved_is p l e))

    recorded_within : (t u : ℕ) → is_within p l t u ≡ is_within p (recorded p l e) t u
    unfolding is_within
    recorded_within t u = ap (λ x. is_hosted_by p t u && x) (sym (recorded_awake p l e u))

    same_within : (t : ℕ) → Awake l t → move p l e t ≡ none → (u : ℕ) → is_within p l t u ≡ is_within p m t u
    same_within t a q u =
        recorded_within t u
        ∙ entered.stays_within p ok (recorded p l e) (recorded_nested p l e ok n) (goes p l e) (goes_free p l e ok n) t (recorded_awake p l e t ∙ a) (to_none p (move p l e t) q) u
        ∙ ap (λ k. is_within p k t u) (sym (moved_is p l e))

    abbrev all : ℕ → Option NConf
    all = all_stepped p ρ ok l n (moves p l e) (λ t. suc_at t e) arrival awake apart takes

    -- one SUC for each track that moves
    pub moving_run : Run p ρ (view p ρ l) (movings p l e) (view p ρ m)
    unfolding movings
    moving_run =
        run_same p ρ (steps_run p ρ ok l n (moves p l e) (λ t. suc_at t e) arrival awake apart takes)
        (frames_view p ρ ok l all m
        (λ t b.
        alike (is_on_top p l t) (is_on_top p m t)
        (λ y. let (h, a) = top_parts p l t y in top_of p m t h (root_awake t h ∙ a))
        (λ y. let (h, a) = top_parts p m t y in top_of p l t h (sym (root_awake t h) ∙ a)))
        (λ t d b a w q.
        elim (look (moves p l e t)) [
          | inl h ↦
              let (x, k) = moves_some t h in
              same_conf d (arrival t) (sym q ∙ stepped_all p ρ ok l n (moves p l e) (λ t. suc_at t e) arrival awake apart takes t h)
              ∙ arrived_view t x b k
          | inr h ↦ none-some (stepped_not p ρ ok l n (moves p l e) (λ t. suc_at t e) arrival awake apart takes t h) q
        ])
        (λ t b a w q.
        elim (look (moves p l e t)) [
          | inl h ↦ none-some q (stepped_all p ρ ok l n (moves p l e) (λ t. suc_at t e) arrival awake apart takes t h)
          | inr h ↦
              let k = none_moves t h in
              unchanged p ρ ok l m t (λ u c. same_within t a k u) (moved_still p l e ok n t a k)
        ]))
