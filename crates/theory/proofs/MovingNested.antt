-- The moves of an event keep a ledger nested: the movers' entries change no mode and no state, and the movers, forward and without an open
-- scope, enter states of their own. Assumes nothing.
use mathlib.Core.Path.{◌≡◌, refl, sym, ap, ◌∙◌, subst}
use mathlib.Core.Logic.{◌⊎◌, inl, inr}
use mathlib.Core.Bool.{true, false, not}
use mathlib.Core.Option.{Option, none, some}
use Prim.Native.Nat.{ℕ}
use lib.Dec.{eqb}
use Rattle.rules.specs.declared.Mode.TheVariants.{Forward}
use Rattle.rules.specs.Plan.{Plan, transition, owner, mover, is_state_of}
use Rattle.rules.specs.Ledger.{Ledger, is_awake, is_forward, is_undoing}
use Rattle.rules.specs.Scope.{has_open_scope}
use Rattle.rules.specs.Opening.{fresh, enter}
use Rattle.rules.specs.Event.{destination_of, has_code}
use Rattle.rules.proofs.Tests.{look_option, clash, none-some}
use Rattle.rules.proofs.Modes.{forward_awake, forward_is, undoing_forward, is_forward_lem}
use Rattle.rules.proofs.Acceptance.{Accepted}
use Rattle.rules.proofs.Abandoning.{undoing_awake}
use Rattle.theory.specs.Seams as seam
use Rattle.theory.specs.Seams.{Seams}
use Rattle.theory.proofs.Nesting.{Awake, Sleeps, Nested, state_of, busy_same}
use Rattle.theory.proofs.EnteringNested.{Enterable, Fate, enters, wakens, stays, fate, fresh_mode, kept, new_fresh, enter_nested}
use Rattle.theory.proofs.Laws.{Laws}
use Rattle.theory.proofs.Installing.{by_mode, by_state, by_none}

-- where a move goes, and whether it has a code
module _ (p : Plan) where
  pub to_none : (o : Option ℕ) → o ≡ none → destination_of p o ≡ none
  unfolding destination_of
  to_none o h = rw (h, destination_of)

  pub to_destination : (o : Option ℕ) (x : ℕ) → o ≡ some x → destination_of p o ≡ some (transition p x).destination
  unfolding destination_of
  to_destination o x h = rw (h, destination_of)

  pub to_some : (o : Option ℕ) (d : ℕ) → destination_of p o ≡ some d → (x : ℕ) × (o ≡ some x) × ((transition p x).destination ≡ d)
  unfolding destination_of
  to_some none d h = none-some refl h
  to_some (some x) d h = (x, refl, cc)

  pub has_code_lem : (o : Option ℕ) (x : ℕ) → o ≡ some x → has_code p o ≡ not (eqb (transition p x).code 0)
  unfolding has_code
  has_code_lem o x h = rw (h, has_code)

module _ {σ : Seams} (ω : Laws σ) (p : Plan) (l : Ledger) (e : σ.Event) where
  open σ use {move, moved, entry}

  abbrev recorded : Ledger
  recorded = seam.recorded σ p l e

  abbrev goes : ℕ → Option ℕ
  goes = seam.goes σ p l e

  pub moved_is : moved p l e ≡ enter p goes recorded
  moved_is = ω.moved_is p l e

  -- who is not forward, or has an open scope, does not move
  pub still : (t : ℕ) → (is_forward (l t).mode ≡ false) ⊎ (has_open_scope p l t ≡ true) → move p l e t ≡ none
  still t h =
      elim (look_option (move p l e t)) [
        | inl k ↦ k
        | inr k ↦
            let m = ω.move_takes p l e t k.0 k.1 in
            elim h [ inl f ↦ clash m.forward f | inr b ↦ clash b m.free ]
      ]

  pub recorded_mode : (t : ℕ) → (recorded t).mode ≡ (l t).mode
  recorded_mode t = by_mode (entry e) p (move p l e t) (l t)

  pub recorded_state : (t : ℕ) → (recorded t).state ≡ (l t).state
  recorded_state t = by_state (entry e) p (move p l e t) (l t)

  pub recorded_awake : (t : ℕ) → is_awake (recorded t).mode ≡ is_awake (l t).mode
  recorded_awake t = ap is_awake (recorded_mode t)

  pub mover_awake : (t x : ℕ) → move p l e t ≡ some x → Awake l t
  mover_awake t x h = forward_awake (l t).mode (ω.move_takes p l e t x h).forward

  module _ (ok : Accepted p) (n : Nested p l) where
    -- the transition is one of the track that it moves
    pub mover_is : (t x : ℕ) → move p l e t ≡ some x → mover p x ≡ t
    unfolding mover
    mover_is t x h =
        ap (owner p) (ω.move_takes p l e t x h).from ∙ (state_of p t (l t).state (n.own t (mover_awake t x h))).1

    pub recorded_nested : Nested p recorded
    recorded_nested =
        record {
          below = λ t a. n.below t (sym (recorded_awake t) ∙ a);
          own = λ t a. ap (is_state_of p t) (recorded_state t) ∙ n.own t (sym (recorded_awake t) ∙ a);
          hosted =
              λ t h a f.
              let u = n.hosted t h (sym (recorded_awake t) ∙ a) f in
              (recorded_state (owner p h) ∙ u.0, recorded_mode (owner p h) ∙ u.1 ∙ sym (recorded_mode t));
          whole = λ t u h f g. recorded_awake t ∙ n.whole t u h f g ∙ sym (recorded_awake u);
          blank =
              λ t a.
              let a' = sym (recorded_awake t) ∙ a in
              elim (look_option (move p l e t)) [
                | inl h ↦ by_none (entry e) p (move p l e t) (l t) h ∙ n.blank t a'
                | inr h ↦ clash (mover_awake t h.0 h.1) a'
              ];
        }

    pub goes_free : Enterable p recorded goes
    goes_free =
        record {
          free =
              λ t s h.
              let (x, f, q) = to_some p (move p l e t) s h in
              busy_same p recorded l recorded_awake t ∙ (ω.move_takes p l e t x f).free;
          own =
              λ t s h.
              let (x, f, q) = to_some p (move p l e t) s h in
              let d = ok.destination_own x (ω.move_takes p l e t x f).real in
              subst (λ y. is_state_of p t y ≡ true) q (subst (λ y. is_state_of p y (transition p x).destination ≡ true) (mover_is t x f) d);
          forward =
              λ t s h k f.
              let (x, g, q) = to_some p (move p l e t) s k in
              recorded_mode t ∙ forward_is (l t).mode (ω.move_takes p l e t x g).forward;
        }

    pub moved_nested : Nested p (moved p l e)
    moved_nested = subst (Nested p) (sym moved_is) (enter_nested p ok recorded goes recorded_nested goes_free)

    -- an awake track that does not move is left as it is
    pub moved_still : (t : ℕ) → Awake l t → move p l e t ≡ none → moved p l e t ≡ l t
    moved_still t a h =
        ap (λ m. m t) moved_is
        ∙ kept p ok recorded goes recorded_nested goes_free t (recorded_awake t ∙ a) (to_none p (move p l e t) h)
        ∙ by_none (entry e) p (move p l e t) (l t) h

    pub moved_busy : (t : ℕ) → Awake l t → has_open_scope p l t ≡ true → moved p l e t ≡ l t
    moved_busy t a b = moved_still t a (still t (inr b))

    pub moved_undoing : (t : ℕ) → is_undoing (l t).mode ≡ true → moved p l e t ≡ l t
    moved_undoing t u = moved_still t (undoing_awake (l t).mode u) (still t (inl (undoing_forward (l t).mode u)))

    -- what was asleep and is awake is fresh
    pub moved_new : (t : ℕ) → Sleeps l t → Awake (moved p l e) t → moved p l e t ≡ fresh p t
    moved_new t a b =
        let h : move p l e t ≡ none =
        elim (look_option (move p l e t)) [ inl h ↦ h | inr h ↦ clash (mover_awake t h.0 h.1) a ] in
        ap (λ m. m t) moved_is
        ∙ new_fresh p ok recorded goes recorded_nested goes_free t (to_none p (move p l e t) h) (recorded_awake t ∙ a)
        (ap (λ m. is_awake (m t).mode) (sym moved_is) ∙ b)

    -- what is undoing was so, and is left as it was
    pub moved_undoing_back : (t : ℕ) → is_undoing (moved p l e t).mode ≡ true → moved p l e t ≡ l t
    moved_undoing_back t u = go (fate p ok recorded goes t)
      where
        not_forward : (moved p l e t).mode ≡ Forward → moved p l e t ≡ l t
        not_forward h = clash (is_forward_lem (moved p l e t).mode h) (undoing_forward (moved p l e t).mode u)

        go : Fate p ok recorded goes t → moved p l e t ≡ l t
        go (enters s f q) = not_forward (ap (λ m. (m t).mode) moved_is ∙ ap (λ c. c.mode) q)
        go (wakens f w q) = not_forward (ap (λ m. (m t).mode) moved_is ∙ ap (λ c. c.mode) q ∙ fresh_mode p t)
        go (stays f w q) =
            let r : moved p l e t ≡ recorded t = ap (λ m. m t) moved_is ∙ q in
            elim (look_option (move p l e t)) [
              | inl h ↦ r ∙ by_none (entry e) p (move p l e t) (l t) h
              | inr h ↦
                  clash (ω.move_takes p l e t h.0 h.1).forward
                  (undoing_forward (l t).mode (ap is_undoing (sym (ap (λ c. c.mode) r ∙ recorded_mode t)) ∙ u))
            ]
