-- Who moves, in facts: a track takes a transition only if its society may move it, it is forward without an open scope, and the transition is its state's
-- for the event, on its days. Assumes nothing.
use mathlib.Core.Path.{◌≡◌, refl}
use mathlib.Core.Logic.{inl, inr}
use mathlib.Core.Bool.{true, false, cond, not, ◌&&◌, and-false}
use mathlib.Core.Option.{none, some}
use Prim.Native.Nat.{ℕ}
use borrow.Author.Tests.{not-true}
use Rattle.rules.specs.Plan.{Plan, transition_for, may_take, taken_on}
use Rattle.rules.specs.Rights.{move_right, is_permitted}
use Rattle.rules.specs.Ledger.{Ledger, is_forward}
use Rattle.rules.specs.Scope.{has_open_scope}
use Rattle.rules.specs.Event.{EventArguments, may_move, move}
use Rattle.rules.proofs.Tests.{look, and_holds, none-some}
use Rattle.rules.proofs.DayLaws.{taken_on_lem}

module _ (p : Plan) (l : Ledger) (a : EventArguments) where
  -- a track that takes a transition
  pub record Mover (t x : ℕ) : Type 0 where
    pub permitted : is_permitted p move_right a.society t ≡ true
    pub ahead : is_forward (l t).mode ≡ true
    pub free : has_open_scope p l t ≡ false
    pub taken : transition_for p (l t).state a.event ≡ some x
    pub on_day : may_take p a.day x ≡ true

  pub mover_is : (t x : ℕ) → move p l a t ≡ some x → Mover t x
  unfolding move may_move
  mover_is t x h =
      elim (look (may_move p l a t)) [
        | inl g ↦
            let (i, k) = and_holds (is_permitted p move_right a.society t) (is_forward (l t).mode && not (has_open_scope p l t)) g in
            let (f, n) = and_holds (is_forward (l t).mode) (not (has_open_scope p l t)) k in
            let (q, d) = taken_on_lem p a.day _ x (rw g at h) in
            record { permitted = i; ahead = f; free = not-true _ n; taken = q; on_day = d }
        | inr g ↦ let q : none ≡ some x = rw g at h in none-some refl q
      ]

  -- the society aside: what a track would take for any
  pub move_permitted : (t : ℕ)
      → move p l a t
      ≡ cond (is_permitted p move_right a.society t)
      (cond (is_forward (l t).mode && not (has_open_scope p l t)) (taken_on p a.day (transition_for p (l t).state a.event)) none) none
  unfolding move may_move
  move_permitted t = elim (look (is_permitted p move_right a.society t)) [ inl q ↦ rw q | inr q ↦ rw q ]

  -- who is not forward does not move, nor who may not be moved
  pub move_idle : (t : ℕ) → is_forward (l t).mode ≡ false → move p l a t ≡ none
  unfolding move may_move
  move_idle t f = rw (f, and-false (is_permitted p move_right a.society t))

  pub move_barred : (t : ℕ) → is_permitted p move_right a.society t ≡ false → move p l a t ≡ none
  unfolding move may_move
  move_barred t f = rw f
