-- canc_out has the two laws of the report's Definition 15: a pair may be taken out anywhere, and a string without a pair is left as it is.
-- Assumes nothing.
use mathlib.Core.Path.{◌≡◌, refl, sym, ap, ◌∙◌}
use mathlib.Core.Bool.{false}
use mathlib.Core.List.{List, [], ◌∷◌, ◌++◌, append-nil}
use Prim.Native.Nat.{ℕ}
use borrow.Author.Tests.{eq-eqb}
use Rattle.rules.proofs.Tests.{or_fails}
use Rattle.automaton.specs.SelfCancelling.{Symbol, activity, action, is_pair, has_pair, left_after, left_of, onto, canc_out}

module _ (comp : ℕ → ℕ) where
  pub left_joined : (v u w : List Symbol) → left_of comp v (u ++ w) ≡ left_of comp (left_of comp v u) w
  unfolding left_of
  left_joined v [] w = refl
  left_joined v (x ∷ u) w = left_joined (left_after comp v x) u w

  -- an activity is never the second of a pair
  pub left_activity : (v : List Symbol) (i : ℕ) → left_after comp v (activity i) ≡ activity i ∷ v
  unfolding left_after is_pair
  left_activity [] i = refl
  left_activity (activity j ∷ v) i = refl
  left_activity (action c ∷ v) i = refl

  pub left_action : (v : List Symbol) (i : ℕ) → left_after comp (activity i ∷ v) (action (comp i)) ≡ v
  unfolding left_after is_pair
  left_action v i = rw (eq-eqb (comp i) (comp i) refl)

  left_pair : (v w : List Symbol) (i : ℕ) → left_of comp v (activity i ∷ action (comp i) ∷ w) ≡ left_of comp v w
  unfolding left_of
  left_pair v w i = ap (λ z. left_of comp (left_after comp z (action (comp i))) w) (left_activity v i) ∙ ap (λ z. left_of comp z w) (left_action v i)

  -- "cancOut(w x x′ w′) = cancOut(w w′) if x′ = x̄"
  pub canc_out_pair : (w w' : List Symbol) (i : ℕ) → canc_out comp (w ++ (activity i ∷ action (comp i) ∷ w')) ≡ canc_out comp (w ++ w')
  unfolding canc_out
  canc_out_pair w w' i =
      ap (λ z. onto z [])
      (left_joined [] w (activity i ∷ action (comp i) ∷ w') ∙ left_pair (left_of comp [] w) w' i ∙ sym (left_joined [] w w'))

  onto_onto : (w u v : List Symbol) → onto (onto w u) v ≡ onto u (w ++ v)
  unfolding onto
  onto_onto [] u v = refl
  onto_onto (x ∷ w) u v = onto_onto w (x ∷ u) v

  left_none : (w : List Symbol) (x : Symbol) (v : List Symbol) → has_pair comp (x ∷ w) ≡ false → left_of comp (x ∷ v) w ≡ onto w (x ∷ v)
  unfolding left_of onto left_after has_pair
  left_none [] x v h = refl
  left_none (y ∷ w) x v h =
      let (a, b) = or_fails (is_pair comp x y) (has_pair comp (y ∷ w)) h in
      rw a (left_none w y (x ∷ v) b)

  left_whole : (w : List Symbol) → has_pair comp w ≡ false → left_of comp [] w ≡ onto w []
  unfolding left_of onto left_after
  left_whole [] h = refl
  left_whole (x ∷ w) h = left_none w x [] h

  -- "cancOut(w) = w otherwise"
  pub canc_out_none : (w : List Symbol) → has_pair comp w ≡ false → canc_out comp w ≡ w
  unfolding canc_out onto
  canc_out_none w h = ap (λ z. onto z []) (left_whole w h) ∙ onto_onto w [] [] ∙ append-nil w
