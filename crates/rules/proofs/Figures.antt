-- The largest number of entries: no path has more, and some path has as many. Where one cannot go on for ever from a state, the most from it is
-- what the state adds and the most that lies behind one of its transitions. Assumes nothing.
use mathlib.Core.Path.{◌≡◌, refl}
use mathlib.Core.Bool.{Bool, true, false, cond, not, ◌&&◌}
use mathlib.Core.List.{List, [], ◌∷◌}
use mathlib.Core.Logic.{◌⊎◌, inl, inr}
use Prim.Native.Nat.{ℕ, zero, suc, ◌+◌, ◌*◌, ◌<◌, ◌≤◌}
use native.Mathlib.Omega.{arith}
use lib.ListN.{length}
use lib.Dec.{eqb, ltb}
use borrow.Author.Tests.{ltb-true, ltb-false, lt-ltb}
use Rattle.rules.specs.declared.Counts.{Counts}
use Rattle.rules.specs.Fold.{greatest_below}
use Rattle.rules.specs.Plan.{Plan, plan_of, track_count, state_count, transition_count, transition, replacement, is_hosting, is_state_of, first_state}
use Rattle.rules.specs.Acceptance.{Reading, turned_back, accepted, read_plan}
use Rattle.rules.specs.Largest.{of_transition, of_state, leaves, is_path, entries_along, most_within, goes_on, has_deviation, has_cycle, is_unbounded, read_bounded, largest}
use Rattle.rules.proofs.Tests.{look, and_holds, or_fails}
use Rattle.rules.proofs.Folds.{greatest_at, greatest_le}
use Rattle.rules.proofs.Acceptance.{Accepted}
use Rattle.rules.proofs.Paths.{leaves_told, path_parts, path_from, path_short, never_round}

-- the greatest is 0, or some value below n
pub greatest_met : (n : ℕ) (f : ℕ → ℕ) → (greatest_below n f ≡ 0) ⊎ ((k : ℕ) × (k < n) × (greatest_below n f ≡ f k))
unfolding greatest_below
greatest_met zero f = inl refl
greatest_met (suc n) f =
    elim (look (ltb (greatest_below n f) (f n))) [
      | inl e ↦ let h = ltb-true (greatest_below n f) (f n) e in inr (n, omega arith, omega arith)
      | inr e ↦
          let h = ltb-false (greatest_below n f) (f n) e in
          elim (greatest_met n f) [
            | inl z ↦ inl (omega arith)
            | inr (k, l, q) ↦ inr (k, omega arith, omega arith)
          ]
    ]

one_most : (b : Bool) → (cond b 1 0 ≤ 1) × (cond b 0 1 ≤ 1)
one_most true = (omega arith, omega arith)
one_most false = (omega arith, omega arith)

module _ (p : Plan) where
  pub state_most : (s : ℕ) → of_state p s ≤ 1
  unfolding of_state
  state_most s = (one_most (is_hosting p s && not (eqb (replacement p s) 0))).0

  pub transition_most : (x : ℕ) → of_transition p x ≤ 1
  unfolding of_transition
  transition_most x = (one_most (eqb (transition p x).code 0)).1

  -- what a transition adds to a path from s with the most that lies behind it along n more, where it leaves s
  unfoldable pub behind : ℕ → ℕ → ℕ → ℕ
  behind n s x = cond (leaves p s x) (of_transition p x + most_within p n (transition p x).destination) 0

  pub behind_left : (n s x : ℕ) → leaves p s x ≡ true → behind n s x ≡ of_transition p x + most_within p n (transition p x).destination
  unfolding behind
  behind_left n s x a = rw a

  pub behind_other : (n s x : ℕ) → leaves p s x ≡ false → behind n s x ≡ 0
  unfolding behind
  behind_other n s x a = rw a

  pub most_more : (n s : ℕ) → most_within p (suc n) s ≡ of_state p s + greatest_below (transition_count p) (behind n s)
  unfolding most_within behind
  most_more n s = refl

  -- no path of at most n transitions has more
  pub most_bound : (n s : ℕ) (xs : List ℕ) → is_path p s xs ≡ true → length xs ≤ n → entries_along p s xs ≤ most_within p n s
  unfolding entries_along most_within
  most_bound zero s [] h l = omega arith
  most_bound zero s (x ∷ xs) h l = absurd (omega arith)
  most_bound (suc n) s [] h l = omega arith
  most_bound (suc n) s (x ∷ xs) h l =
      let (a, b) = path_parts p s x xs h in
      let ih = most_bound n (transition p x).destination xs b (omega arith) in
      let i = greatest_at (transition_count p) (behind n s) x (leaves_told p s x a).0 in
      let q = behind_left n s x a in
      let m = most_more n s in
      omega arith

  -- and some path has as many
  pub most_met : (n s : ℕ) → (xs : List ℕ) × (is_path p s xs ≡ true) × (entries_along p s xs ≡ most_within p n s)
  unfolding is_path entries_along most_within
  most_met zero s = ([], refl, refl)
  most_met (suc n) s =
      let m = most_more n s in
      elim (greatest_met (transition_count p) (behind n s)) [
        | inl z ↦ ([], refl, omega arith)
        | inr (x, l, q) ↦
            elim (look (leaves p s x)) [
              | inl a ↦
                  let (xs, h, i) = most_met n (transition p x).destination in
                  let e = behind_left n s x a in
                  (x ∷ xs, path_from p s x xs a h, omega arith)
              | inr a ↦ let e = behind_other n s x a in ([], refl, omega arith)
            ]
      ]

  -- two for each transition, and one for the first state
  pub most_few : (n s : ℕ) → most_within p n s ≤ 2 * n + 1
  unfolding most_within
  most_few zero s = omega (arith, state_most s)
  most_few (suc n) s =
      let g =
      greatest_le (transition_count p) (behind n s) (2 * n + 2)
      (λ x l.
      elim (look (leaves p s x)) [
        | inl a ↦ omega (arith, behind_left n s x a, transition_most x, most_few n (transition p x).destination)
        | inr a ↦ omega (arith, behind_other n s x a)
      ]) in
      omega (arith, state_most s, most_more n s)

  module _ (ok : Accepted p) where
    pub no_more_from : (s : ℕ) → goes_on p (state_count p) s ≡ false → (xs : List ℕ) → is_path p s xs ≡ true → entries_along p s xs ≤ most_within p (state_count p) s
    no_more_from s e xs h = most_bound (state_count p) s xs h (omega (arith, path_short p ok s e xs h))

    -- one transition more makes no difference
    pub most_settled : (s : ℕ) → goes_on p (state_count p) s ≡ false
        → most_within p (state_count p) s ≡ of_state p s + greatest_below (transition_count p) (behind (state_count p) s)
    most_settled s e =
        let n = state_count p in
        let (xs, h, i) = most_met (suc n) s in
        let (ys, g, j) = most_met n s in
        let a = no_more_from s e xs h in
        let b = most_bound (suc n) s ys g (omega (arith, path_short p ok s e ys g)) in
        let m = most_more n s in
        omega arith

    pub first_state_lem : (t : ℕ) → t < track_count p → first_state p t < state_count p
    unfolding is_state_of
    first_state_lem t l = ltb-true _ _ (and_holds (ltb (first_state p t) (state_count p)) _ (ok.first_own t l)).0

    pub largest_is : (t : ℕ) → t < track_count p → largest p t ≡ most_within p (state_count p) (first_state p t)
    unfolding largest
    largest_is t l = rw (lt-ltb t (track_count p) l)

    -- "and no path has more"
    pub no_more : has_cycle p ≡ false → (t : ℕ) → t < track_count p → (xs : List ℕ) → is_path p (first_state p t) xs ≡ true
        → entries_along p (first_state p t) xs ≤ largest p t
    no_more c t l xs h =
        rw (largest_is t l) (no_more_from (first_state p t) (never_round p ok c (first_state p t) (first_state_lem t l)) xs h)

-- a plan that is read for this call was read, and has neither a deviation nor a cycle
pub bounded_read : (bs : List ℕ) (c : Counts) → read_bounded bs ≡ accepted c
    → (read_plan bs ≡ accepted c) × (has_deviation (plan_of bs c) ≡ false) × (has_cycle (plan_of bs c) ≡ false)
unfolding read_bounded is_unbounded
bounded_read bs c h = go (read_plan bs) refl
  where
    judge : (d : Counts) → read_plan bs ≡ accepted d → (b : Bool) → is_unbounded (plan_of bs d) ≡ b → cond b (turned_back 29) (accepted d) ≡ accepted c
        → (read_plan bs ≡ accepted c) × (has_deviation (plan_of bs c) ≡ false) × (has_cycle (plan_of bs c) ≡ false)
    judge d r true e q = let z : ◌≡◌ {A = ℕ} 0 1 = cc in absurd (omega arith)
    judge d r false e q =
        let w : d ≡ c = cc in
        let (x, y) = or_fails (has_deviation (plan_of bs c)) (has_cycle (plan_of bs c)) (rw w at e) in
        (rw w at r, x, y)

    go : (r : Reading) → read_plan bs ≡ r → (read_plan bs ≡ accepted c) × (has_deviation (plan_of bs c) ≡ false) × (has_cycle (plan_of bs c) ≡ false)
    go (turned_back r) e = let q : turned_back r ≡ accepted c = rw (e, read_bounded) at h in let z : ◌≡◌ {A = ℕ} 0 1 = cc in absurd (omega arith)
    go (accepted d) e = judge d e (is_unbounded (plan_of bs d)) refl (rw (e, read_bounded) at h)
