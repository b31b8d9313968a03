-- The path shown has as many entries as the figure. Where it ends, nothing more is to be had; else behind its next transition lies what is left.
-- Assumes nothing.
use Rattle.std.proofs.Common.{◌≡◌, refl, sym, ap, ◌∙◌, Bool, true, false, List, [], ◌∷◌, inl, inr, ℕ, zero, suc, ◌+◌, ◌<◌, arith, eqb, ltb, eqb-true, eq-eqb, ne_eqb, ltb-true, ltb-false}
use Rattle.std.proofs.Math.Option.{none, some}
use borrow.Author.Tests.{eqb-false}
use Rattle.rules.specs.Fold.{first_below}
use Rattle.rules.specs.Plan.{Plan, track_count, state_count, transition_count, transition, first_state}
use Rattle.rules.specs.Largest.{no_transition, of_transition, of_state, leaves, is_path, entries_along, goes_on, has_cycle, largest, Attains}
use Rattle.rules.proofs.Tests.{look, look_option, clash, none-some}
use Rattle.rules.proofs.Folds.{some_not, first_found, first_none, first_lowest}
use Rattle.rules.proofs.Acceptance.{Accepted}
use Rattle.rules.proofs.Paths.{path_from, goes_through, ends_behind, never_round}
use Rattle.rules.proofs.Figures.{behind, greatest_met, most_settled, no_more, first_state_lem, largest_is}
use Rattle.largest.specs.Chosen.{most_from, gain, best_gain, step_from, step_word, chosen_within, chosen}

-- the lowest number that passes
first_is : (n : ℕ) (f : ℕ → Bool) (i : ℕ) → i < n → f i ≡ true → ((k : ℕ) → k < i → f k ≡ false) → first_below n f ≡ some i
first_is n f i l h low =
    elim (look_option (first_below n f)) [
      | inl e ↦ clash h (some_not n f (first_none n f e) i l)
      | inr (j, e) ↦
          let (a, b) = first_found n f j e in
          elim (look (eqb i j)) [
            | inl q ↦ rw (eqb-true i j q) e
            | inr q ↦
                elim (look (ltb i j)) [
                  | inl m ↦ clash h (some_not j f (first_lowest n f j e) i (ltb-true i j m))
                  | inr m ↦
                      let d : i ≡ j → ⊥ = eqb-false i j q in
                      let k = ltb-false i j m in
                      clash b (low j (omega arith))
                ]
          ]
    ]

module _ (p : Plan) where
  gain_is : (s : ℕ) → gain p s ≡ behind p (state_count p) s
  unfolding gain most_from behind
  gain_is s = refl

  pub gain_left : (s x : ℕ) → leaves p s x ≡ true → gain p s x ≡ of_transition p x + most_from p (transition p x).destination
  unfolding gain
  gain_left s x a = rw a

  pub gain_other : (s x : ℕ) → leaves p s x ≡ false → gain p s x ≡ 0
  unfolding gain
  gain_other s x a = rw a

  -- the step from a state: none where nothing more is to be had,
  pub step_none : (s : ℕ) → step_from p s ≡ none → best_gain p s ≡ 0
  unfolding step_from best_gain
  step_none s h =
      elim (look (eqb (best_gain p s) 0)) [
        | inl e ↦ eqb-true _ _ e
        | inr e ↦
            let q : first_below (transition_count p) (λ x. eqb (gain p s x) (best_gain p s)) ≡ none = rw e at h in
            elim (greatest_met (transition_count p) (gain p s)) [
              | inl z ↦ z
              | inr (x, l, g) ↦ clash (eq-eqb (gain p s x) (best_gain p s) (sym g)) (some_not (transition_count p) _ (first_none (transition_count p) _ q) x l)
            ]
      ]

  pub step_ends : (s : ℕ) → best_gain p s ≡ 0 → step_from p s ≡ none
  unfolding step_from
  step_ends s e = rw (eq-eqb (best_gain p s) 0 e)

  -- the lowest-numbered behind which it lies,
  pub step_lowest : (s x : ℕ) → (best_gain p s ≡ 0 → ⊥) → x < transition_count p → gain p s x ≡ best_gain p s
      → ((y : ℕ) → y < x → gain p s y ≡ best_gain p s → ⊥) → step_from p s ≡ some x
  unfolding step_from
  step_lowest s x d l e low =
      rw (ne_eqb (best_gain p s) 0 d)
      (first_is (transition_count p) _ x l (eq-eqb (gain p s x) (best_gain p s) e) (λ y m. ne_eqb (gain p s y) (best_gain p s) (low y m)))

  -- and it leaves the state
  pub record Step (s x : ℕ) : Type 0 where
    pub there : x < transition_count p
    pub left : leaves p s x ≡ true
    pub best : best_gain p s ≡ of_transition p x + most_from p (transition p x).destination

  pub step_some : (s x : ℕ) → step_from p s ≡ some x → Step s x
  unfolding step_from
  step_some s x h =
      elim (look (eqb (best_gain p s) 0)) [
        | inl e ↦ let q : none ≡ some x = rw e at h in none-some refl q
        | inr e ↦
            let q : first_below (transition_count p) (λ y. eqb (gain p s y) (best_gain p s)) ≡ some x = rw e at h in
            let (l, b) = first_found (transition_count p) _ x q in
            let g : gain p s x ≡ best_gain p s = eqb-true _ _ b in
            elim (look (leaves p s x)) [
              | inl a ↦ record { there = l; left = a; best = sym g ∙ gain_left s x a }
              | inr a ↦ absurd (eqb-false (best_gain p s) 0 e (sym g ∙ gain_other s x a))
            ]
      ]

  -- as a word
  pub word_some : (s x : ℕ) → step_from p s ≡ some x → step_word p s ≡ x
  unfolding step_word
  word_some s x h = rw (h, step_word)

  pub word_none : (s : ℕ) → step_from p s ≡ none → step_word p s ≡ 65535
  unfolding step_word no_transition
  word_none s h = rw (h, step_word)

  -- the path by its first step
  pub within_some : (n s x : ℕ) → step_from p s ≡ some x → chosen_within p (suc n) s ≡ x ∷ chosen_within p n (transition p x).destination
  unfolding chosen_within
  within_some n s x h = rw (h, chosen_within)

  pub within_none : (n s : ℕ) → step_from p s ≡ none → chosen_within p n s ≡ []
  unfolding chosen_within
  within_none zero s h = refl
  within_none (suc n) s h = rw (h, chosen_within)

  -- no longer than one can go on
  within_enough : (n s : ℕ) → goes_on p n s ≡ false → chosen_within p (suc n) s ≡ chosen_within p n s
  unfolding goes_on
  within_enough zero s h = clash refl h
  within_enough (suc n) s h =
      elim (look_option (step_from p s)) [
        | inl e ↦ within_none (suc (suc n)) s e ∙ sym (within_none (suc n) s e)
        | inr (x, e) ↦
            let a = (step_some s x e).left in
            let d : goes_on p n (transition p x).destination ≡ false =
            elim (look (goes_on p n (transition p x).destination)) [ inl k ↦ clash (goes_through p n s x a k) h | inr k ↦ k ] in
            within_some (suc n) s x e ∙ ap (λ (xs : List ℕ). x ∷ xs) (within_enough n (transition p x).destination d) ∙ sym (within_some n s x e)
      ]

  pub chosen_none : (s : ℕ) → step_from p s ≡ none → chosen p s ≡ []
  unfolding chosen
  chosen_none s h = within_none (state_count p) s h

  pub chosen_some : (s x : ℕ) → goes_on p (state_count p) s ≡ false → step_from p s ≡ some x → chosen p s ≡ x ∷ chosen p (transition p x).destination
  unfolding chosen
  chosen_some s x e h = sym (within_enough (state_count p) s e) ∙ within_some (state_count p) s x h

  module _ (ok : Accepted p) where
    pub most_is : (s : ℕ) → goes_on p (state_count p) s ≡ false → most_from p s ≡ of_state p s + best_gain p s
    unfolding most_from best_gain
    most_is s e = rw (gain_is s) (most_settled p ok s e)

    -- so many entries as there can be
    within_most : (n s : ℕ) → goes_on p n s ≡ false → goes_on p (state_count p) s ≡ false
        → (is_path p s (chosen_within p n s) ≡ true) × (entries_along p s (chosen_within p n s) ≡ most_from p s)
    unfolding goes_on is_path entries_along
    within_most zero s h e = clash refl h
    within_most (suc n) s h e =
        let m = most_is s e in
        elim (look_option (step_from p s)) [
          | inl q ↦ let b = step_none s q in rw (within_none (suc n) s q) (refl, omega arith)
          | inr (x, q) ↦
              let w = step_some s x q in
              let b = w.best in
              let d : goes_on p n (transition p x).destination ≡ false =
              elim (look (goes_on p n (transition p x).destination)) [ inl k ↦ clash (goes_through p n s x w.left k) h | inr k ↦ k ] in
              let (i, j) = within_most n (transition p x).destination d (ends_behind p ok s x e w.left) in
              rw (within_some n s x q) (path_from p s x (chosen_within p n (transition p x).destination) w.left i, omega arith)
        ]

    pub chosen_most : (s : ℕ) → goes_on p (state_count p) s ≡ false → (is_path p s (chosen p s) ≡ true) × (entries_along p s (chosen p s) ≡ most_from p s)
    unfolding chosen
    chosen_most s e = within_most (state_count p) s e e

    -- "The figure is shown with such a path, .. and no path has more"
    pub chosen_attains : has_cycle p ≡ false → (t : ℕ) → t < track_count p → Attains p (first_state p t) (largest p t) (chosen p (first_state p t))
    unfolding most_from
    chosen_attains c t l =
        let s = first_state p t in
        let (i, j) = chosen_most s (never_round p ok c s (first_state_lem p ok t l)) in
        record { leads = i; has = j ∙ sym (largest_is p ok t l); no_more = no_more p ok c t l }
