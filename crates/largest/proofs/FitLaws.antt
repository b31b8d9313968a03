-- All paths together fit the room for them: a transition is on a path of its own track alone, and there once. Assumes nothing.
use Rattle.std.proofs.Common.{◌≡◌, refl, ap, ◌∙◌, true, false, List, [], ◌∷◌, inl, inr, ℕ, zero, suc, ◌<◌, ◌≤◌, arith, eqb, ltb, length, eqb-true}
use borrow.Author.Tests.{eqb-false}
use Rattle.rules.specs.Plan.{Plan, track_count, state_count, transition_count, transition, owner, mover, is_state_of, first_state}
use Rattle.rules.specs.Largest.{is_path, has_cycle, joined}
use Rattle.rules.proofs.Tests.{look, and_holds}
use Rattle.rules.proofs.Acceptance.{Accepted}
use Rattle.rules.proofs.Occurrences.{occurrences, one_other, occurrences_append, once_fits}
use Rattle.rules.proofs.Paths.{leaves_told, path_parts, never_round, once_on_path}
use Rattle.rules.proofs.Figures.{first_state_lem}
use Rattle.largest.specs.Chosen.{track_path}
use Rattle.largest.proofs.ChosenLaws.{chosen_most}

module _ (p : Plan) (ok : Accepted p) where
  -- what is on a path from a state is a transition, of the state's track
  pub record Own (s x : ℕ) : Type 0 where
    pub there : x < transition_count p
    pub moves : mover p x ≡ owner p s

  path_own : (s : ℕ) (xs : List ℕ) → is_path p s xs ≡ true → (x : ℕ) → (occurrences x xs ≡ 0 → ⊥) → Own s x
  unfolding occurrences mover is_state_of
  path_own s [] h x d = absurd (d refl)
  path_own s (y ∷ ys) h x d =
      let (a, b) = path_parts p s y ys h in
      let (l, e) = leaves_told p s y a in
      let here : mover p y ≡ owner p s = ap (owner p) e in
      elim (look (eqb x y)) [
        | inl q ↦ let z = eqb-true x y q in record { there = rw z l; moves = ap (mover p) z ∙ here }
        | inr q ↦
            let k = path_own (transition p y).destination ys b x (λ (z : occurrences x ys ≡ 0). d (let w = one_other x y (eqb-false x y q) in omega arith)) in
            let own = eqb-true _ _ (and_holds (ltb (transition p y).destination (state_count p)) _ (ok.destination_own y l)).1 in
            record { there = k.there; moves = k.moves ∙ own ∙ here }
      ]

  module _ (c : has_cycle p ≡ false) where
    first_own : (t : ℕ) → t < track_count p → owner p (first_state p t) ≡ t
    unfolding is_state_of
    first_own t l = eqb-true _ _ (and_holds (ltb (first_state p t) (state_count p)) _ (ok.first_own t l)).1

    is_path_lem : (t : ℕ) → t < track_count p → is_path p (first_state p t) (track_path p t) ≡ true
    unfolding track_path
    is_path_lem t l = (chosen_most p ok (first_state p t) (never_round p ok c (first_state p t) (first_state_lem p ok t l))).0

    path_once : (t : ℕ) → t < track_count p → (x : ℕ) → occurrences x (track_path p t) ≤ 1
    path_once t l x = once_on_path p ok c (first_state p t) (first_state_lem p ok t l) (track_path p t) (is_path_lem t l) x

    path_moves : (t : ℕ) → t < track_count p → (x : ℕ) → (occurrences x (track_path p t) ≡ 0 → ⊥) → (x < transition_count p) × (mover p x ≡ t)
    path_moves t l x d =
        let w = path_own (first_state p t) (track_path p t) (is_path_lem t l) x d in
        (w.there, w.moves ∙ first_own t l)

    path_without : (t : ℕ) → t < track_count p → (x : ℕ) → (x < transition_count p → mover p x ≡ t → ⊥) → occurrences x (track_path p t) ≡ 0
    path_without t l x d =
        elim (look (eqb (occurrences x (track_path p t)) 0)) [
          | inl e ↦ eqb-true _ _ e
          | inr e ↦ let (m, w) = path_moves t l x (eqb-false _ _ e) in absurd (d m w)
        ]

    -- of the paths end to end
    joined_without : (n : ℕ) → n ≤ track_count p → (x : ℕ) → ((t : ℕ) → t < n → x < transition_count p → mover p x ≡ t → ⊥)
        → occurrences x (joined n (track_path p)) ≡ 0
    unfolding joined occurrences
    joined_without zero l x d = refl
    joined_without (suc n) l x d =
        let a = joined_without n (omega arith) x (λ t m. d t (omega arith)) in
        let b = path_without n l x (d n (omega arith)) in
        omega (arith, occurrences_append x (joined n (track_path p)) (track_path p n))

    joined_once : (n : ℕ) → n ≤ track_count p → (x : ℕ) → occurrences x (joined n (track_path p)) ≤ 1
    unfolding joined occurrences
    joined_once zero l x = omega arith
    joined_once (suc n) l x =
        let e = occurrences_append x (joined n (track_path p)) (track_path p n) in
        elim (look (eqb (mover p x) n)) [
          | inl q ↦
              let z = joined_without n (omega arith) x (λ t m i (w : mover p x ≡ t). let v = eqb-true (mover p x) n q in omega arith) in
              omega (arith, path_once n l x)
          | inr q ↦
              let z = path_without n l x (λ i w. eqb-false (mover p x) n q w) in
              omega (arith, joined_once n (omega arith) x)
        ]

    pub paths_fit : (n : ℕ) → n ≤ track_count p → length (joined n (track_path p)) ≤ transition_count p
    paths_fit n l =
        once_fits (transition_count p) (joined n (track_path p)) (λ x m. joined_without n l x (λ t i j. absurd (omega arith))) (λ x m. joined_once n l x)
