-- Paths end to end: each stands behind those before it. Assumes nothing.
use Rattle.std.proofs.Common.{◌≡◌, refl, sym, ap, ◌∙◌, List, [], ◌∷◌, ◌++◌, append-nil, append_assoc, ⊎_elim, ℕ, zero, suc, ◌+◌, ◌-◌, ◌<◌, ◌≤◌, eq-or-lt_of_le, le_of_suc-le-suc, not-suc-le-zero, add-one, arith, length, get_or, replicate, length-append, get_or-append-add}
use Rattle.std.proofs.Math.ListN.{get_or-append, get_or-eq_default}
use Rattle.rules.specs.Fold.{tabulate}
use Rattle.rules.specs.Largest.{no_transition, joined, padded}
use Rattle.rules.proofs.Folds.{get_d_tabulate, length-tabulate_lem}
use Rattle.std.specs.Prelude.{sum, take}
use Rattle.std.proofs.lemmas.List.Sums.{sum_by_more}
use Rattle.largest.specs.Laid.{Laid}

-- within a list it makes no difference what stands beyond it
within_same : (xs : List ℕ) (i a b : ℕ) → i < length xs → get_or xs i a ≡ get_or xs i b
within_same [] i a b l = absurd (not-suc-le-zero l)
within_same (x ∷ xs) zero a b l = refl
within_same (x ∷ xs) (suc i) a b l = within_same xs i a b (le_of_suc-le-suc l)

module _ (path : ℕ → List ℕ) where
  -- what stands behind a path
  joined_at : (n t : ℕ) → t < n → (rest : List ℕ) × (joined n path ≡ joined t path ++ (path t ++ rest))
  unfolding joined
  joined_at zero t l = absurd (not-suc-le-zero l)
  joined_at (suc n) t l =
      ⊎_elim (λ (e : t ≡ n). ([], rw e (ap (λ (r : List ℕ). joined n path ++ r) (sym (append-nil (path n))))))
      (λ (m : t < n).
      let (rest, q) = joined_at n t m in (
        rest ++ path n,
        ap (λ (r : List ℕ). r ++ path n) q ∙ append_assoc (joined t path) (path t ++ rest) (path n)
            ∙ ap (λ (r : List ℕ). joined t path ++ r) (append_assoc (path t) rest (path n)),
      ))
      (eq-or-lt_of_le (le_of_suc-le-suc l))

  start_more : (u : ℕ) (at v : ℕ) → at ≡ length (joined u path) → v ≡ length (path u) → at + v ≡ length (joined (u + 1) path)
  unfolding joined
  start_more u at v e f = rw (add-one u) (let n = length-append (joined u path) (path u) in omega arith)

  pub length_at : (lengths : List ℕ) (t : ℕ) → lengths ≡ tabulate 32 (λ u. length (path u)) → t < 32 → get_or lengths t 0 ≡ length (path t)
  length_at lengths t e l = rw e (get_d_tabulate 32 t (λ u. length (path u)) 0 l)

  joined_none : joined 0 path ≡ []
  joined_none = unfold joined in refl

  -- where a path starts: the lengths before it, added up
  pub starts : (lengths : List ℕ) → lengths ≡ tabulate 32 (λ u. length (path u)) → (t : ℕ) → t ≤ 32 → sum (take t lengths) ≡ length (joined t path)
  starts lengths e zero l = rw joined_none
  starts lengths e (suc t) l =
      let n : t < length lengths = omega (arith, ap length e, length-tabulate_lem 32 (λ u. length (path u))) in
      rw (← add-one t)
      (sum_by_more (λ x. x) lengths t 0 n ∙ start_more t _ _ (starts lengths e t (omega arith)) (length_at lengths t e (omega arith)))

  module _ (lengths steps : List ℕ) (w : Laid lengths steps path) (t place : ℕ) (l : t < 32) where
    pub step_beyond : get_or lengths t 0 ≤ place → no_transition ≡ get_or (path t) place no_transition
    step_beyond h =
        let e = length_at lengths t w.lengths_are l in
        let m : length (path t) ≤ place = omega arith in
        sym (get_or-eq_default (path t) no_transition m)

    pub step_low : place < get_or lengths t 0 → sum (take t lengths) + place < 256
    step_low h =
        let e = starts lengths w.lengths_are t (omega arith) in
        let (rest, q) = joined_at 32 t l in
        let n = ap length q ∙ length-append (joined t path) (path t ++ rest) in
        let m = length-append (path t) rest in
        let k = length_at lengths t w.lengths_are l in
        omega (arith, w.fits)

    pub step_here : place < get_or lengths t 0 → get_or steps (sum (take t lengths) + place) 0 ≡ get_or (path t) place no_transition
    unfolding padded
    step_here h =
        let e = starts lengths w.lengths_are t (omega arith) in
        let (rest, q) = joined_at 32 t l in
        let k = length_at lengths t w.lengths_are l in
        let i : place < length (path t) = omega arith in
        let pad : List ℕ = replicate (256 - length (joined 32 path)) no_transition in
        let all : steps ≡ joined t path ++ (path t ++ (rest ++ pad)) =
        w.steps_are ∙ ap (λ (r : List ℕ). r ++ pad) q ∙ append_assoc (joined t path) (path t ++ rest) pad
        ∙ ap (λ (r : List ℕ). joined t path ++ r) (append_assoc (path t) rest pad) in
        ap (λ (r : List ℕ). get_or r (sum (take t lengths) + place) 0) all
        ∙ ap (λ (m : ℕ). get_or (joined t path ++ (path t ++ (rest ++ pad))) (m + place) 0) e
        ∙ get_or-append-add (joined t path) (path t ++ (rest ++ pad)) place 0
        ∙ get_or-append (path t) (rest ++ pad) 0 place i
        ∙ within_same (path t) place 0 no_transition i
