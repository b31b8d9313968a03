-- What the reader's passes work out: a visit changes at most one figure, so after n visits each figure is the test or the search over the
-- records below n. Assumes nothing.
use Rattle.std.proofs.Common.{◌≡◌, refl, sym, ap, ◌∙◌, subst, inl, inr, true, false, List, ℕ, ◌+◌, ◌<◌, arith, eqb, get_or, set, length-set, ext_get_or, get_or-set_same, get_or-set_other, eqb-true, eq-eqb, ne_eqb}
use Rattle.std.proofs.Math.Option.{Option, none, some}
use borrow.Author.Tests.{eqb-false}
use Rattle.rules.specs.Fold.{first_below, tabulate}
use Rattle.rules.specs.Plan.{Plan, state_count, no_state, owner, is_state_of}
use Rattle.rules.proofs.Tests.{look}
use Rattle.rules.proofs.Folds.{first_found, first_more_none, first_more_here, first_stays, length-tabulate_lem, get_d_tabulate}
use Rattle.plan.specs.Passes.{slots, state_slots, first_among, first_marks}
use Rattle.plan.proofs.Hosting.{within}

module _ {A : Type 0} (n : ℕ) (f g : ℕ → A) where
  pub figures_same : ((i : ℕ) → i < n → f i ≡ g i) → tabulate n f ≡ tabulate n g
  figures_same h =
      ext_get_or (f 0) (tabulate n f) (tabulate n g) (length-tabulate_lem n f ∙ sym (length-tabulate_lem n g))
      (λ i l.
      let k : i < n = rw (length-tabulate_lem n f) at l in
      get_d_tabulate n i f (f 0) k ∙ h i k ∙ sym (get_d_tabulate n i g (f 0) k))

  -- one figure set
  pub figures_set : (k : ℕ) (v : A) → k < n → v ≡ g k → ((i : ℕ) → i < n → (i ≡ k → ⊥) → f i ≡ g i) → set (tabulate n f) k v ≡ tabulate n g
  figures_set k v lk e h =
      ext_get_or (f 0) (set (tabulate n f) k v) (tabulate n g)
      (length-set (tabulate n f) k v ∙ length-tabulate_lem n f ∙ sym (length-tabulate_lem n g))
      (λ i l.
      let j : i < n = rw (length-set (tabulate n f) k v, length-tabulate_lem n f) at l in
      go i j)
    where
      go : (i : ℕ) → i < n → get_or (set (tabulate n f) k v) i (f 0) ≡ get_or (tabulate n g) i (f 0)
      go i j =
          elim (look (eqb i k)) [
            | inl q ↦
                let z = eqb-true i k q in
                subst (λ x. get_or (set (tabulate n f) k v) x (f 0) ≡ get_or (tabulate n g) x (f 0)) (sym z)
                (get_or-set_same (tabulate n f) k v (f 0) (rw (length-tabulate_lem n f) lk) ∙ e ∙ sym (get_d_tabulate n k g (f 0) lk))
            | inr q ↦
                get_or-set_other (tabulate n f) k i v (f 0) (eqb-false i k q)
                ∙ get_d_tabulate n i f (f 0) j ∙ h i j (eqb-false i k q) ∙ sym (get_d_tabulate n i g (f 0) j)
          ]

not_none : (i s : ℕ) → i < s → s < state_slots → i ≡ no_state → ⊥
unfolding no_state
not_none i s l m e = omega arith

module _ (p : Plan) where
  -- First states. A track's first state stays its first
  among_met : (s t i : ℕ) → first_below s (is_state_of p t) ≡ some i → first_among p s t ≡ first_among p (s + 1) t
  unfolding first_among
  among_met s t i e = rw (e, first_stays (s + 1) s (is_state_of p t) i e (omega arith), first_among)

  among_other : (s t : ℕ) → is_state_of p t s ≡ false → first_among p s t ≡ first_among p (s + 1) t
  unfolding first_among
  among_other s t h = go (first_below s (is_state_of p t)) refl
    where
      go : (o : Option ℕ) → first_below s (is_state_of p t) ≡ o → first_among p s t ≡ first_among p (s + 1) t
      go none e = rw (e, first_more_none s (is_state_of p t) e h, first_among)
      go (some i) e = among_met s t i e

  among_kept : (s t : ℕ) → (first_among p s t ≡ no_state → ⊥) → first_among p s t ≡ first_among p (s + 1) t
  unfolding first_among
  among_kept s t h = go (first_below s (is_state_of p t)) refl
    where
      go : (o : Option ℕ) → first_below s (is_state_of p t) ≡ o → first_among p s t ≡ first_among p (s + 1) t
      go none e = absurd (h (rw (e, first_among)))
      go (some i) e = among_met s t i e

  among_here : (s t : ℕ) → s < state_slots → first_among p s t ≡ no_state → is_state_of p t s ≡ true → s ≡ first_among p (s + 1) t
  unfolding first_among
  among_here s t l n h = go (first_below s (is_state_of p t)) refl
    where
      go : (o : Option ℕ) → first_below s (is_state_of p t) ≡ o → s ≡ first_among p (s + 1) t
      go none e = rw (first_more_here s (is_state_of p t) e h, first_among)
      go (some i) e =
          let q : i ≡ no_state = rw (e, first_among) at n in
          absurd (not_none i s (first_found s (is_state_of p t) i e).0 l q)

  -- a state's visit
  module _ (s t : ℕ) (ms : List ℕ) (l : s < state_count p) (lt : t < slots) (e : ms ≡ first_marks p s) (o : t ≡ owner p s) where
    figure : get_or ms t 0 ≡ first_among p s t
    unfolding first_marks
    figure = ap (λ v. get_or v t 0) e ∙ get_d_tabulate slots t (first_among p s) 0 lt

    others : (u : ℕ) → u < slots → (u ≡ t → ⊥) → first_among p s u ≡ first_among p (s + 1) u
    others u k n = among_other s u (within p u s l ∙ ne_eqb (owner p s) u (λ q. n (sym (o ∙ q))))

    pub first_kept : (get_or ms t 0 ≡ no_state → ⊥) → ms ≡ first_marks p (s + 1)
    unfolding first_marks
    first_kept n =
        e
        ∙ figures_same slots (first_among p s) (first_among p (s + 1))
        (λ u k.
        elim (look (eqb u t)) [
          | inl q ↦ subst (λ v. first_among p s v ≡ first_among p (s + 1) v) (sym (eqb-true u t q)) (among_kept s t (λ z. n (figure ∙ z)))
          | inr q ↦ others u k (eqb-false u t q)
        ])

    pub first_set : s < state_slots → get_or ms t 0 ≡ no_state → set ms t s ≡ first_marks p (s + 1)
    unfolding first_marks
    first_set m n =
        ap (λ v. set v t s) e
        ∙ figures_set slots (first_among p s) (first_among p (s + 1)) t s lt
        (among_here s t m (sym figure ∙ n) (within p t s l ∙ eq-eqb (owner p s) t (sym o))) others
