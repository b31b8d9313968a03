-- A signal's turning and abandoning keep a ledger nested: turning changes modes alone, a track's and its host's alike, and a track that
-- abandoning puts to sleep is spent, so that all that is awake below it goes to sleep with it. Assumes nothing.
use mathlib.Core.Path.{◌≡◌, sym, ap, ◌∙◌}
use mathlib.Core.Logic.{inl, inr}
use mathlib.Core.Bool.{true, false}
use mathlib.Core.Option.{none, some}
use Prim.Native.Nat.{ℕ}
use Rattle.rules.specs.Plan.{Plan, host, owner, is_state_of, every_in}
use Rattle.rules.specs.Ledger.{Ledger, is_awake}
use Rattle.rules.specs.Scope.{is_open}
use Rattle.rules.specs.Signal.{is_spent, is_left, is_abandoned, abandoned}
use Rattle.rules.proofs.Tests.{look, clash, refuted, and_both}
use Rattle.rules.proofs.Acceptance.{Accepted}
use Rattle.rules.proofs.Scopes.{in_host, host_by, every_in_of}
use Rattle.rules.proofs.Abandoning.{spent_parts, abandoned_host, abandoned_root, abandoned_spent, left_asleep, left_kept, awake_kept}
use Rattle.theory.specs.Seams.{Seams, turned}
use Rattle.theory.proofs.Nesting.{Awake, Sleeps, Nested, host_awake, scope_open}
use Rattle.theory.proofs.SoundParts.{sleeping_asleep}
use Rattle.theory.proofs.Laws.{Laws}
use Rattle.theory.proofs.Turning.{turned_awake, turned_state, turned_blank, turned_alike}

module _ {σ : Seams} (ω : Laws σ) (p : Plan) (ok : Accepted p) (l : Ledger) (n : Nested p l) where
  pub turned_nested : (a : σ.Signal) → Nested p (turned σ p l a)
  turned_nested a =
      record {
        below = λ t w. n.below t (sym (turned_awake ω p l a t) ∙ w);
        own = λ t w. ap (is_state_of p t) (turned_state ω p l a t) ∙ n.own t (sym (turned_awake ω p l a t) ∙ w);
        hosted =
            λ t h w e.
            let u = n.hosted t h (sym (turned_awake ω p l a t) ∙ w) e in
            (turned_state ω p l a (owner p h) ∙ u.0, turned_alike ω p l a ok t h e u.1);
        whole = λ t u h e f. turned_awake ω p l a t ∙ n.whole t u h e f ∙ sym (turned_awake ω p l a u);
        blank = λ t w. turned_blank ω p l a t (n.blank t (sym (turned_awake ω p l a t) ∙ w));
      }

module _ (p : Plan) (ok : Accepted p) (l : Ledger) (n : Nested p l) where
  -- the tracks of a scope are abandoned together
  pub left_together : (t u h : ℕ) → host p t ≡ some h → host p u ≡ some h → is_abandoned p l t ≡ is_abandoned p l u
  left_together t u h e f = abandoned_host p ok l t h e ∙ sym (abandoned_host p ok l u h f)

  -- the host's track of an awake track that is not abandoned is not abandoned either
  pub left_host_stays : (t h : ℕ) → Awake l t → host p t ≡ some h → is_abandoned p l t ≡ false → is_abandoned p l (owner p h) ≡ false
  unfolding is_left
  left_host_stays t h a e k =
      refuted (is_abandoned p l (owner p h))
      (λ c.
      let b = n.below (owner p h) (host_awake p ok l n t h a e) in
      let s = spent_parts p ok l (owner p h) b (abandoned_spent p ok l (owner p h) c) in
      let all : every_in p h (is_spent p l) ≡ true =
      every_in_of p h (is_spent p l)
      (λ u d i.
      let f = in_host p h u i in
      s.hosted u d (host_by p u h f) (n.whole u t h f e ∙ a)) in
      clash (abandoned_host p ok l t h e ∙ and_both (is_open p l h) (every_in p h (is_spent p l)) (scope_open p ok l n t h a e) all) k)

  asleep_after : (t : ℕ) → is_abandoned p l t ≡ true → Sleeps (abandoned p l) t
  asleep_after t c = ap (λ k. is_awake k.mode) (left_asleep p ok l t c) ∙ sleeping_asleep

  awake_after : (t : ℕ) → is_abandoned p l t ≡ false → is_awake (abandoned p l t).mode ≡ is_awake (l t).mode
  awake_after t c = ap (λ k. is_awake k.mode) (left_kept p ok l t c)

  pub left_awake : (t : ℕ) → Awake (abandoned p l) t → (is_abandoned p l t ≡ false) × Awake l t
  left_awake t a = let (c, q) = awake_kept p ok l t a in (c, sym (awake_after t c) ∙ a)

  pub abandoned_nested : Nested p (abandoned p l)
  abandoned_nested =
      record {
        below = λ t a. n.below t (left_awake t a).1;
        own =
            λ t a.
            let (c, b) = left_awake t a in
            ap (λ k. is_state_of p t k.state) (left_kept p ok l t c) ∙ n.own t b;
        hosted =
            λ t h a e.
            let (c, b) = left_awake t a in
            let u = n.hosted t h b e in
            let q = left_kept p ok l (owner p h) (left_host_stays t h b e c) in
            (ap (λ k. k.state) q ∙ u.0, ap (λ k. k.mode) q ∙ u.1 ∙ sym (ap (λ k. k.mode) (left_kept p ok l t c)));
        whole =
            λ t u h e f.
            elim (look (is_abandoned p l t)) [
              | inl c ↦ asleep_after t c ∙ sym (asleep_after u (sym (left_together t u h e f) ∙ c))
              | inr c ↦ awake_after t c ∙ n.whole t u h e f ∙ sym (awake_after u (sym (left_together t u h e f) ∙ c))
            ];
        blank =
            λ t a.
            elim (look (is_abandoned p l t)) [
              | inl c ↦ left_asleep p ok l t c
              | inr c ↦ left_kept p ok l t c ∙ n.blank t (sym (awake_after t c) ∙ a)
            ];
      }

  -- a root stays as it is
  pub left_root : (t : ℕ) → host p t ≡ none → abandoned p l t ≡ l t
  left_root t e = left_kept p ok l t (abandoned_root p ok l t e)
