-- Scopes are nested where abandoning starts: on a live ledger, after turning, and after a firing. What a firing opens it opens as a whole
-- and below hosts that enter or wake; what was open before has its host as it was, since a track that may be fired has no open scope.
-- Assumes nothing.
use Rattle.std.proofs.Common.{◌≡◌, sym, ap, ◌∙◌, subst, ◌⊎◌, inl, inr, ⊎_elim, Bool, true, false, ℕ, eqb, eqb-true}
use Rattle.std.proofs.Math.Option.{Option, none, some}
use borrow.Author.Tests.{eqb-false}
use Rattle.rules.specs.Plan.{Plan, host, owner, first_state, is_hosted_by}
use Rattle.rules.specs.Rights.{signal_right, is_permitted}
use Rattle.rules.specs.Ledger.{Configuration, Ledger, is_awake}
use Rattle.rules.specs.Opening.{fresh, wakes}
use Rattle.rules.specs.Signal.{turned}
use Rattle.rules.specs.Fire.{removed, deviates_to, fired}
use Rattle.rules.proofs.Tests.{look, look_option, clash, refuted, and_holds}
use Rattle.rules.proofs.Acceptance.{Accepted}
use Rattle.rules.proofs.Scopes.{host_by, free_at}
use Rattle.rules.proofs.Opening.{wakes_together, wakes_entered, wakes_woken, enter_to, enter_woken, enter_kept}
use Rattle.rules.proofs.Abandoning.{undoing_awake}
use Rattle.rules.proofs.Soundness.{Live}
use Rattle.withdrawal.specs.Scopes.{Nested}
use Rattle.withdrawal.proofs.SignalLaws.{turned_awake, turned_state}
use Rattle.withdrawal.proofs.FireLaws.{Fires, to_other, removed_other, woken_asleep}

module _ (p : Plan) (l : Ledger) (live : Live p l) where
  pub nested_turned : (society : ℕ) → Nested p (turned p society l)
  unfolding turned
  nested_turned society =
      let may : ℕ → Bool = is_permitted p signal_right society in
      record {
        whole = λ s t u e f a. turned_awake (may u) (l u) ∙ live.whole s t u e f (sym (turned_awake (may t) (l t)) ∙ a);
        hosting = λ t h e a.
            let b = sym (turned_awake (may t) (l t)) ∙ a in
            let (s, m) = live.up t h e b in
            (turned_state (may (owner p h)) (l (owner p h)) ∙ s, turned_awake (may (owner p h)) (l (owner p h)) ∙ ap is_awake m ∙ b);
      }

  module _ (ok : Accepted p) (t : ℕ) (may : Fires p l t) where
    abbrev to : ℕ → Option ℕ
    to = deviates_to l t

    removed_awake : (u : ℕ) → is_awake (removed l t u).mode ≡ is_awake (l u).mode
    unfolding removed
    removed_awake u = ⊎_elim (λ e. rw e) (λ e. rw e) (look (eqb u t))

    -- a track that enters, one that wakes, and any other
    Awake : ℕ → Type 0
    Awake u = is_awake (fired p l t u).mode ≡ true

    enters : (u s : ℕ) → to u ≡ some s → ((fired p l t u).state ≡ s) × Awake u
    unfolding fired is_awake Awake
    enters u s e =
        let q = enter_to p ok to (removed l t) u s e in
        (ap (λ (x : Configuration). x.state) q, ap (λ (x : Configuration). is_awake x.mode) q)

    woken : (u : ℕ) → to u ≡ none → wakes p to u ≡ true → ((fired p l t u).state ≡ first_state p u) × Awake u
    unfolding fired fresh is_awake Awake
    woken u e w =
        let q = enter_woken p ok to (removed l t) u e w in
        (ap (λ (x : Configuration). x.state) q, ap (λ (x : Configuration). is_awake x.mode) q)

    stays : (u : ℕ) → to u ≡ none → wakes p to u ≡ false → fired p l t u ≡ removed l t u
    unfolding fired
    stays u e w = enter_kept p ok to (removed l t) u e w

    -- awake afterwards: it wakes, or was awake
    was : (u : ℕ) → Awake u → (wakes p to u ≡ true) ⊎ (is_awake (l u).mode ≡ true)
    unfolding Awake
    was u a =
        elim (look (wakes p to u)) [
          | inl w ↦ inl w
          | inr w ↦
              inr
              (elim (look (eqb u t)) [
                | inl e ↦ subst (λ v. is_awake (l v).mode ≡ true) (sym (eqb-true u t e)) (undoing_awake (l t).mode may.undoing)
                | inr e ↦
                    let d = to_other p l t u (eqb-false u t e) in
                    sym (removed_awake u) ∙ subst (λ (x : Configuration). is_awake x.mode ≡ true) (stays u d w) a
              ])
        ]

    is_woken : (u : ℕ) → wakes p to u ≡ true → Awake u
    is_woken u w = elim (look_option (to u)) [ inl e ↦ (woken u e w).1 | inr e ↦ (enters u e.0 e.1).1 ]

    is_kept : (u : ℕ) → is_awake (l u).mode ≡ true → Awake u
    unfolding Awake
    is_kept u a =
        elim (look (wakes p to u)) [
          | inl w ↦ is_woken u w
          | inr w ↦
              elim (look_option (to u)) [
                | inr e ↦ (enters u e.0 e.1).1
                | inl e ↦ subst (λ (x : Configuration). is_awake x.mode ≡ true) (sym (stays u e w)) (removed_awake u ∙ a)
              ]
        ]

    under_woken : (u h : ℕ) → host p u ≡ some h → wakes p to u ≡ true → ((fired p l t (owner p h)).state ≡ h) × Awake (owner p h)
    under_woken u h e w =
        elim (look_option (to (owner p h))) [
          | inr q ↦
              let s = q.0 in
              let (x, y) = enters (owner p h) s q.1 in
              (x ∙ sym (eqb-true h s (sym (wakes_entered p ok to u h s e q.1) ∙ w)), y)
          | inl q ↦
              let (a, b) = and_holds (wakes p to (owner p h)) (eqb h (first_state p (owner p h))) (sym (wakes_woken p ok to u h e q) ∙ w) in
              let (x, y) = woken (owner p h) q a in
              (x ∙ sym (eqb-true h (first_state p (owner p h)) b), y)
        ]

    under_kept : (u h : ℕ) → host p u ≡ some h → is_awake (l u).mode ≡ true → ((fired p l t (owner p h)).state ≡ h) × Awake (owner p h)
    unfolding Awake
    under_kept u h e a =
        let (s, m) = live.up u h e a in
        let b : is_awake (l (owner p h)).mode ≡ true = ap is_awake m ∙ a in
        let d : owner p h ≡ t → ⊥ = λ z. clash a (free_at p l t u may.free (ok.hosted u h e) (subst (λ v. is_hosted_by p v u ≡ true) z (host_by p u h e))) in
        let w : wakes p to (owner p h) ≡ false = refuted (wakes p to (owner p h)) (λ w. clash b (woken_asleep p ok l live t may (owner p h) w)) in
        let q = stays (owner p h) (to_other p l t (owner p h) d) w ∙ removed_other p l t (owner p h) d in
        (ap (λ (x : Configuration). x.state) q ∙ s, ap (λ (x : Configuration). is_awake x.mode) q ∙ b)

    pub nested_fired : Nested p (fired p l t)
    unfolding Awake
    nested_fired =
        record {
          whole = λ s u v e f a.
              ⊎_elim (λ w. is_woken v (wakes_together p ok to v u s f e ∙ w)) (λ b. is_kept v (live.whole s u v e f b)) (was u a);
          hosting = λ u h e a. ⊎_elim (λ w. under_woken u h e w) (λ b. under_kept u h e b) (was u a);
        }
