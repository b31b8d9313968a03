-- A firing keeps a ledger nested: it removes an entry, and a track that deviates is a root without an open scope that enters a state of
-- its own. Assumes nothing.
use mathlib.Core.Path.{◌≡◌, refl, sym, ap, ◌∙◌, subst}
use mathlib.Core.Logic.{inl, inr}
use mathlib.Core.Bool.{true, false}
use mathlib.Core.Option.{none, some}
use Prim.Native.Nat.{ℕ}
use lib.Dec.{eqb}
use borrow.Author.Tests.{eqb-true, eq-eqb}
use Rattle.rules.specs.Plan.{Plan, optional, host, owner, is_state_of}
use Rattle.rules.specs.Ledger.{Ledger, is_awake}
use Rattle.rules.specs.Scope.{has_open_scope}
use Rattle.rules.specs.Opening.{fresh, enter}
use Rattle.rules.specs.Fire.{newest, older, removed, deviates_to, fired}
use Rattle.rules.proofs.Tests.{look, look_option, clash, none-some}
use Rattle.rules.proofs.Acceptance.{Accepted}
use Rattle.theory.proofs.Nesting.{Awake, Sleeps, Nested, busy_same}
use Rattle.theory.proofs.EnteringNested.{Enterable, kept, kept_busy, new_fresh, enter_nested}
use Rattle.theory.proofs.Entries.{Good, deviates}

module _ (p : Plan) (l : Ledger) (t : ℕ) where
  pub fired_is : fired p l t ≡ enter p (deviates_to l t) (removed l t)
  unfolding fired
  fired_is = refl

  pub removed_mode : (u : ℕ) → (removed l t u).mode ≡ (l u).mode
  unfolding removed
  removed_mode u = elim (look (eqb u t)) [ inl e ↦ rw e | inr e ↦ rw e ]

  pub removed_state : (u : ℕ) → (removed l t u).state ≡ (l u).state
  unfolding removed
  removed_state u = elim (look (eqb u t)) [ inl e ↦ rw e | inr e ↦ rw e ]

  pub removed_here : (u : ℕ) → eqb u t ≡ true → (removed l t u).held ≡ older (l u).held
  unfolding removed
  removed_here u e = rw e

  pub removed_other : (u : ℕ) → eqb u t ≡ false → removed l t u ≡ l u
  unfolding removed
  removed_other u e = rw e

  pub removed_awake : (u : ℕ) → is_awake (removed l t u).mode ≡ is_awake (l u).mode
  removed_awake u = ap is_awake (removed_mode u)

  -- the one that deviates is the one fired
  pub deviates_known : (u d : ℕ) → deviates_to l t u ≡ some d → (t ≡ u) × (optional (newest (l t).held).deviation ≡ some d)
  unfolding deviates_to
  deviates_known u d h =
      elim (look (eqb u t)) [
        | inl e ↦ (sym (eqb-true u t e), rw e at h)
        | inr e ↦ let q : none ≡ some d = rw e at h in none-some refl q
      ]

  pub deviates_here : deviates_to l t t ≡ optional (newest (l t).held).deviation
  unfolding deviates_to
  deviates_here = rw (eq-eqb t t refl)

  pub deviates_not : optional (newest (l t).held).deviation ≡ none → (u : ℕ) → deviates_to l t u ≡ none
  deviates_not h u =
      elim (look_option (deviates_to l t u)) [ inl e ↦ e | inr e ↦ none-some h (deviates_known u e.0 e.1).1 ]

  module _ (ok : Accepted p) (n : Nested p l) (g : Good p t (l t).held) (free : has_open_scope p l t ≡ false) (a : Awake l t) where
    pub deviates_hosted : (u h : ℕ) → host p u ≡ some h → deviates_to l t u ≡ none
    deviates_hosted u h e =
        elim (look_option (deviates_to l t u)) [
          | inl k ↦ k
          | inr k ↦
              let (q, d) = deviates_known u k.0 k.1 in
              none-some (subst (λ x. host p x ≡ none) q (deviates p t k.0 (l t).held g d).0) e
        ]

    pub removed_nested : Nested p (removed l t)
    removed_nested =
        record {
          below = λ u b. n.below u (sym (removed_awake u) ∙ b);
          own = λ u b. ap (is_state_of p u) (removed_state u) ∙ n.own u (sym (removed_awake u) ∙ b);
          hosted =
              λ u h b f.
              let v = n.hosted u h (sym (removed_awake u) ∙ b) f in
              (removed_state (owner p h) ∙ v.0, removed_mode (owner p h) ∙ v.1 ∙ sym (removed_mode u));
          whole = λ u v h e f. removed_awake u ∙ n.whole u v h e f ∙ sym (removed_awake v);
          blank =
              λ u b.
              let b' = sym (removed_awake u) ∙ b in
              elim (look (eqb u t)) [
                | inl e ↦ clash (subst (λ x. Awake l x) (sym (eqb-true u t e)) a) b'
                | inr e ↦ removed_other u e ∙ n.blank u b'
              ];
        }

    pub deviates_free : Enterable p (removed l t) (deviates_to l t)
    deviates_free =
        record {
          free =
              λ u d h.
              busy_same p (removed l t) l removed_awake u
              ∙ subst (λ x. has_open_scope p l x ≡ false) (deviates_known u d h).0 free;
          own =
              λ u d h.
              let (q, k) = deviates_known u d h in
              subst (λ x. is_state_of p x d ≡ true) q (deviates p t d (l t).held g k).1;
          forward = λ u d h k e. none-some (deviates_hosted u h e) k;
        }

    pub fired_nested : Nested p (fired p l t)
    fired_nested = subst (Nested p) (sym fired_is) (enter_nested p ok (removed l t) (deviates_to l t) removed_nested deviates_free)

    -- an awake track that does not deviate is left as the removal left it
    pub fired_still : (u : ℕ) → Awake l u → deviates_to l t u ≡ none → fired p l t u ≡ removed l t u
    fired_still u b e =
        ap (λ m. m u) fired_is
        ∙ kept p ok (removed l t) (deviates_to l t) removed_nested deviates_free u (removed_awake u ∙ b) e

    pub fired_busy : (u : ℕ) → Awake l u → has_open_scope p l u ≡ true → fired p l t u ≡ removed l t u
    fired_busy u b o =
        ap (λ m. m u) fired_is
        ∙ kept_busy p ok (removed l t) (deviates_to l t) removed_nested deviates_free u (removed_awake u ∙ b)
        (busy_same p (removed l t) l removed_awake u ∙ o)

    -- what was asleep and is awake is fresh
    pub fired_new : (u : ℕ) → Sleeps l u → Awake (fired p l t) u → fired p l t u ≡ fresh p u
    fired_new u b c =
        let e : deviates_to l t u ≡ none =
        elim (look_option (deviates_to l t u)) [
          | inl e ↦ e
          | inr e ↦ clash (subst (λ x. Awake l x) (deviates_known u e.0 e.1).0 a) b
        ] in
        ap (λ m. m u) fired_is
        ∙ new_fresh p ok (removed l t) (deviates_to l t) removed_nested deviates_free u e (removed_awake u ∙ b)
        (ap (λ m. is_awake (m u).mode) (sym fired_is) ∙ c)
