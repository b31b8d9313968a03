-- Entering states, and the opening of their scopes, keeps a ledger nested: who enters has no open scope, so what wakes was asleep, and
-- wakes whole scope by whole scope under a host that just went forward into the hosting state. Assumes nothing.
use mathlib.Core.Path.{◌≡◌, refl, sym, ap, ap₂, ◌∙◌, subst}
use mathlib.Core.Logic.{◌⊎◌, inl, inr}
use mathlib.Core.Bool.{true, false, ◌||◌, or-false}
use mathlib.Core.List.{[]}
use mathlib.Core.Option.{Option, none, some}
use Prim.Native.Nat.{ℕ, ◌<◌}
use lib.Dec.{eqb}
use borrow.Author.Tests.{eqb-true}
use Rattle.rules.specs.declared.Mode.TheVariants.{Forward}
use Rattle.rules.specs.Plan.{Plan, track_count, host, owner, is_state_of, first_state}
use Rattle.rules.specs.Ledger.{Configuration, Ledger, is_awake, sleeping}
use Rattle.rules.specs.Scope.{has_open_scope}
use Rattle.rules.specs.Opening.{fresh, wakes, enter}
use Rattle.rules.proofs.Tests.{look, look_option, clash, none-some, and_holds, or_right, strong}
use Rattle.rules.proofs.Modes.{forward_awake, is_forward_lem}
use Rattle.rules.proofs.Acceptance.{Accepted}
use Rattle.rules.proofs.Opening.{wakes_root, wakes_together, wakes_entered, wakes_woken, enter_to, enter_woken, enter_kept}
use Rattle.theory.proofs.Nesting.{Awake, Sleeps, Nested, own_below, host_awake, host_busy}

-- a track goes forward into a state
abbrev pub arrived : ℕ → Configuration → Configuration
arrived s c = record { mode = Forward; state = s; held = c.held }

pub arrived_awake : (s : ℕ) (c : Configuration) → is_awake (arrived s c).mode ≡ true
unfolding is_awake
arrived_awake s c = refl

pub fresh_awake : (p : Plan) (t : ℕ) → is_awake (fresh p t).mode ≡ true
unfolding is_awake fresh
fresh_awake p t = refl

pub fresh_mode : (p : Plan) (t : ℕ) → (fresh p t).mode ≡ Forward
unfolding fresh
fresh_mode p t = refl

pub fresh_state : (p : Plan) (t : ℕ) → (fresh p t).state ≡ first_state p t
unfolding fresh
fresh_state p t = refl

pub fresh_held : (p : Plan) (t : ℕ) → (fresh p t).held ≡ []
unfolding fresh
fresh_held p t = refl

-- who may enter what: free tracks a state of their own, hosted ones only if they are forward already
pub record Enterable (p : Plan) (l : Ledger) (to : ℕ → Option ℕ) : Type 0 where
  pub free : (t s : ℕ) → to t ≡ some s → has_open_scope p l t ≡ false
  pub own : (t s : ℕ) → to t ≡ some s → is_state_of p t s ≡ true
  pub forward : (t s h : ℕ) → to t ≡ some s → host p t ≡ some h → (l t).mode ≡ Forward

module _ (p : Plan) (ok : Accepted p) (l : Ledger) (to : ℕ → Option ℕ) where
  -- what becomes of a track: it enters a state, wakes, or stays as it is
  pub data Fate (t : ℕ) : Type 0 where
    enters : (s : ℕ) → to t ≡ some s → enter p to l t ≡ arrived s (l t) → Fate t
    wakens : to t ≡ none → wakes p to t ≡ true → enter p to l t ≡ fresh p t → Fate t
    stays : to t ≡ none → wakes p to t ≡ false → enter p to l t ≡ l t → Fate t

  pub fate : (t : ℕ) → Fate t
  fate t =
      elim (look_option (to t)) [
        | inr e ↦ enters e.0 e.1 (enter_to p ok to l t e.0 e.1)
        | inl e ↦
            elim (look (wakes p to t)) [
              | inl w ↦ wakens e w (enter_woken p ok to l t e w)
              | inr w ↦ stays e w (enter_kept p ok to l t e w)
            ]
      ]

  -- what wakes has a host whose track entered it, or woke in it
  pub woken_host : (t : ℕ) → wakes p to t ≡ true
      → (h : ℕ) × (host p t ≡ some h)
      × ((to (owner p h) ≡ some h) ⊎ ((to (owner p h) ≡ none) × (wakes p to (owner p h) ≡ true) × (h ≡ first_state p (owner p h))))
  woken_host t k =
      elim (look_option (host p t)) [
        | inl e ↦ clash k (wakes_root p ok to t e)
        | inr e ↦ (
          e.0,
          e.1,
          elim (look_option (to (owner p e.0))) [
            | inr d ↦ inl (d.1 ∙ ap some (sym (eqb-true e.0 d.0 (sym (wakes_entered p ok to t e.0 d.0 e.1 d.1) ∙ k))))
            | inl d ↦
                let (a, b) = and_holds (wakes p to (owner p e.0)) (eqb e.0 (first_state p (owner p e.0))) (sym (wakes_woken p ok to t e.0 e.1 d) ∙ k) in
                inr (d, a, eqb-true e.0 (first_state p (owner p e.0)) b)
          ],
        )
      ]

  module _ (n : Nested p l) (g : Enterable p l to) where
    pub woken_asleep : (t : ℕ) → wakes p to t ≡ true → Sleeps l t
    woken_asleep =
        strong (λ t. wakes p to t ≡ true → Sleeps l t)
        (λ t ih k.
        let (h, e, r) = woken_host t k in
        elim (look (is_awake (l t).mode)) [
          | inr a ↦ a
          | inl a ↦
              elim r [
                | inl q ↦ clash (host_busy p ok l n t h a e) (g.free (owner p h) h q)
                | inr q ↦ clash (host_awake p ok l n t h a e) (ih (owner p h) (ok.lower t h e) q.1)
              ]
        ])

    -- an awake track that enters nothing, as one with an open scope does, is left as it is
    pub kept : (t : ℕ) → Awake l t → to t ≡ none → enter p to l t ≡ l t
    kept t a e =
        elim (look (wakes p to t)) [ inl w ↦ clash a (woken_asleep t w) | inr w ↦ enter_kept p ok to l t e w ]

    pub kept_busy : (t : ℕ) → Awake l t → has_open_scope p l t ≡ true → enter p to l t ≡ l t
    kept_busy t a b =
        elim (look_option (to t)) [ inl e ↦ kept t a e | inr e ↦ clash b (g.free t e.0 e.1) ]

    pub kept_host : (t h : ℕ) → Awake l t → host p t ≡ some h → enter p to l (owner p h) ≡ l (owner p h)
    kept_host t h a e = kept_busy (owner p h) (host_awake p ok l n t h a e) (host_busy p ok l n t h a e)

    -- what was asleep and is awake is fresh, if it is hosted
    pub new_fresh : (t : ℕ) → to t ≡ none → Sleeps l t → Awake (enter p to l) t → enter p to l t ≡ fresh p t
    new_fresh t e a b = go (fate t)
      where
        go : Fate t → enter p to l t ≡ fresh p t
        go (enters s f q) = none-some e f
        go (wakens f w q) = q
        go (stays f w q) = clash (ap (λ c. is_awake c.mode) (sym q) ∙ b) a

    -- a hosted track is awake if it was or wakes
    pub awake_or : (t h : ℕ) → host p t ≡ some h → is_awake (enter p to l t).mode ≡ (is_awake (l t).mode || wakes p to t)
    awake_or t h e = go (fate t)
      where
        go : Fate t → is_awake (enter p to l t).mode ≡ (is_awake (l t).mode || wakes p to t)
        go (enters s f q) =
            ap (λ c. is_awake c.mode) q ∙ arrived_awake s (l t)
            ∙ sym (ap (λ b. b || wakes p to t) (forward_awake (l t).mode (is_forward_lem (l t).mode (g.forward t s h f e))))
        go (wakens f w q) = ap (λ c. is_awake c.mode) q ∙ fresh_awake p t ∙ sym (or_right (is_awake (l t).mode) (wakes p to t) w)
        go (stays f w q) = ap (λ c. is_awake c.mode) q ∙ sym (rw (w, or-false (is_awake (l t).mode)))

    enter_below : (t : ℕ) → Awake (enter p to l) t → Fate t → t < track_count p
    enter_below t a (enters s f q) = own_below p ok t s (g.own t s f)
    enter_below t a (wakens f w q) = let (h, e, r) = woken_host t w in ok.hosted t h e
    enter_below t a (stays f w q) = n.below t (ap (λ c. is_awake c.mode) (sym q) ∙ a)

    enter_own : (t : ℕ) → Awake (enter p to l) t → Fate t → is_state_of p t (enter p to l t).state ≡ true
    enter_own t a (enters s f q) = ap (λ c. is_state_of p t c.state) q ∙ g.own t s f
    enter_own t a (wakens f w q) =
        let (h, e, r) = woken_host t w in
        ap (λ c. is_state_of p t c.state) q ∙ ap (is_state_of p t) (fresh_state p t) ∙ ok.first_own t (ok.hosted t h e)
    enter_own t a (stays f w q) = ap (λ c. is_state_of p t c.state) q ∙ n.own t (ap (λ c. is_awake c.mode) (sym q) ∙ a)

    enter_hosted : (t h : ℕ) → Awake (enter p to l) t → host p t ≡ some h → Fate t
        → ((enter p to l (owner p h)).state ≡ h) × ((enter p to l (owner p h)).mode ≡ (enter p to l t).mode)
    enter_hosted t h a e (enters s f q) =
        let m = g.forward t s h f e in
        let a' = forward_awake (l t).mode (is_forward_lem (l t).mode m) in
        let k = kept_host t h a' e in
        let u = n.hosted t h a' e in
        (ap (λ c. c.state) k ∙ u.0, ap (λ c. c.mode) k ∙ u.1 ∙ m ∙ sym (ap (λ c. c.mode) q))
    enter_hosted t h a e (wakens f w q) =
        let (h', e', r) = woken_host t w in
        let same : h' ≡ h = cc in
        let mine : (enter p to l t).mode ≡ Forward = ap (λ c. c.mode) q ∙ fresh_mode p t in
        elim r [
          | inl x ↦
              let k = enter_to p ok to l (owner p h) h (subst (λ y. to (owner p y) ≡ some y) same x) in
              (ap (λ c. c.state) k, ap (λ c. c.mode) k ∙ sym mine)
          | inr x ↦
              let y = subst (λ y. (to (owner p y) ≡ none) × (wakes p to (owner p y) ≡ true) × (y ≡ first_state p (owner p y))) same x in
              let k = enter_woken p ok to l (owner p h) y.0 y.1 in
              (ap (λ c. c.state) k ∙ fresh_state p (owner p h) ∙ sym y.2, ap (λ c. c.mode) k ∙ fresh_mode p (owner p h) ∙ sym mine)
        ]
    enter_hosted t h a e (stays f w q) =
        let a' = ap (λ c. is_awake c.mode) (sym q) ∙ a in
        let k = kept_host t h a' e in
        let u = n.hosted t h a' e in
        (ap (λ c. c.state) k ∙ u.0, ap (λ c. c.mode) k ∙ u.1 ∙ sym (ap (λ c. c.mode) q))

    enter_blank : (t : ℕ) → Sleeps (enter p to l) t → Fate t → enter p to l t ≡ sleeping
    enter_blank t a (enters s f q) = clash (ap (λ c. is_awake c.mode) q ∙ arrived_awake s (l t)) a
    enter_blank t a (wakens f w q) = clash (ap (λ c. is_awake c.mode) q ∙ fresh_awake p t) a
    enter_blank t a (stays f w q) = q ∙ n.blank t (ap (λ c. is_awake c.mode) (sym q) ∙ a)

    pub enter_nested : Nested p (enter p to l)
    enter_nested =
        record {
          below = λ t a. enter_below t a (fate t);
          own = λ t a. enter_own t a (fate t);
          hosted = λ t h a e. enter_hosted t h a e (fate t);
          whole =
              λ t u h e f.
              awake_or t h e ∙ ap₂ (λ a b. a || b) (n.whole t u h e f) (wakes_together p ok to t u h e f) ∙ sym (awake_or u h f);
          blank = λ t a. enter_blank t a (fate t);
        }
