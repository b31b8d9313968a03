-- A nested ledger: what is awake stands in a state of its own, under a host that is awake in the hosting state and in the same mode; a
-- scope is awake as a whole or asleep as a whole; what sleeps is blank. Each fact about a track follows from that about its host's track,
-- whose number is lower. Assumes nothing.
use mathlib.Core.Path.{◌≡◌, refl, sym, ap, ◌∙◌, subst}
use mathlib.Core.Logic.{inl, inr}
use mathlib.Core.Bool.{true, false, ◌&&◌}
use mathlib.Core.Option.{none, some}
use Prim.Native.Nat.{ℕ, ◌<◌}
use lib.Dec.{eqb, ltb}
use borrow.Author.Tests.{eqb-true, ltb-true}
use Rattle.rules.specs.Plan.{Plan, track_count, state_count, host, owner, is_state_of, is_hosted_by, is_inside, is_above, root_of}
use Rattle.rules.specs.Ledger.{Ledger, is_awake, sleeping}
use Rattle.rules.specs.Scope.{is_open, has_open_scope}
use Rattle.rules.proofs.Tests.{look, look_option, clash, and_holds, strong}
use Rattle.rules.proofs.Folds.{some_same}
use Rattle.rules.proofs.Acceptance.{Accepted}
use Rattle.rules.proofs.Forest.{above_hosted, inside_hosted}
use Rattle.rules.proofs.Scopes.{some_in_same, open_at, open_find, busy_at}
use Rattle.rules.proofs.Roots.{root_self, root_up}

abbrev pub Awake : Ledger → ℕ → Type 0
Awake l t = is_awake (l t).mode ≡ true

abbrev pub Sleeps : Ledger → ℕ → Type 0
Sleeps l t = is_awake (l t).mode ≡ false

pub record Nested (p : Plan) (l : Ledger) : Type 0 where
  pub below : (t : ℕ) → Awake l t → t < track_count p
  pub own : (t : ℕ) → Awake l t → is_state_of p t (l t).state ≡ true
  pub hosted : (t h : ℕ) → Awake l t → host p t ≡ some h → ((l (owner p h)).state ≡ h) × ((l (owner p h)).mode ≡ (l t).mode)
  pub whole : (t u h : ℕ) → host p t ≡ some h → host p u ≡ some h → is_awake (l t).mode ≡ is_awake (l u).mode
  pub blank : (t : ℕ) → Sleeps l t → l t ≡ sleeping

-- a state of a track
pub state_of : (p : Plan) (t s : ℕ) → is_state_of p t s ≡ true → (s < state_count p) × (owner p s ≡ t)
unfolding is_state_of
state_of p t s h =
    let (a, b) = and_holds (ltb s (state_count p)) (eqb (owner p s) t) h in
    (ltb-true s (state_count p) a, eqb-true (owner p s) t b)

-- a track that has a state exists
pub own_below : (p : Plan) → Accepted p → (t s : ℕ) → is_state_of p t s ≡ true → t < track_count p
own_below p ok t s h = let (a, b) = state_of p t s h in subst (λ x. x < track_count p) b (ok.owned s a)

-- two ledgers with the same tracks awake have the same scopes open
module _ (p : Plan) (l m : Ledger) (same : (t : ℕ) → is_awake (l t).mode ≡ is_awake (m t).mode) where
  pub open_same : (s : ℕ) → is_open p l s ≡ is_open p m s
  unfolding is_open
  open_same s = some_in_same p s (λ t. is_awake (l t).mode) (λ t. is_awake (m t).mode) (λ t b i. same t)

  pub busy_same : (t : ℕ) → has_open_scope p l t ≡ has_open_scope p m t
  unfolding has_open_scope
  busy_same t =
      some_same (track_count p) (λ u. is_hosted_by p t u && is_awake (l u).mode) (λ u. is_hosted_by p t u && is_awake (m u).mode)
      (λ u b. ap (λ x. is_hosted_by p t u && x) (same u))

module _ (p : Plan) (ok : Accepted p) (l : Ledger) (n : Nested p l) where
  -- an awake track's host is awake, has its scope open
  pub host_awake : (t h : ℕ) → Awake l t → host p t ≡ some h → Awake l (owner p h)
  host_awake t h a e = ap is_awake (n.hosted t h a e).1 ∙ a

  pub host_busy : (t h : ℕ) → Awake l t → host p t ≡ some h → has_open_scope p l (owner p h) ≡ true
  host_busy t h a e = busy_at p l t h (n.below t a) e a

  pub scope_open : (t h : ℕ) → Awake l t → host p t ≡ some h → is_open p l h ≡ true
  scope_open t h a e = open_at p l h t (n.below t a) e a

  -- the host of an open scope
  pub open_host : (s : ℕ) → is_open p l s ≡ true
      → Awake l (owner p s) × (has_open_scope p l (owner p s) ≡ true) × ((l (owner p s)).state ≡ s)
  open_host s o =
      let (t, b, e, a) = open_find p l s o in (host_awake t s a e, host_busy t s a e, (n.hosted t s a e).0)

  -- below a track without an open scope all sleep
  pub free_below : (t : ℕ) → has_open_scope p l t ≡ false → (k : ℕ) → is_above p t k ≡ true → Sleeps l k
  free_below t f =
      strong (λ k. is_above p t k ≡ true → Sleeps l k)
      (λ k ih i.
      let (h, e, r) = above_hosted p ok t k i in
      elim (look (is_awake (l k).mode)) [
        | inr a ↦ a
        | inl a ↦
            elim r [
              | inl q ↦ clash (host_busy k h a e) (subst (λ x. has_open_scope p l x ≡ false) q f)
              | inr q ↦ clash (host_awake k h a e) (ih (owner p h) (ok.lower k h e) q)
            ]
      ])

  -- inside a scope that is not open all sleep
  pub shut_inside : (s : ℕ) → is_open p l s ≡ false → (t : ℕ) → is_inside p s t ≡ true → Sleeps l t
  shut_inside s f =
      strong (λ t. is_inside p s t ≡ true → Sleeps l t)
      (λ t ih i.
      let (h, e, r) = inside_hosted p ok s t i in
      elim (look (is_awake (l t).mode)) [
        | inr a ↦ a
        | inl a ↦
            elim r [
              | inl q ↦ clash (scope_open t h a e) (subst (λ x. is_open p l x ≡ false) (sym q) f)
              | inr q ↦ clash (host_awake t h a e) (ih (owner p h) (ok.lower t h e) q)
            ]
      ])

  -- inside a scope all that is awake is in its host's mode
  pub mode_inside : (s t : ℕ) → is_inside p s t ≡ true → Awake l t → (l (owner p s)).mode ≡ (l t).mode
  mode_inside s =
      strong (λ t. is_inside p s t ≡ true → Awake l t → (l (owner p s)).mode ≡ (l t).mode)
      (λ t ih i a.
      let (h, e, r) = inside_hosted p ok s t i in
      let m = (n.hosted t h a e).1 in
      elim r [
        | inl q ↦ ap (λ x. (l (owner p x)).mode) (sym q) ∙ m
        | inr q ↦ ih (owner p h) (ok.lower t h e) q (host_awake t h a e) ∙ m
      ])

  -- the root above an awake track is in its mode
  pub root_above : (t : ℕ) → Awake l t → (root_of p t < track_count p) × (host p (root_of p t) ≡ none) × ((l (root_of p t)).mode ≡ (l t).mode)
  root_above =
      strong (λ t. Awake l t → (root_of p t < track_count p) × (host p (root_of p t) ≡ none) × ((l (root_of p t)).mode ≡ (l t).mode))
      (λ t ih a.
      elim (look_option (host p t)) [
        | inl e ↦ rw (root_self p ok t e) (n.below t a, e, refl)
        | inr e ↦
            let (b, q, m) = ih (owner p e.0) (ok.lower t e.0 e.1) (host_awake t e.0 a e.1) in
            rw (root_up p ok t e.0 e.1) (b, q, m ∙ (n.hosted t e.0 a e.1).1)
      ])

  -- where no root has an open scope nothing hosted is awake
  pub hosted_asleep : ((t : ℕ) → t < track_count p → host p t ≡ none → has_open_scope p l t ≡ false) → (t h : ℕ) → host p t ≡ some h → Sleeps l t
  hosted_asleep free =
      strong (λ t. (h : ℕ) → host p t ≡ some h → Sleeps l t)
      (λ t ih h e.
      elim (look (is_awake (l t).mode)) [
        | inr a ↦ a
        | inl a ↦
            let b = host_awake t h a e in
            elim (look_option (host p (owner p h))) [
              | inl f ↦ clash (host_busy t h a e) (free (owner p h) (n.below (owner p h) b) f)
              | inr f ↦ clash b (ih (owner p h) (ok.lower t h e) f.0 f.1)
            ]
      ])
