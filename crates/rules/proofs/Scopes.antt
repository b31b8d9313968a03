-- Scopes, in facts: a track is in the scope of its host, and a test over a scope holds at each of its tracks. Assumes nothing.
use mathlib.Core.Path.{◌≡◌, refl, ap, ◌∙◌, subst}
use mathlib.Core.Bool.{Bool, true, false, not, ◌&&◌, ◌||◌}
use mathlib.Core.Option.{Option, none, some}
use Prim.Native.Nat.{ℕ, ◌<◌}
use lib.Dec.{eqb}
use borrow.Author.Tests.{eqb-true, eq-eqb}
use Rattle.rules.specs.Plan.{Plan, track_count, host, owner, is_in, is_hosted_by, is_root, every_in, some_in}
use Rattle.rules.specs.Ledger.{Ledger, is_awake}
use Rattle.rules.specs.Scope.{is_open, has_open_scope}
use Rattle.rules.proofs.Tests.{look, clash, and_holds, and_both, implies, implied}
use Rattle.rules.proofs.Folds.{every_at, every_of, every_same, some_at, some_find, some_same}

module _ (p : Plan) where
  -- in the scope of s: hosted by s
  pub in_host : (s t : ℕ) → is_in p s t ≡ true → host p t ≡ some s
  unfolding is_in
  in_host s t k = go (host p t) refl
    where
      go : (o : Option ℕ) → host p t ≡ o → host p t ≡ some s
      go none e = let q : ◌≡◌ {A = Bool} false true = rw (e, is_in) at k in clash q refl
      go (some h) e = let q : eqb h s ≡ true = rw (e, is_in) at k in e ∙ ap some (eqb-true h s q)

  pub host_in : (s t : ℕ) → host p t ≡ some s → is_in p s t ≡ true
  unfolding is_in
  host_in s t e = rw (e, is_in) (eq-eqb s s refl)

  -- hosted by the track u: hosted by a state of it
  pub by_host : (u t : ℕ) → is_hosted_by p u t ≡ true → (h : ℕ) × (host p t ≡ some h) × (owner p h ≡ u)
  unfolding is_hosted_by
  by_host u t k = go (host p t) refl
    where
      go : (o : Option ℕ) → host p t ≡ o → (h : ℕ) × (host p t ≡ some h) × (owner p h ≡ u)
      go none e = let q : ◌≡◌ {A = Bool} false true = rw (e, is_hosted_by) at k in clash q refl
      go (some h) e = let q : eqb (owner p h) u ≡ true = rw (e, is_hosted_by) at k in (h, e, eqb-true (owner p h) u q)

  pub host_by : (t h : ℕ) → host p t ≡ some h → is_hosted_by p (owner p h) t ≡ true
  unfolding is_hosted_by
  host_by t h e = rw (e, is_hosted_by) (eq-eqb (owner p h) (owner p h) refl)

  pub root_of_lem : (t : ℕ) → host p t ≡ none → is_root p t ≡ true
  unfolding is_root
  root_of_lem t e = rw (e, is_root)

  pub root_none : (t : ℕ) → is_root p t ≡ true → host p t ≡ none
  unfolding is_root
  root_none t h = go (host p t) refl
    where
      go : (o : Option ℕ) → host p t ≡ o → host p t ≡ none
      go none e = e
      go (some s) e = let q : ◌≡◌ {A = Bool} false true = rw (e, is_root) at h in clash q refl

  pub not_root : (t h : ℕ) → host p t ≡ some h → is_root p t ≡ false
  unfolding is_root
  not_root t h e = rw (e, is_root)

  -- tests over a scope
  pub every_in_at : (s : ℕ) (f : ℕ → Bool) → every_in p s f ≡ true → (t : ℕ) → t < track_count p → is_in p s t ≡ true → f t ≡ true
  unfolding every_in
  every_in_at s f h t l i = implies (is_in p s t) (f t) (every_at (track_count p) (λ t. not (is_in p s t) || f t) h t l) i

  pub every_in_of : (s : ℕ) (f : ℕ → Bool) → ((t : ℕ) → t < track_count p → is_in p s t ≡ true → f t ≡ true) → every_in p s f ≡ true
  unfolding every_in
  every_in_of s f h = every_of (track_count p) (λ t. not (is_in p s t) || f t) (λ t l. implied (is_in p s t) (f t) (h t l))

  when : (b x y : Bool) → (b ≡ true → x ≡ y) → (not b || x) ≡ (not b || y)
  when true x y h = h refl
  when false x y h = refl

  with_it : (b x y : Bool) → (b ≡ true → x ≡ y) → (b && x) ≡ (b && y)
  with_it true x y h = h refl
  with_it false x y h = refl

  pub every_in_same : (s : ℕ) (f g : ℕ → Bool) → ((t : ℕ) → t < track_count p → is_in p s t ≡ true → f t ≡ g t) → every_in p s f ≡ every_in p s g
  unfolding every_in
  every_in_same s f g h =
      every_same (track_count p) (λ t. not (is_in p s t) || f t) (λ t. not (is_in p s t) || g t) (λ t l. when (is_in p s t) (f t) (g t) (h t l))

  pub some_in_at : (s : ℕ) (f : ℕ → Bool) (t : ℕ) → t < track_count p → is_in p s t ≡ true → f t ≡ true → some_in p s f ≡ true
  unfolding some_in
  some_in_at s f t l i h = some_at (track_count p) (λ t. is_in p s t && f t) t l (and_both (is_in p s t) (f t) i h)

  pub some_in_find : (s : ℕ) (f : ℕ → Bool) → some_in p s f ≡ true → (t : ℕ) × (t < track_count p) × (is_in p s t ≡ true) × (f t ≡ true)
  unfolding some_in
  some_in_find s f h =
      let (t, l, q) = some_find (track_count p) (λ t. is_in p s t && f t) h in
      let (a, b) = and_holds (is_in p s t) (f t) q in (t, l, a, b)

  pub some_in_same : (s : ℕ) (f g : ℕ → Bool) → ((t : ℕ) → t < track_count p → is_in p s t ≡ true → f t ≡ g t) → some_in p s f ≡ some_in p s g
  unfolding some_in
  some_in_same s f g h =
      some_same (track_count p) (λ t. is_in p s t && f t) (λ t. is_in p s t && g t) (λ t l. with_it (is_in p s t) (f t) (g t) (h t l))

  module _ (l : Ledger) where
    -- an awake track keeps its scope open, and is the open scope of its host's track
    pub open_at : (s t : ℕ) → t < track_count p → host p t ≡ some s → is_awake (l t).mode ≡ true → is_open p l s ≡ true
    unfolding is_open
    open_at s t b e a = some_in_at s (λ t. is_awake (l t).mode) t b (host_in s t e) a

    pub open_find : (s : ℕ) → is_open p l s ≡ true → (t : ℕ) × (t < track_count p) × (host p t ≡ some s) × (is_awake (l t).mode ≡ true)
    unfolding is_open
    open_find s h = let (t, b, i, a) = some_in_find s (λ t. is_awake (l t).mode) h in (t, b, in_host s t i, a)

    pub shut_at : (s t : ℕ) → is_open p l s ≡ false → t < track_count p → host p t ≡ some s → is_awake (l t).mode ≡ false
    shut_at s t h b e =
        mathlib.Core.Logic.⊎_elim (λ a. clash (open_at s t b e a) h) (λ a. a) (look (is_awake (l t).mode))

    pub busy_at : (t h : ℕ) → t < track_count p → host p t ≡ some h → is_awake (l t).mode ≡ true → has_open_scope p l (owner p h) ≡ true
    unfolding has_open_scope
    busy_at t h b e a =
        some_at (track_count p) (λ u. is_hosted_by p (owner p h) u && is_awake (l u).mode) t b
        (and_both (is_hosted_by p (owner p h) t) (is_awake (l t).mode) (host_by t h e) a)

    pub busy_find : (t : ℕ) → has_open_scope p l t ≡ true
        → (u : ℕ) × (h : ℕ) × (u < track_count p) × (host p u ≡ some h) × (owner p h ≡ t) × (is_awake (l u).mode ≡ true)
    unfolding has_open_scope
    busy_find t k =
        let (u, b, q) = some_find (track_count p) (λ u. is_hosted_by p t u && is_awake (l u).mode) k in
        let (x, a) = and_holds (is_hosted_by p t u) (is_awake (l u).mode) q in
        let (h, e, o) = by_host t u x in (u, h, b, e, o, a)

    pub free_at : (t u : ℕ) → has_open_scope p l t ≡ false → u < track_count p → is_hosted_by p t u ≡ true → is_awake (l u).mode ≡ false
    free_at t u k b i =
        let (h, e, o) = by_host t u i in
        mathlib.Core.Logic.⊎_elim (λ a. clash (subst (λ x. has_open_scope p l x ≡ true) o (busy_at u h b e a)) k) (λ a. a) (look (is_awake (l u).mode))
