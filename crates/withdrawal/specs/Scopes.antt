-- Open scopes while abandoning climbs: which tracks have one, and how many tracks keep it open. Assumes nothing.
use Rattle.std.specs.Prelude.{◌≡◌, Bool, true, false, cond, not, ◌&&◌, List, ℕ, ◌<◌, ◌≤◌, length, get_or}
use Rattle.std.proofs.Math.Option.{none, some}
use Rattle.rules.specs.Fold.{count_below}
use Rattle.rules.specs.Plan.{Plan, track_count, host, owner, is_hosted_by}
use Rattle.rules.specs.Ledger.{Configuration, Ledger, is_awake, sleeping}
use Rattle.rules.specs.Scope.{has_open_scope, is_bare}
use Rattle.rules.specs.Signal.{is_abandoning, abandoned}
use Rattle.plan.specs.Passes.{slots}
use Rattle.lookup.specs.Figures as figures
use Rattle.withdrawal.specs.declared.abandoning.Scopes.{Scopes}

module _ (p : Plan) where
  -- "a scope is awake as a whole or asleep as a whole; an awake one's host is awake in that hosting state"
  pub record Nested (l : Ledger) : Type 0 where
    pub whole : (s t u : ℕ) → host p t ≡ some s → host p u ≡ some s → is_awake (l t).mode ≡ true → is_awake (l u).mode ≡ true
    pub hosting : (t h : ℕ) → host p t ≡ some h → is_awake (l t).mode ≡ true → ((l (owner p h)).state ≡ h) × (is_awake (l (owner p h)).mode ≡ true)

  module _ (l : Ledger) where
    -- a track that keeps its scope from being abandoned: awake, and not "undoing, hold nothing and have no open scope"
    unfoldable pub is_busy : ℕ → Bool
    is_busy t = is_awake (l t).mode && not (is_bare p l t)

    -- how many busy tracks a track hosts, of those below n and of all
    unfoldable pub busy_below : ℕ → ℕ → ℕ
    busy_below n u = count_below n (λ t. is_hosted_by p u t && is_busy t)

    abbrev pub busy_tracks : ℕ → ℕ
    busy_tracks u = busy_below (track_count p) u

    -- the figures are as the ledger has them: which tracks have an open scope, and how many busy tracks below n each hosts
    pub record Counted (opens : List Bool) (busy : List ℕ) (n : ℕ) : Type 0 where
      pub opens_size : length opens ≡ slots
      pub busy_size : length busy ≡ slots
      pub mark : (u : ℕ) → u < track_count p → get_or opens u false ≡ has_open_scope p l u
      pub count : (u : ℕ) → u < track_count p → get_or busy u 0 ≡ busy_below n u

  -- a track as it is once the scopes of the tracks without a mark are asleep
  unfoldable pub kept_by : List Bool → ℕ → Configuration → Configuration
  kept_by opens t x = elim (host p t) [ none ↦ x | some h ↦ cond (get_or opens (owner p h) false) x sleeping ]

  unfoldable pub keeping : List Bool → Ledger → Ledger
  keeping opens l t = kept_by opens t (l t)

  module _ (l : Ledger) where
    -- while scopes are abandoned: the figures are those of the ledger with the scopes asleep that have no mark, and these are nested
    pub record Figures (x : Scopes) : Type 0 where
      pub nested : Nested (keeping x.opens l)
      pub counted : Counted (keeping x.opens l) x.opens x.busy (track_count p)

    -- abandoning is due to the scope of a track: it is open, and no track keeps it so
    pub record Due (x : Scopes) (t : ℕ) : Type 0 where
      pub low : t < track_count p
      pub figures : Figures x
      pub marked : get_or x.opens t false ≡ true
      pub idle : get_or x.busy t 0 ≡ 0

    -- abandoning it, and then "from scope to host until nothing changes", leads from x to y: the outcome of abandoning is the same, the
    -- track's scope is not due any more, and none is due that was not
    pub record Climbed (x y : Scopes) (t : ℕ) : Type 0 where
      pub figures : Figures y
      pub same : (u : ℕ) → abandoned p (keeping y.opens l) u ≡ abandoned p (keeping x.opens l) u
      pub due : (s : ℕ) → is_abandoning p (keeping y.opens l) s ≡ true
          → (is_abandoning p (keeping x.opens l) s ≡ true) × (owner p s ≡ t → ⊥)

    -- the outcome is the same as at first, and abandoning is due to no scope of a track below n any more
    pub record Cleared (x : Scopes) (n : ℕ) : Type 0 where
      pub figures : Figures x
      pub same : (u : ℕ) → abandoned p (keeping x.opens l) u ≡ abandoned p l u
      pub due : (s : ℕ) → is_abandoning p (keeping x.opens l) s ≡ true → n ≤ owner p s

    -- the tracks whose scope abandoning leaves open
    pub record LeftOpen (opens : List Bool) : Type 0 where
      pub same : keeping opens l ≡ abandoned p l
      pub marks : figures.Figures false opens (track_count p) (has_open_scope p (abandoned p l))
