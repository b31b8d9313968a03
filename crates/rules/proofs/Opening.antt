-- Opening, one level at a time: whether a track wakes follows from its host and from whether its host's track wakes, whose number is
-- lower; so one pass up the tracks opens everything, and the tracks of a scope wake together. Assumes nothing.
use mathlib.Core.Path.{◌≡◌, sym, ap₂, ◌∙◌, fun_ext}
use mathlib.Core.Logic.{inl, inr}
use mathlib.Core.Bool.{true, false, ◌&&◌}
use mathlib.Core.Option.{Option, none, some}
use Prim.Native.Nat.{ℕ, ◌<◌}
use lib.Dec.{eqb}
use borrow.Author.Tests.{lt-ltb}
use Rattle.rules.specs.declared.Mode.TheVariants.{Forward}
use Rattle.rules.specs.Plan.{Plan, track_count, host, owner, first_state}
use Rattle.rules.specs.Ledger.{Ledger, sleeping}
use Rattle.rules.specs.Opening.{fresh, wakes_in, wakes, entered, enter, roots_first, begun}
use Rattle.rules.proofs.Tests.{look_option, strong}
use Rattle.rules.proofs.Acceptance.{Accepted}
use Rattle.rules.proofs.Forest.{climb_root, climb_host}
use Rattle.rules.proofs.Scopes.{root_of_lem, not_root}

module _ (p : Plan) (ok : Accepted p) where
  module _ (to : ℕ → Option ℕ) where
    pub wakes_root : (t : ℕ) → host p t ≡ none → wakes p to t ≡ false
    unfolding wakes
    wakes_root t e = climb_root p ok (λ t h r. wakes_in (first_state p (owner p h)) (to (owner p h)) h r) t e

    pub wakes_host : (t h : ℕ) → host p t ≡ some h
        → wakes p to t ≡ wakes_in (first_state p (owner p h)) (to (owner p h)) h (wakes p to (owner p h))
    unfolding wakes
    wakes_host t h e = climb_host p ok (λ t h r. wakes_in (first_state p (owner p h)) (to (owner p h)) h r) t h e

    -- the tracks of a scope wake together
    pub wakes_together : (t u h : ℕ) → host p t ≡ some h → host p u ≡ some h → wakes p to t ≡ wakes p to u
    wakes_together t u h e f = wakes_host t h e ∙ sym (wakes_host u h f)

    -- where the host's track enters a state, the tracks of that state's scope wake, and no others that it hosts
    pub wakes_entered : (t h s : ℕ) → host p t ≡ some h → to (owner p h) ≡ some s → wakes p to t ≡ eqb h s
    unfolding wakes_in
    wakes_entered t h s e f = wakes_host t h e ∙ (rw (f, wakes_in))

    -- where it enters none, the tracks of its first state's scope wake with it
    pub wakes_woken : (t h : ℕ) → host p t ≡ some h → to (owner p h) ≡ none
        → wakes p to t ≡ (wakes p to (owner p h) && eqb h (first_state p (owner p h)))
    unfolding wakes_in
    wakes_woken t h e f = wakes_host t h e ∙ (rw (f, wakes_in))

    -- where no track enters a state none wakes
    wakes_none : ((u : ℕ) → to u ≡ none) → (t : ℕ) → wakes p to t ≡ false
    wakes_none h =
        strong (λ t. wakes p to t ≡ false)
        (λ t below.
        elim (look_option (host p t)) [
          | inl e ↦ wakes_root t e
          | inr e ↦ wakes_woken t e.0 e.1 (h (owner p e.0)) ∙ rw (below (owner p e.0) (ok.lower t e.0 e.1))
        ])

    module _ (l : Ledger) where
      -- a track that enters a state, one that wakes, and one that does neither
      pub enter_to : (t s : ℕ) → to t ≡ some s → enter p to l t ≡ record { mode = Forward; state = s; held = (l t).held }
      unfolding enter entered
      enter_to t s e = rw (e, entered)

      pub enter_woken : (t : ℕ) → to t ≡ none → wakes p to t ≡ true → enter p to l t ≡ fresh p t
      unfolding enter entered
      enter_woken t e w = rw (e, entered, w)

      pub enter_kept : (t : ℕ) → to t ≡ none → wakes p to t ≡ false → enter p to l t ≡ l t
      unfolding enter entered
      enter_kept t e w = rw (e, entered, w)

      -- where no track enters a state nothing changes
      pub enter_none : ((u : ℕ) → to u ≡ none) → enter p to l ≡ l
      enter_none h = fun_ext (λ t. enter_kept t (h t) (wakes_none h t))

  -- what wakes depends on the states that tracks of the plan enter alone
  pub wakes_same : (to at : ℕ → Option ℕ) → ((u : ℕ) → u < track_count p → to u ≡ at u) → (t : ℕ) → wakes p to t ≡ wakes p at t
  wakes_same to at h =
      strong (λ t. wakes p to t ≡ wakes p at t)
      (λ t ih.
      elim (look_option (host p t)) [
        | inl e ↦ wakes_root to t e ∙ sym (wakes_root at t e)
        | inr e ↦
            let u = owner p e.0 in
            wakes_host to t e.0 e.1
            ∙ ap₂ (λ x y. wakes_in (first_state p u) x e.0 y) (h u (ok.owned e.0 (ok.host_state t e.0 e.1))) (ih u (ok.lower t e.0 e.1))
            ∙ sym (wakes_host at t e.0 e.1)
      ])

  -- Begin: roots are forward in their first states; a hosted track wakes exactly if its host is the first state of a track that does.
  pub roots_to : (t : ℕ) → t < track_count p → host p t ≡ none → roots_first p t ≡ some (first_state p t)
  unfolding roots_first
  roots_to t l e = rw (lt-ltb t (track_count p) l, root_of_lem p t e)

  pub hosted_to : (t h : ℕ) → host p t ≡ some h → roots_first p t ≡ none
  unfolding roots_first
  hosted_to t h e = rw (lt-ltb t (track_count p) (ok.hosted t h e), not_root p t h e)

  pub begun_root : (t : ℕ) → t < track_count p → host p t ≡ none → begun p t ≡ fresh p t
  unfolding begun fresh sleeping
  begun_root t l e = enter_to (roots_first p) (λ t. sleeping) t (first_state p t) (roots_to t l e)

  pub begun_woken : (t h : ℕ) → host p t ≡ some h → wakes p (roots_first p) t ≡ true → begun p t ≡ fresh p t
  unfolding begun
  begun_woken t h e w = enter_woken (roots_first p) (λ t. sleeping) t (hosted_to t h e) w

  pub begun_asleep : (t h : ℕ) → host p t ≡ some h → wakes p (roots_first p) t ≡ false → begun p t ≡ sleeping
  unfolding begun
  begun_asleep t h e w = enter_kept (roots_first p) (λ t. sleeping) t (hosted_to t h e) w
