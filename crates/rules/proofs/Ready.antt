-- Who may be fired, in facts; ready is 0 exactly where nobody may, as on an over ledger. Assumes nothing.
use mathlib.Core.Path.{◌≡◌}
use mathlib.Core.Bool.{true, false, cond, not, ◌&&◌}
use Prim.Native.Nat.{ℕ, ◌<◌, ◌^◌}
use native.Mathlib.Omega.{arith}
use lib.Dec.{ltb}
use lib.Pow.{pow_pos}
use borrow.Author.Tests.{not-true, ltb-true, lt-ltb}
use Rattle.rules.specs.Plan.{Plan, track_count}
use Rattle.rules.specs.Ledger.{Ledger, is_awake, is_undoing, is_empty}
use Rattle.rules.specs.Scope.{has_open_scope, is_over}
use Rattle.rules.specs.Fire.{may_fire, ready}
use Rattle.rules.proofs.Tests.{clash, refuted, and_holds}
use Rattle.rules.proofs.Folds.{every_at, sum_none, sum_at}
use Rattle.rules.proofs.Abandoning.{undoing_awake}

module _ (p : Plan) (l : Ledger) where
  -- what a track that may be fired is
  pub may_fire_lem : (t : ℕ) → may_fire p l t ≡ true
      → (t < track_count p) × (is_undoing (l t).mode ≡ true) × (is_empty (l t).held ≡ false) × (has_open_scope p l t ≡ false)
  unfolding may_fire
  may_fire_lem t h =
      let A = ltb t (track_count p) in
      let B = is_undoing (l t).mode in
      let C = not (is_empty (l t).held) in
      let (x, d) = and_holds (A && B && C) (not (has_open_scope p l t)) h in
      let (y, c) = and_holds (A && B) C x in
      let (a, b) = and_holds A B y in
      (ltb-true t (track_count p) a, b, not-true (is_empty (l t).held) c, not-true (has_open_scope p l t) d)

  pub fire_may : (t : ℕ) → t < track_count p → is_undoing (l t).mode ≡ true → is_empty (l t).held ≡ false → has_open_scope p l t ≡ false
      → may_fire p l t ≡ true
  unfolding may_fire
  fire_may t a b c d = rw (lt-ltb t (track_count p) a, b, c, d)

  -- who may be fired is awake
  pub fireable_not_over : (t : ℕ) → may_fire p l t ≡ true → is_over p l ≡ false
  unfolding is_over
  fireable_not_over t h =
      let (b, u, e, f) = may_fire_lem t h in
      refuted (is_over p l)
      (λ o. clash (undoing_awake (l t).mode u) (not-true (is_awake (l t).mode) (every_at (track_count p) (λ t. not (is_awake (l t).mode)) o t b)))

  -- ready is 0 exactly where no track may be fired
  pub none_ready : ((t : ℕ) → t < track_count p → may_fire p l t ≡ false) → ready p l ≡ 0
  unfolding ready
  none_ready n = sum_none (track_count p) (λ t. cond (may_fire p l t) (2 ^ t) 0) (λ t b. rw (n t b))

  pub ready_none : ready p l ≡ 0 → (t : ℕ) → may_fire p l t ≡ false
  unfolding ready
  ready_none z t =
      refuted (may_fire p l t)
      (λ m.
      let bit : cond (may_fire p l t) (2 ^ t) 0 ≡ 2 ^ t = rw m in
      let le = sum_at (track_count p) (λ t. cond (may_fire p l t) (2 ^ t) 0) t (may_fire_lem t m).0 in omega (arith, bit, le, z, pow_pos t))

  -- "an over ledger gives 0"
  pub over_ready : is_over p l ≡ true → ready p l ≡ 0
  over_ready o = none_ready (λ t b. refuted (may_fire p l t) (λ h. clash o (fireable_not_over t h)))
