-- Days: a transition that is taken on a day is one that the windows let take it, a day that 26 does not refuse is in range and not before the
-- last, and the order of days is one. Each follows from the tests, sign by sign. Assumes nothing.
use mathlib.Core.Path.{◌≡◌, refl, subst}
use mathlib.Core.Bool.{Bool, true, false, not, ◌||◌}
use mathlib.Core.Option.{Option, none, some}
use Prim.Native.Nat.{ℕ, ◌<◌}
use native.Mathlib.Omega.{arith}
use lib.Dec.{eqb}
use lib.IntN.{pos, negsuc}
use lib.Signed.{le_z, lt_z}
use borrow.Author.Tests.{eq-eqb, ltb-false, leb-true, le-leb, not-false}
use Rattle.rules.specs.Names.{Day}
use Rattle.rules.specs.Day.{earliest_day, latest_day, is_day}
use Rattle.rules.specs.Plan.{Plan, window_count, window, is_within, may_take, taken_on}
use Rattle.rules.specs.Call.{bad_day}
use Rattle.rules.proofs.Tests.{none-some, clash, and_holds, or_fails, implies}
use Rattle.rules.proofs.Folds.{every_at}

-- The order.
pub day_same : (a : Day) → le_z a a ≡ true
day_same (pos a) = le-leb a a (omega arith)
day_same (negsuc a) = le-leb a a (omega arith)

pub day_after_lem : (a b c : Day) → le_z a b ≡ true → le_z b c ≡ true → le_z a c ≡ true
day_after_lem (pos a) (pos b) (pos c) h k = le-leb a c (omega (arith, leb-true a b h, leb-true b c k))
day_after_lem (pos a) (pos b) (negsuc c) h k = clash k refl
day_after_lem (pos a) (negsuc b) c h k = clash h refl
day_after_lem (negsuc a) b (pos c) h k = refl
day_after_lem (negsuc a) (pos b) (negsuc c) h k = clash k refl
day_after_lem (negsuc a) (negsuc b) (negsuc c) h k = le-leb c a (omega (arith, leb-true b a h, leb-true c b k))

pub not_before : (a b : Day) → lt_z a b ≡ false → le_z b a ≡ true
not_before (pos a) (pos b) h = le-leb b a (ltb-false a b h)
not_before (pos a) (negsuc b) h = refl
not_before (negsuc a) (pos b) h = clash refl h
not_before (negsuc a) (negsuc b) h = le-leb a b (ltb-false b a h)

-- The range.
pub earliest_is : is_day earliest_day ≡ true
unfolding is_day
earliest_is = refl

pub in_range : (d : Day) → is_day d ≡ true → (le_z earliest_day d ≡ true) × (le_z d latest_day ≡ true)
unfolding is_day
in_range d h = and_holds (le_z earliest_day d) (le_z d latest_day) h

-- 26 did not refuse the day
pub good_day : (last day : Day) → bad_day last day ≡ false → (is_day day ≡ true) × (le_z last day ≡ true)
unfolding bad_day
good_day last day h =
    let (a, b) = or_fails (not (is_day day)) (lt_z day last) h in
    (not-false (is_day day) a, not_before day last b)

-- Windows.
pub within : (p : Plan) (w : ℕ) (day : Day) → is_within (window p w) day ≡ true → (le_z (window p w).first day ≡ true) × (le_z day (window p w).last ≡ true)
unfolding is_within
within p w day h = and_holds (le_z (window p w).first day) (le_z day (window p w).last) h

module _ (p : Plan) (day : Day) where
  pub taken_on_lem : (o : Option ℕ) (x : ℕ) → taken_on p day o ≡ some x → (o ≡ some x) × (may_take p day x ≡ true)
  unfolding taken_on
  taken_on_lem none x h = none-some refl h
  taken_on_lem (some y) x h = go (may_take p day y) refl
    where
      go : (b : Bool) → may_take p day y ≡ b → (some y ≡ some x) × (may_take p day x ≡ true)
      go true k =
          let q : some y ≡ some x = rw k at h in
          let e : y ≡ x = cc in
          (q, subst (λ z. may_take p day z ≡ true) e k)
      go false k = let q : none ≡ some x = rw k at h in none-some refl q

  -- every window that names the transition has the day
  pub may_take_at : (x w : ℕ) → may_take p day x ≡ true → w < window_count p → (window p w).transition ≡ x → is_within (window p w) day ≡ true
  unfolding may_take
  may_take_at x w h b e =
      implies (eqb (window p w).transition x) (is_within (window p w) day)
      (every_at (window_count p) (λ v. not (eqb (window p v).transition x) || is_within (window p v) day) h w b)
      (eq-eqb (window p w).transition x e)
