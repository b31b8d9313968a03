-- The windows of an accepted plan: each names a transition that exists and that no other names, so there are no more of them than transitions.
-- A transition may be taken on the days of its window, and where no window names it on any day. Assumes nothing.
use mathlib.Core.Path.{◌≡◌, refl, sym, ap, ◌∙◌}
use mathlib.Core.Logic.{⊎_elim}
use mathlib.Core.Bool.{Bool, true, false, not, ◌||◌}
use Prim.Native.Nat.{ℕ, zero, suc, ◌<◌, ◌≤◌}
use native.Mathlib.Omega.{arith}
use lib.Dec.{eqb, ltb, leb}
use lib.Signed.{lt_z}
use borrow.Author.Tests.{eqb-true, ltb-true, ltb-false, leb-false, eq-eqb, ne_eqb, not-false}
use Rattle.rules.specs.Names.{Day}
use Rattle.rules.specs.Fold.{some_below, every_below, count_below}
use Rattle.rules.specs.Day.{is_day}
use Rattle.rules.specs.Plan.{Plan, transition_count, window_count, window, is_within, may_take}
use Rattle.rules.specs.Acceptance.{repeats_window, bad_window}
use Rattle.rules.proofs.Tests.{look, clash, or_fails, same_test, implies, implied}
use Rattle.rules.proofs.Folds.{some_at, some_not, every_at, every_of}
use Rattle.rules.proofs.Counting.{count_le}

-- what 25 leaves of a plan's windows
pub record FitWindows (p : Plan) : Type 0 where
  pub named : (w : ℕ) → w < window_count p → (window p w).transition < transition_count p
  pub own : (v w : ℕ) → v < window_count p → w < window_count p → (window p v).transition ≡ (window p w).transition → v ≡ w
  pub ordered : (w : ℕ) → w < window_count p → lt_z (window p w).last (window p w).first ≡ false
  pub first_day_lem : (w : ℕ) → w < window_count p → is_day (window p w).first ≡ true
  pub last_day_lem : (w : ℕ) → w < window_count p → is_day (window p w).last ≡ true

module _ (p : Plan) where
  -- the parts of 25 at one window
  record Fit (w : ℕ) : Type 0 where
    named : (window p w).transition < transition_count p
    new : repeats_window p w ≡ false
    ordered : lt_z (window p w).last (window p w).first ≡ false
    first_day_lem : is_day (window p w).first ≡ true
    last_day_lem : is_day (window p w).last ≡ true

  fit : (w : ℕ) → bad_window p w ≡ false → Fit w
  unfolding bad_window
  fit w h =
      let A = leb (transition_count p) (window p w).transition in
      let B = repeats_window p w in
      let C = lt_z (window p w).last (window p w).first in
      let D = not (is_day (window p w).first) in
      let E = not (is_day (window p w).last) in
      let q4 = or_fails (A || B || C || D) E h in
      let q3 = or_fails (A || B || C) D q4.0 in
      let q2 = or_fails (A || B) C q3.0 in
      let q1 = or_fails A B q2.0 in
      record {
        named = leb-false (transition_count p) (window p w).transition q1.0;
        new = q1.1;
        ordered = q2.1;
        first_day_lem = not-false _ q3.1;
        last_day_lem = not-false _ q4.1;
      }

  repeated : (v w : ℕ) → v < w → (window p v).transition ≡ (window p w).transition → repeats_window p w ≡ true
  unfolding repeats_window
  repeated v w l e = some_at w (λ u. eqb (window p u).transition (window p w).transition) v l (eq-eqb _ _ e)

  pub fit_windows : ((w : ℕ) → w < window_count p → bad_window p w ≡ false) → FitWindows p
  fit_windows h =
      record {
        named = λ w l. (fit w (h w l)).named;
        own = own;
        ordered = λ w l. (fit w (h w l)).ordered;
        first_day_lem = λ w l. (fit w (h w l)).first_day_lem;
        last_day_lem = λ w l. (fit w (h w l)).last_day_lem;
      }
    where
      own : (v w : ℕ) → v < window_count p → w < window_count p → (window p v).transition ≡ (window p w).transition → v ≡ w
      own v w a b e =
          ⊎_elim (λ l. clash (repeated v w (ltb-true v w l) e) (fit w (h w b)).new)
          (λ l.
          ⊎_elim (λ m. clash (repeated w v (ltb-true w v m) (sym e)) (fit v (h v a)).new)
          (λ m. let i = ltb-false v w l in let j = ltb-false w v m in omega arith) (look (ltb w v)))
          (look (ltb v w))

  pub no_bad_window : some_below (window_count p) (bad_window p) ≡ false → FitWindows p
  no_bad_window h = fit_windows (some_not (window_count p) (bad_window p) h)

always : ℕ → Bool
always n = true

count_always : (n : ℕ) → count_below n always ≡ n
unfolding count_below always
count_always zero = refl
count_always (suc n) = let i = count_always n in omega arith

module _ (p : Plan) (a : FitWindows p) where
  pub few_windows : window_count p ≤ transition_count p
  unfolding always
  few_windows =
      let i =
      count_le (window_count p) (transition_count p) always always (λ w. (window p w).transition)
      (record { below = λ w l h. a.named w l; passes = λ w l h. refl; own = λ v w l m g h e. a.own v w l m e }) in
      let j = count_always (window_count p) in
      let k = count_always (transition_count p) in
      omega arith

  -- the window of a transition
  pub may_take_lem : (day : Day) (x w : ℕ) → w < window_count p → (window p w).transition ≡ x → may_take p day x ≡ is_within (window p w) day
  unfolding may_take
  may_take_lem day x w l e =
      same_test (every_below (window_count p) test) (is_within (window p w) day)
      (λ h. implies (eqb (window p w).transition x) (is_within (window p w) day) (every_at (window_count p) test h w l) (eq-eqb _ _ e))
      (λ h.
      every_of (window_count p) test
      (λ v m.
      implied (eqb (window p v).transition x) (is_within (window p v) day)
      (λ k. let q : w ≡ v = a.own w v l m (e ∙ sym (eqb-true _ _ k)) in ap (λ (u : ℕ). is_within (window p u) day) (sym q) ∙ h)))
    where
      test : ℕ → Bool
      test = λ v. not (eqb (window p v).transition x) || is_within (window p v) day

-- no window names it
pub may_take_free : (p : Plan) (day : Day) (x : ℕ) → ((w : ℕ) → w < window_count p → (window p w).transition ≡ x → ⊥) → may_take p day x ≡ true
unfolding may_take
may_take_free p day x h =
    every_of (window_count p) (λ w. not (eqb (window p w).transition x) || is_within (window p w) day)
    (λ w l. rw (ne_eqb (window p w).transition x (h w l)))
