-- The grants of an accepted plan (the paper's rights records): each names a root and some right, no two the same society and root, and there are
-- no more than 64 of them. Assumes nothing.
use mathlib.Core.Path.{◌≡◌, sym}
use mathlib.Core.Logic.{⊎_elim}
use mathlib.Core.Bool.{false, true, not, ◌||◌, ◌&&◌}
use Prim.Native.Nat.{ℕ, zero, suc, ◌<◌, ◌≤◌}
use native.Mathlib.Omega.{arith}
use lib.Dec.{eqb, ltb, leb}
use borrow.Author.Tests.{eqb-false, ltb-true, ltb-false, leb-false, eq-eqb, not-false}
use Rattle.rules.specs.Fold.{some_below}
use Rattle.rules.specs.Plan.{Plan, track_count, grant_count, grant, is_root}
use Rattle.rules.specs.Acceptance.{most_grants, most_rights, names_no_root, repeats_pair, bad_grant}
use Rattle.rules.proofs.Tests.{look, clash, or_fails}
use Rattle.rules.proofs.Folds.{some_at, some_not}

-- what 27 leaves of a plan's grants
pub record FitGrants (p : Plan) : Type 0 where
  pub named : (g : ℕ) → g < grant_count p → (grant p g).root < track_count p
  pub rooted : (g : ℕ) → g < grant_count p → is_root p (grant p g).root ≡ true
  pub some_right : (g : ℕ) → g < grant_count p → (grant p g).rights ≡ 0 → ⊥
  pub known_rights : (g : ℕ) → g < grant_count p → (grant p g).rights ≤ 7
  pub own : (f g : ℕ) → f < grant_count p → g < grant_count p → (grant p f).society ≡ (grant p g).society
      → (grant p f).root ≡ (grant p g).root → f ≡ g
  pub few : grant_count p ≤ 64

module _ (p : Plan) where
  -- the parts of 27 at one grant
  record Fit (g : ℕ) : Type 0 where
    named : (grant p g).root < track_count p
    rooted : is_root p (grant p g).root ≡ true
    some_right : (grant p g).rights ≡ 0 → ⊥
    known_rights : (grant p g).rights ≤ 7
    new : repeats_pair p g ≡ false
    low : g < 64

  fit : (g : ℕ) → bad_grant p g ≡ false → Fit g
  unfolding bad_grant names_no_root
  fit g h =
      let A = leb (track_count p) (grant p g).root in
      let B = not (is_root p (grant p g).root) in
      let C = eqb (grant p g).rights 0 in
      let D = ltb most_rights (grant p g).rights in
      let E = repeats_pair p g in
      let q4 = or_fails ((A || B) || C || D || E) (leb most_grants g) h in
      let q3 = or_fails ((A || B) || C || D) E q4.0 in
      let q2 = or_fails ((A || B) || C) D q3.0 in
      let q1 = or_fails (A || B) C q2.0 in
      let q0 = or_fails A B q1.0 in
      record {
        named = leb-false (track_count p) (grant p g).root q0.0;
        rooted = not-false _ q0.1;
        some_right = eqb-false (grant p g).rights 0 q1.1;
        known_rights = ltb-false 7 (grant p g).rights q2.1;
        new = q3.1;
        low = leb-false 64 g q4.1;
      }

  repeated : (f g : ℕ) → f < g → (grant p f).society ≡ (grant p g).society → (grant p f).root ≡ (grant p g).root → repeats_pair p g ≡ true
  unfolding repeats_pair
  repeated f g l e r =
      some_at g (λ k. eqb (grant p k).society (grant p g).society && eqb (grant p k).root (grant p g).root) f l
      (rw (eq-eqb _ _ e, eq-eqb _ _ r))

  pub fit_grants : ((g : ℕ) → g < grant_count p → bad_grant p g ≡ false) → FitGrants p
  fit_grants h =
      record {
        named = λ g l. (fit g (h g l)).named;
        rooted = λ g l. (fit g (h g l)).rooted;
        some_right = λ g l. (fit g (h g l)).some_right;
        known_rights = λ g l. (fit g (h g l)).known_rights;
        own = own;
        few = few (grant_count p) (λ g l. (fit g (h g l)).low);
      }
    where
      own : (f g : ℕ) → f < grant_count p → g < grant_count p → (grant p f).society ≡ (grant p g).society → (grant p f).root ≡ (grant p g).root → f ≡ g
      own f g a b e r =
          ⊎_elim (λ l. clash (repeated f g (ltb-true f g l) e r) (fit g (h g b)).new)
          (λ l.
          ⊎_elim (λ m. clash (repeated g f (ltb-true g f m) (sym e) (sym r)) (fit f (h f a)).new)
          (λ m. let i = ltb-false f g l in let j = ltb-false g f m in omega arith) (look (ltb g f)))
          (look (ltb f g))

      few : (n : ℕ) → ((g : ℕ) → g < n → g < 64) → n ≤ 64
      few zero low = omega arith
      few (suc n) low = let i = low n (omega arith) in omega arith

  pub no_bad_grant : some_below (grant_count p) (bad_grant p) ≡ false → FitGrants p
  no_bad_grant h = fit_grants (some_not (grant_count p) (bad_grant p) h)
