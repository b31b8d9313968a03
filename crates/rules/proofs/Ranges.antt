-- Iterator chains over the numbers below n, as the folds of the rules: `any` is `some_below`, `all` is `every_below`. Each takes the test, what the
-- call says of its own run (`.ensures.ran`), and that the closure computes the test and stays as it is. Assumes nothing.
use mathlib.Core.Path.{◌≡◌, refl, sym, ap, ◌∙◌}
use mathlib.Core.Bool.{Bool, true, false, ◌&&◌, ◌||◌}
use mathlib.Core.List.{List}
use Prim.Native.Nat.{ℕ, zero, suc, ◌+◌}
use native.Mathlib.Nat.{sub-zero}
use native.Mathlib.Omega.{arith}
use denote.Param.Members.{Mut}
use Rattle.std.specs.declared.option.Option.{Option}
use Rattle.std.specs.declared.ops.Range.{Range}
use Rattle.std.specs.Fn.{Called}
use Rattle.std.specs.Iterator.{YieldsThen}
use Rattle.std.specs.List.{FoldsTo, list_any, list_all, range_with_len}
use Rattle.std.specs.Option.{MatchOption}
use Rattle.std.proofs.iter.Yields.{nat_range_steps}
use Rattle.std.proofs.Math.Bool.{or_assoc, and_assoc, or-false, and-true}
use Rattle.std.proofs.lemmas.Iterator.{YieldsList-from_range}
use Rattle.std.proofs.lemmas.Iterator.Search.{any_from_yields_List, all_from_yields_List}
use Rattle.rules.specs.Fold.{some_below, every_below}
use Rattle.rules.proofs.Folds.{some_more, every_more}

module _ (f : ℕ → Bool) where
  some_on : (n a : ℕ) → some_below (a + n) f ≡ (some_below a f || list_any f (range_with_len a n))
  some_on zero a = let e : a + 0 ≡ a = omega arith in rw e (sym (or-false (some_below a f)))
  some_on (suc n) a =
      let e : a + suc n ≡ (a + 1) + n = omega arith in
      rw e (some_on n (a + 1) ∙ ap (λ b. b || list_any f (range_with_len (a + 1) n)) (some_more a f) ∙ or_assoc (some_below a f) (f a) (list_any f (range_with_len (a + 1) n)))

  every_on : (n a : ℕ) → every_below (a + n) f ≡ (every_below a f && list_all f (range_with_len a n))
  every_on zero a = let e : a + 0 ≡ a = omega arith in rw e (sym (and-true (every_below a f)))
  every_on (suc n) a =
      let e : a + suc n ≡ (a + 1) + n = omega arith in
      rw e (every_on n (a + 1) ∙ ap (λ b. b && list_all f (range_with_len (a + 1) n)) (every_more a f) ∙ and_assoc (every_below a f) (f a) (list_all f (range_with_len (a + 1) n)))

  some_list : (n : ℕ) → list_any f (range_with_len 0 n) ≡ some_below n f
  unfolding some_below
  some_list n = let e : 0 + n ≡ n = omega arith in sym (some_on n 0) ∙ ap (λ k. some_below k f) e

  every_list : (n : ℕ) → list_all f (range_with_len 0 n) ≡ every_below n f
  unfolding every_below
  every_list n = let e : 0 + n ≡ n = omega arith in sym (every_on n 0) ∙ ap (λ k. every_below k f) e

module _ {F : Type 0} {g : Mut F (ℕ × Unit {0}) Bool} (test : ℕ → Bool) (n : ℕ) {u : Range ℕ} {f : F} {r : Bool} where
  pub some_from_any : (xs : List ℕ) × (o : Option ℕ) × (j : F) × YieldsThen nat_range_steps (record { start = 0; end = n }) xs o u
      × FoldsTo (λ p x q. Called g p (x, tt) false q) f xs j × MatchOption o (r ≡ false) (λ x. (r ≡ true) × ((h : F) × Called g j (x, tt) true h))
      → ((x : ℕ) (b : Bool) (q : F) → Called g f (x, tt) b q → (q ≡ f) × (b ≡ test x)) → r ≡ some_below n test
  some_from_any ran is_test = any_from_yields_List test _ _ r ran (YieldsList-from_range 0 n n refl (sub-zero n)) is_test ∙ some_list test n

  pub every_from_all : (xs : List ℕ) × (o : Option ℕ) × (j : F) × YieldsThen nat_range_steps (record { start = 0; end = n }) xs o u
      × FoldsTo (λ p x q. Called g p (x, tt) true q) f xs j × MatchOption o (r ≡ true) (λ x. (r ≡ false) × ((h : F) × Called g j (x, tt) false h))
      → ((x : ℕ) (b : Bool) (q : F) → Called g f (x, tt) b q → (q ≡ f) × (b ≡ test x)) → r ≡ every_below n test
  every_from_all ran is_test = all_from_yields_List test _ _ r ran (YieldsList-from_range 0 n n refl (sub-zero n)) is_test ∙ every_list test n
