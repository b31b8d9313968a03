-- The checks of a lent ledger, 17, 24 and 18, taken as one: a ledger passes them, or is refused by one number whatever is checked after
-- them. By the three tests, true or false. Assumes nothing.
use mathlib.Core.Path.{◌≡◌, refl, sym, ◌∙◌}
use mathlib.Core.Logic.{◌⊎◌, inl, inr}
use mathlib.Core.Bool.{Bool, true, false, cond, not}
use mathlib.Core.List.{List, ◌++◌}
use Prim.Native.Nat.{ℕ, zero, suc}
use native.Mathlib.Omega.{arith}
use borrow.Author.Tests.{not-false}
use Rattle.rules.specs.declared.Terms.{Terms}
use Rattle.rules.specs.Fold.{first_refusal}
use Rattle.rules.specs.Plan.{Plan}
use Rattle.rules.specs.Leading.{other_plan}
use Rattle.rules.specs.Soundness.{is_sound}
use Rattle.rules.specs.Call.{too_short, ledger_refusals, ledger_refusal}
use Rattle.rules.proofs.Tests.{passed}

-- a ledger that passes them: long enough, the plan's own, and sound
pub record Passes (terms : Terms) (bs : List ℕ) (p : Plan) (ws : List ℕ) : Type 0 where
  pub long : too_short terms p ws ≡ false
  pub own : other_plan bs ws ≡ false
  pub sound : is_sound terms p ws ≡ true

-- a refusal before others decides
unfoldable pub unless_refused : ℕ → ℕ → ℕ
unless_refused zero n = n
unless_refused (suc r) n = suc r

pub unless_none : (n : ℕ) → unless_refused n 0 ≡ n
unfolding unless_refused
unless_none zero = refl
unless_none (suc r) = refl

-- the tests, true or false
three : (a b c : Bool) (n : ℕ) → cond a 17 (cond b 24 (cond c 18 n)) ≡ unless_refused (cond a 17 (cond b 24 (cond c 18 0))) n
unfolding unless_refused
three true b c n = refl
three false true c n = refl
three false false true n = refl
three false false false n = refl

numbers : (a b c : Bool) (r : ℕ) → cond a 17 (cond b 24 (cond c 18 0)) ≡ suc r → (suc r ≡ 17) ⊎ (suc r ≡ 24) ⊎ (suc r ≡ 18)
numbers true b c r e = inl (sym e)
numbers false true c r e = inr (inl (sym e))
numbers false false true r e = inr (inr (sym e))
numbers false false false r e = absurd (omega arith)

module _ (terms : Terms) (bs : List ℕ) (p : Plan) (ws : List ℕ) where
  -- what comes after them is asked of a ledger that passes them
  pub checked_first : (rs : List (ℕ × Bool)) → first_refusal (ledger_refusals terms bs p ws ++ rs) ≡ unless_refused (ledger_refusal terms bs p ws) (first_refusal rs)
  unfolding ledger_refusals ledger_refusal first_refusal
  checked_first rs = three (too_short terms p ws) (other_plan bs ws) (not (is_sound terms p ws)) (first_refusal rs)

  pub refused_first : (r : ℕ) → ledger_refusal terms bs p ws ≡ suc r → (rs : List (ℕ × Bool)) → first_refusal (ledger_refusals terms bs p ws ++ rs) ≡ suc r
  unfolding unless_refused
  refused_first r e rs = checked_first rs ∙ (rw e)

  -- a ledger passes them exactly if none of them refuses it
  pub passes_none : Passes terms bs p ws → ledger_refusal terms bs p ws ≡ 0
  unfolding ledger_refusals ledger_refusal first_refusal
  passes_none h = rw (h.long, h.own, h.sound)

  pub none_passes : ledger_refusal terms bs p ws ≡ 0 → Passes terms bs p ws
  unfolding ledger_refusals ledger_refusal first_refusal
  none_passes z =
      let (a, y) = passed (too_short terms p ws) 16 _ z in
      let (b, x) = passed (other_plan bs ws) 23 _ y in
      record { long = a; own = b; sound = not-false (is_sound terms p ws) (passed (not (is_sound terms p ws)) 17 _ x).0 }

  pub passes_first : Passes terms bs p ws → (rs : List (ℕ × Bool)) → first_refusal (ledger_refusals terms bs p ws ++ rs) ≡ first_refusal rs
  unfolding unless_refused
  passes_first h rs = checked_first rs ∙ (rw (passes_none h))

  pub first_passes : (rs : List (ℕ × Bool)) → first_refusal (ledger_refusals terms bs p ws ++ rs) ≡ 0 → Passes terms bs p ws
  first_passes rs z = go (ledger_refusal terms bs p ws) refl
    where
      go : (r : ℕ) → ledger_refusal terms bs p ws ≡ r → Passes terms bs p ws
      go zero e = none_passes e
      go (suc r) e = let q : suc r ≡ 0 = sym (refused_first r e rs) ∙ z in absurd (omega arith)

  -- each by itself
  pub short_refused : too_short terms p ws ≡ true → ledger_refusal terms bs p ws ≡ 17
  unfolding ledger_refusals ledger_refusal first_refusal
  short_refused a = rw a

  pub other_refused : too_short terms p ws ≡ false → other_plan bs ws ≡ true → ledger_refusal terms bs p ws ≡ 24
  unfolding ledger_refusals ledger_refusal first_refusal
  other_refused a b = rw (a, b)

  pub unsound_refused : too_short terms p ws ≡ false → other_plan bs ws ≡ false → is_sound terms p ws ≡ false → ledger_refusal terms bs p ws ≡ 18
  unfolding ledger_refusals ledger_refusal first_refusal
  unsound_refused a b c = rw (a, b, c)

  -- the numbers that they have
  pub ledger_numbers : (r : ℕ) → ledger_refusal terms bs p ws ≡ suc r → (suc r ≡ 17) ⊎ (suc r ≡ 24) ⊎ (suc r ≡ 18)
  unfolding ledger_refusals ledger_refusal first_refusal
  ledger_numbers r e = numbers (too_short terms p ws) (other_plan bs ws) (not (is_sound terms p ws)) r e
