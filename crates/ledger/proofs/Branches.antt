-- Tests taken one after the other: `if !a { return false; } b` is "a and b", and `if !a { return true; } b` is "not a, or b". What the code
-- answered is q and r. And `a && b` itself, which is b where a holds, and a where it fails. Assumes nothing.
use Rattle.std.proofs.Common.{◌≡◌, sym, ◌∙◌, Bool, true, false, not, ◌&&◌, ◌||◌}
use borrow.Author.Tests.{not-true, not-false}

pub and_then : {a : Bool} (b : Bool) → a ≡ true → b ≡ (a && b)
and_then b h = rw h

pub and_else : {a : Bool} (b : Bool) → a ≡ false → a ≡ (a && b)
and_else b h = rw h

module _ {q a : Bool} (e : q ≡ a) where
  pub and_stops : (b : Bool) → not q ≡ true → false ≡ (a && b)
  and_stops b h = rw (sym e ∙ not-true q h)

  pub and_goes : {r b : Bool} → not q ≡ false → r ≡ b → r ≡ (a && b)
  and_goes h f = f ∙ rw (sym e ∙ not-false q h)

  pub or_stops : (b : Bool) → not q ≡ true → true ≡ (not a || b)
  or_stops b h = rw (sym e ∙ not-true q h)

  pub or_goes : {r b : Bool} → not q ≡ false → r ≡ b → r ≡ (not a || b)
  or_goes h f = f ∙ rw (sym e ∙ not-false q h)

  -- what was asked holds, or fails
  pub holds : not q ≡ false → a ≡ true
  holds h = sym e ∙ not-false q h

  pub fails : not q ≡ true → a ≡ false
  fails h = sym e ∙ not-true q h
