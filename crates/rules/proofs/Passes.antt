-- A pass over the tracks in rising order: those passed are as one ledger has them, the others as another has. Assumes nothing.
use mathlib.Core.Path.{◌≡◌, sym, ap, ◌∙◌, fun_ext}
use mathlib.Core.Logic.{inl, inr}
use mathlib.Core.Bool.{cond}
use mathlib.Core.List.{List}
use Prim.Native.Nat.{ℕ, ◌+◌, ◌<◌, ◌≤◌}
use native.Mathlib.Omega.{arith}
use lib.Dec.{eqb, ltb}
use borrow.Author.Tests.{eqb-true, eqb-false, lt-ltb, le-ltb, ltb-true, ltb-false}
use Rattle.rules.specs.declared.Terms.{Terms}
use Rattle.rules.specs.Ledger.{Ledger, written}
use Rattle.rules.proofs.Tests.{look}
use Rattle.rules.proofs.Stored.{written_same}
use Rattle.rules.proofs.Replaced.{updated, updated_here, updated_other}

module _ (new old : Ledger) where
  -- the tracks below i are the new ones
  unfoldable pub up_to : ℕ → Ledger
  up_to i t = cond (ltb t i) (new t) (old t)

  pub up_new : (i t : ℕ) → t < i → up_to i t ≡ new t
  unfolding up_to
  up_new i t h = rw (lt-ltb t i h)

  pub up_old : (i t : ℕ) → i ≤ t → up_to i t ≡ old t
  unfolding up_to
  up_old i t h = rw (le-ltb t i h)

  pub up_none : up_to 0 ≡ old
  up_none = fun_ext (λ t. up_old 0 t (omega arith))

  -- one track more
  pub up_more : (i : ℕ) → updated (up_to i) i (new i) ≡ up_to (i + 1)
  up_more i =
      fun_ext
      (λ t.
      elim (look (eqb t i)) [
        | inl e ↦
            let q = eqb-true t i e in
            ap (updated (up_to i) i (new i)) q ∙ updated_here (up_to i) i (new i) ∙ sym (ap (up_to (i + 1)) q ∙ up_new (i + 1) i (omega arith))
        | inr e ↦
            let f : t ≡ i → ⊥ = eqb-false t i e in
            updated_other (up_to i) i t (new i) f
            ∙ elim (look (ltb t i)) [
              | inl l ↦ let m = ltb-true t i l in up_new i t m ∙ sym (up_new (i + 1) t (omega arith))
              | inr l ↦ let m : i ≤ t = ltb-false t i l in up_old i t m ∙ sym (up_old (i + 1) t (omega arith))
            ]
      ])

  -- all tracks passed
  pub up_all : (terms : Terms) (n : ℕ) (ws : List ℕ) → written terms n (up_to n) ws ≡ written terms n new ws
  up_all terms n ws = written_same terms n (up_to n) new ws (λ t h. up_new n t h)
