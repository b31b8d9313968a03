-- Entries without a deviation: what installing, removing and firing do with them. A firing of such an entry removes it, and no more. Assumes nothing.
use mathlib.Core.Path.{◌≡◌, refl, ◌∙◌}
use mathlib.Core.Logic.{inl, inr}
use mathlib.Core.Bool.{true}
use mathlib.Core.List.{List, [], ◌∷◌}
use Prim.Native.Nat.{ℕ}
use lib.Dec.{eqb}
use borrow.Author.Tests.{eqb-true, eq-eqb}
use Rattle.rules.specs.Plan.{Plan, no_state, optional}
use Rattle.rules.specs.Ledger.{Entry, Ledger}
use Rattle.rules.specs.Soundness.{every_held}
use Rattle.rules.specs.Event.{install}
use Rattle.rules.specs.Fire.{newest, older, removed, deviates_to, fired}
use Rattle.rules.specs.FiringsDue.{is_plain}
use Rattle.rules.proofs.Tests.{look, and_holds, and_both}
use Rattle.rules.proofs.Acceptance.{Accepted}
use Rattle.rules.proofs.Opening.{enter_none}
use Rattle.theory.proofs.FiringNested.{fired_is, removed_here, removed_other, deviates_not}

pub plain_none : is_plain [] ≡ true
unfolding is_plain every_held
plain_none = refl

pub plain_install : (code deviation : ℕ) (es : List Entry) → deviation ≡ no_state → is_plain es ≡ true → is_plain (install code deviation es) ≡ true
unfolding is_plain every_held install
plain_install code deviation es d h =
    elim (look (eqb code 0)) [ inl e ↦ rw e h | inr e ↦ rw e (and_both (eqb deviation no_state) (is_plain es) (eq-eqb deviation no_state d) h) ]

pub plain_older : (es : List Entry) → is_plain es ≡ true → is_plain (older es) ≡ true
unfolding is_plain every_held older
plain_older [] h = h
plain_older (e ∷ es) h = (and_holds (eqb e.deviation no_state) (is_plain es) h).1

pub plain_newest : (es : List Entry) → is_plain es ≡ true → (newest es).deviation ≡ no_state
unfolding is_plain every_held newest
plain_newest [] h = refl
plain_newest (e ∷ es) h = eqb-true e.deviation no_state (and_holds (eqb e.deviation no_state) (is_plain es) h).0

module _ (p : Plan) (l : Ledger) (t : ℕ) where
  pub plain_removed : (u : ℕ) → is_plain (l u).held ≡ true → is_plain (removed l t u).held ≡ true
  plain_removed u i =
      elim (look (eqb u t)) [
        | inl e ↦ rw (removed_here p l t u e) (plain_older (l u).held i)
        | inr e ↦ rw (removed_other p l t u e) i
      ]

  pub fired_plain : Accepted p → is_plain (l t).held ≡ true → fired p l t ≡ removed l t
  unfolding optional
  fired_plain ok h =
      fired_is p l t
      ∙ enter_none p ok (deviates_to l t) (removed l t)
      (deviates_not p l t (rw (eq-eqb (newest (l t).held).deviation no_state (plain_newest (l t).held h))))
