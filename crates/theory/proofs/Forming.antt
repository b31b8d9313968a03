-- Entering, turning and abandoning keep a ledger formed: they make no entries. Assumes nothing.
use mathlib.Core.Path.{sym, ap, ◌∙◌, subst}
use mathlib.Core.Logic.{inl, inr}
use mathlib.Core.Option.{Option}
use Prim.Native.Nat.{ℕ, ◌≤◌}
use lib.ListN.{length}
use Rattle.rules.specs.Plan.{Plan}
use Rattle.rules.specs.Ledger.{Configuration, Ledger}
use Rattle.rules.specs.Opening.{enter}
use Rattle.rules.specs.Signal.{is_abandoned, abandoned}
use Rattle.rules.proofs.Tests.{look}
use Rattle.rules.proofs.Acceptance.{Accepted}
use Rattle.rules.proofs.Abandoning.{left_asleep, left_kept}
use Rattle.theory.specs.Seams.{Seams, turned}
use Rattle.theory.proofs.EnteringNested.{Enterable, Fate, enters, wakens, stays, fate, fresh_held, enter_nested}
use Rattle.theory.proofs.Entries.{Good}
use Rattle.theory.proofs.SoundParts.{Formed, sleeping_held, sleeping_few, sleeping_good}
use Rattle.theory.proofs.Laws.{Laws}
use Rattle.theory.proofs.Turning.{turned_held}
use Rattle.theory.proofs.SignalNested.{turned_nested, abandoned_nested}
use Rattle.rules.specs.declared.Terms.{Terms}

module _ (terms : Terms) (p : Plan) (ok : Accepted p) (l : Ledger) (f : Formed terms p l) where
  pub enter_formed : (to : ℕ → Option ℕ) → Enterable p l to → Formed terms p (enter p to l)
  enter_formed to g =
      record {
        nested = enter_nested p ok l to f.nested g;
        few = λ t. few t (fate p ok l to t);
        good = λ t. good t (fate p ok l to t);
      }
    where
      few : (t : ℕ) → Fate p ok l to t → length (enter p to l t).held ≤ terms.limit
      few t (enters s e q) = subst (λ c. length c.held ≤ terms.limit) (sym q) (f.few t)
      few t (wakens e w q) = sleeping_few terms p (enter p to l t) (ap (λ c. c.held) q ∙ fresh_held p t)
      few t (stays e w q) = subst (λ c. length c.held ≤ terms.limit) (sym q) (f.few t)

      good : (t : ℕ) → Fate p ok l to t → Good p t (enter p to l t).held
      good t (enters s e q) = subst (λ c. Good p t c.held) (sym q) (f.good t)
      good t (wakens e w q) = sleeping_good terms p t (enter p to l t) (ap (λ c. c.held) q ∙ fresh_held p t)
      good t (stays e w q) = subst (λ c. Good p t c.held) (sym q) (f.good t)

  pub abandoned_formed : Formed terms p (abandoned p l)
  abandoned_formed =
      record {
        nested = abandoned_nested p ok l f.nested;
        few =
            λ t.
            elim (look (is_abandoned p l t)) [
              | inl c ↦ sleeping_few terms p (abandoned p l t) (ap (λ (k : Configuration). k.held) (left_asleep p ok l t c) ∙ sleeping_held)
              | inr c ↦ subst (λ (k : Configuration). length k.held ≤ terms.limit) (sym (left_kept p ok l t c)) (f.few t)
            ];
        good =
            λ t.
            elim (look (is_abandoned p l t)) [
              | inl c ↦ sleeping_good terms p t (abandoned p l t) (ap (λ (k : Configuration). k.held) (left_asleep p ok l t c) ∙ sleeping_held)
              | inr c ↦ subst (λ (k : Configuration). Good p t k.held) (sym (left_kept p ok l t c)) (f.good t)
            ];
      }

module _ {σ : Seams} (ω : Laws σ) (terms : Terms) (p : Plan) (ok : Accepted p) (l : Ledger) (f : Formed terms p l) where
  pub turned_formed : (a : σ.Signal) → Formed terms p (turned σ p l a)
  turned_formed a =
      record {
        nested = turned_nested ω p ok l f.nested a;
        few = λ t. rw (turned_held ω p l a t) (f.few t);
        good = λ t. rw (turned_held ω p l a t) (f.good t);
      }
