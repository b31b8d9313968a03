-- Installing: a code 0 leaves the entries as they are, any other makes one more; modes and states stay. What an entry keeps beside its code
-- and its deviation is a seam, so an installed entry is good if these two are. Assumes nothing.
use mathlib.Core.Path.{◌≡◌, refl, ap, ◌∙◌}
use mathlib.Core.Logic.{inl, inr}
use mathlib.Core.Bool.{true, false}
use mathlib.Core.List.{List, ◌∷◌}
use mathlib.Core.Option.{Option, none, some}
use Prim.Native.Nat.{ℕ, suc, ◌<◌, ◌≤◌}
use native.Mathlib.Omega.{arith}
use lib.ListN.{length}
use lib.Dec.{eqb}
use Rattle.rules.specs.Plan.{Plan, transition}
use Rattle.rules.specs.Ledger.{Entry, Configuration}
use Rattle.rules.proofs.Tests.{look}
use Rattle.theory.specs.Seams.{Seams, install, installed, installed_by}
use Rattle.theory.proofs.Entries.{may_deviate, Good, good_more}
use Rattle.theory.proofs.Laws.{Laws}
use Rattle.rules.specs.declared.Terms.{Terms}

module _ (make : ℕ → ℕ → Entry) where
  pub install_none : (c d : ℕ) (es : List Entry) → eqb c 0 ≡ true → install make c d es ≡ es
  unfolding install
  install_none c d es h = rw h

  pub install_one : (c d : ℕ) (es : List Entry) → eqb c 0 ≡ false → install make c d es ≡ make c d ∷ es
  unfolding install
  install_one c d es h = rw h

  pub installed_mode : (c d : ℕ) (k : Configuration) → (installed make c d k).mode ≡ k.mode
  unfolding installed
  installed_mode c d k = refl

  pub installed_state : (c d : ℕ) (k : Configuration) → (installed make c d k).state ≡ k.state
  unfolding installed
  installed_state c d k = refl

  pub installed_held : (c d : ℕ) (k : Configuration) → (installed make c d k).held ≡ install make c d k.held
  unfolding installed
  installed_held c d k = refl

  pub by_mode : (p : Plan) (o : Option ℕ) (k : Configuration) → (installed_by make p o k).mode ≡ k.mode
  unfolding installed_by installed
  by_mode p none k = refl
  by_mode p (some x) k = refl

  pub by_state : (p : Plan) (o : Option ℕ) (k : Configuration) → (installed_by make p o k).state ≡ k.state
  unfolding installed_by installed
  by_state p none k = refl
  by_state p (some x) k = refl

  pub by_none : (p : Plan) (o : Option ℕ) (k : Configuration) → o ≡ none → installed_by make p o k ≡ k
  unfolding installed_by
  by_none p o k h = rw (h, installed_by)

  pub by_some : (p : Plan) (o : Option ℕ) (k : Configuration) (x : ℕ) → o ≡ some x
      → (installed_by make p o k).held ≡ install make (transition p x).code (transition p x).deviation k.held
  unfolding installed_by installed
  by_some p o k x h = rw (h, installed_by)

  -- how many entries: one more fits where there is room for it
  pub install_length : (c d : ℕ) (es : List Entry) → length (install make c d es) ≤ suc (length es)
  install_length c d es =
      elim (look (eqb c 0)) [ inl h ↦ rw (install_none c d es h) (omega arith) | inr h ↦ rw (install_one c d es h) (omega arith) ]

  pub install_fits : (terms : Terms) (c d : ℕ) (es : List Entry) → length es ≤ terms.limit → (eqb c 0 ≡ false → length es < terms.limit)
      → length (install make c d es) ≤ terms.limit
  install_fits terms c d es f r =
      elim (look (eqb c 0)) [
        | inl h ↦ rw (install_none c d es h) f
        | inr h ↦ let a = install_length c d es in let b = r h in omega arith
      ]

pub good_install : {σ : Seams} (ω : Laws σ) (p : Plan) (a : σ.Event) (t c d : ℕ) (es : List Entry)
    → (eqb c 0 ≡ false → may_deviate p t d ≡ true) → Good p t es → Good p t (install (σ.entry a) c d es)
good_install {σ} ω p a t c d es k g =
    elim (look (eqb c 0)) [
      | inl h ↦ rw (install_none (σ.entry a) c d es h) g
      | inr h ↦
          rw (install_one (σ.entry a) c d es h)
          (good_more p t (σ.entry a c d) es (ap (λ (y : ℕ). eqb y 0) (ω.entry_code_lem a c d) ∙ h)
          (ap (may_deviate p t) (ω.entry_deviation_lem a c d) ∙ k h) g)
    ]
