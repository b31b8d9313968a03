-- A call settled: an accepted one leaves its work or all asleep, and over no call is accepted. Assumes nothing.
use mathlib.Core.Path.{◌≡◌}
use mathlib.Core.Logic.{◌⊎◌, inl, inr}
use mathlib.Core.Bool.{true}
use Rattle.rules.specs.Plan.{Plan}
use Rattle.rules.specs.Ledger.{Ledger}
use Rattle.rules.specs.Scope.{is_over}
use Rattle.rules.proofs.Tests.{clash}
use Rattle.theory.specs.Seams.{Seams, Call, event, signal, fire, work}
use Rattle.theory.proofs.SoundParts.{Over}
use Rattle.theory.proofs.Laws.{Laws}
use Rattle.rules.specs.declared.Terms.{Terms}

module _ {σ : Seams} (ω : Laws σ) (terms : Terms) (p : Plan) (h : σ.Head) (l : Ledger) where
  open σ use {refusal, next}

  pub next_cases : (c : Call σ) → refusal terms p h l c ≡ 0 → (next terms p h l c ≡ work σ p l c) ⊎ Over (next terms p h l c)
  next_cases c z = elim (ω.settled terms p h l c z) [ inl q ↦ inl q.0 | inr o ↦ inr o ]

  pub over_refused : is_over p l ≡ true → (c : Call σ) → refusal terms p h l c ≡ 0 → ⊥
  over_refused o (event a) z = clash o (ω.event_accepted terms p h l a z).0
  over_refused o (signal a) z = clash o (ω.signal_accepted terms p h l a z)
  over_refused o (fire a) z = clash o (ω.fire_accepted terms p h l a z).0
