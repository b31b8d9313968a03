-- Every accepted call on every sound ledger is its steps: the runs of its parts put together, with nothing left to settle. On ledgers, and
-- on words. Assumes nothing.
use mathlib.Core.Path.{◌≡◌, refl, sym, ap, ◌∙◌}
use mathlib.Core.Logic.{inl, inr}
use mathlib.Core.Bool.{cond, and-false, ◌&&◌}
use mathlib.Core.List.{[]}
use Prim.Native.Nat.{ℕ}
use Rattle.rules.specs.Names.{Day}
use Rattle.rules.specs.declared.Terms.{Terms}
use Rattle.rules.specs.Plan.{Plan, track_count, is_root}
use Rattle.rules.specs.Ledger.{Configuration, Ledger, is_awake, sleeping}
use Rattle.rules.specs.Event.{moved, after_event}
use Rattle.rules.specs.Finish.{is_finishing, finished}
use Rattle.rules.specs.Signal.{after_signal}
use Rattle.rules.specs.Fire.{after_fire}
use Rattle.rules.specs.Call.{Call, event, signal, fire, call_refusal, after}
use Rattle.rules.proofs.Tests.{look}
use Rattle.rules.proofs.Acceptance.{Accepted}
use Rattle.rules.proofs.Finishing.{finish_due, finish_not}
use Rattle.theory.proofs.Nesting.{Nested}
use Rattle.theory.proofs.SoundParts.{RootsAwake}
use Rattle.restoration.proofs.Theorems01.{fire_accepted, moved_nested, sleeping_asleep, Sound, work, worked}
use Rattle.automaton.specs.Configuration.{Vect}
use Rattle.automaton.specs.Semantics.{FailReading, Run}
use Rattle.automaton.specs.View.{is_on_top, view_of, view, acts_of}
use Rattle.automaton.specs.BigSteps.{after_finish}
use Rattle.automaton.specs.Exactly.{Stepwise}
use Rattle.automaton.proofs.Listings.{listed_none, run_then}
use Rattle.automaton.proofs.Terminated.{finishing_terminated}
use Rattle.automaton.proofs.Settled.{view_settled}
use Rattle.automaton.proofs.MovingSteps.{moving_run}
use Rattle.automaton.proofs.ClosingSteps.{closing_run}
use Rattle.automaton.proofs.TurningSteps.{signal_run}
use Rattle.automaton.proofs.FiringSteps.{fire_run}
use Rattle.automaton.proofs.Figures.{figures_counted}

module _ (p : Plan) (ρ : FailReading) (ok : Accepted p) where
  -- a ledger that is over shows nothing
  pub over_view : (l : Ledger) → ((t : ℕ) → l t ≡ sleeping) → view p ρ l ≡ Vect []
  unfolding view is_on_top
  over_view l o =
      ap Vect
      (listed_none (track_count p) (is_on_top p l) (view_of p ρ l)
      (λ t b. ap (λ (c : Configuration). is_root p t && is_awake c.mode) (o t) ∙ ap (λ x. is_root p t && x) sleeping_asleep ∙ and-false (is_root p t)))

  -- Finish: nothing is left to show where the vector has terminated
  finished_view : (l : Ledger) → Nested p l → RootsAwake p l → view p ρ (finished p l) ≡ after_finish p (view p ρ l)
  unfolding after_finish
  finished_view l n roots =
      elim (look (is_finishing p l)) [
        | inl h ↦
            over_view (finished p l) (finish_due p l h)
            ∙ sym (ap (λ x. cond x (Vect []) (view p ρ l)) (sym (finishing_terminated p ρ ok l n roots) ∙ h))
        | inr h ↦
            ap (view p ρ) (finish_not p l h)
            ∙ sym (ap (λ x. cond x (Vect []) (view p ρ l)) (sym (finishing_terminated p ρ ok l n roots) ∙ h))
      ]

  module _ (terms : Terms) (day : Day) (l : Ledger) (s : Sound terms p l) where
    abbrev n : Nested p l
    n = s.formed.nested

    -- the steps of a call, finish apart
    work_run : (c : Call) → call_refusal terms p day l c ≡ 0 → Run p ρ (view p ρ l) (acts_of p ρ l c) (view p ρ (work p l c))
    unfolding acts_of
    work_run (event a) h =
        run_then p ρ (moving_run p l a ρ ok n) (closing_run p ρ ok (moved p l a) (moved_nested p l a ok n))
    work_run (signal a) h = signal_run p ρ ok l n a
    work_run (fire a) h = fire_run p ρ ok l n a.track (s.formed.good a.track) (fire_accepted terms p day l a h).1

    -- and then finish
    after_work : (c : Call) → after p l c ≡ finished p (work p l c)
    unfolding after after_event after_signal after_fire
    after_work (event a) = refl
    after_work (signal a) = refl
    after_work (fire a) = refl

    pub after_view : (c : Call) → call_refusal terms p day l c ≡ 0 → view p ρ (after p l c) ≡ after_finish p (view p ρ (work p l c))
    after_view c h = let w = worked terms p ok l s day c h in ap (view p ρ) (after_work c) ∙ finished_view (work p l c) w.nested w.roots

    -- every accepted call on every sound ledger
    pub stepwise : (c : Call) → call_refusal terms p day l c ≡ 0 → Stepwise p ρ terms l c
    stepwise c h =
        let m = work p l c in
        let w = worked terms p ok l s day c h in
        record {
          reached = view p ρ m;
          run = work_run c h;
          settled = view_settled p ρ ok m w.nested w.closing w.abandoning;
          left = after_view c h;
          told = figures_counted p ρ ok l n terms c;
        }
