-- The automaton's theorem about words, of the calls themselves: each call's own contract, as the checker reads it off the source of `manager`,
-- says that it answers and leaves what `call_outcome` says. Weaken a contract there, and this file is refused. Assumes nothing.
use mathlib.Core.Path.{◌≡◌, sym, subst, ◌∙◌}
use mathlib.Core.List.{List}
use Prim.Native.Nat.{ℕ}
use contract.Lifetimes.{Lfts}
use denote.Triple.Clauses.{AtExit}
use borrow.Fn.Kinds.{ended_of}
use borrow.Fn.World.{ArgsD, ResD}
use Rattle.rules.specs.declared.Counts.{Counts}
use Rattle.rules.specs.Plan.{plan_of, track_count}
use Rattle.rules.specs.Acceptance.{accepted, read_plan}
use Rattle.rules.specs.declared.Terms.{Terms}
use Rattle.rules.specs.Ledger.{ledger_at}
use Rattle.rules.specs.Call.{Answer, refusal, done, Call, call_outcome, Meets}
use Rattle.rules.specs.Call as paper
use Rattle.rules.specs.Answers.{event_told, signal_told, fire_told}
use Rattle.manager.specs.contracts.calls.event as event
use Rattle.manager.proofs.calls.event.Kinds as event-kinds
use Rattle.manager.proofs.calls.event.Reads as event-reads
use Rattle.manager.specs.contracts.calls.signal as signal
use Rattle.manager.proofs.calls.signal.Kinds as signal-kinds
use Rattle.manager.proofs.calls.signal.Reads as signal-reads
use Rattle.manager.specs.contracts.calls.fire as fire
use Rattle.manager.proofs.calls.fire.Kinds as fire-kinds
use Rattle.manager.proofs.calls.fire.Reads as fire-reads
use Rattle.property3.proofs.Readings.{event_meets, signal_meets, fire_meets}
use Rattle.automaton.specs.Semantics.{FailReading}
use Rattle.automaton.specs.View.{view}
use Rattle.automaton.specs.Enabled.{StepFor}
use Rattle.automaton.proofs.CallsOnWords.{Stepless, ExactlyWords, words_exactly, refused_still, words_refused}

-- What is said of a call that was made: accepted, it is exactly the automaton's; refused, it leaves every word, and where the refusal is
-- 19, 20, 22 or 28 the automaton has no step for it.
pub record AsAutomaton (ρ : FailReading) (terms : Terms) (bs : List ℕ) (k : Counts) (read : read_plan bs ≡ accepted k) (ws : List ℕ) (c : Call) (told : Answer)
    (left : List ℕ) : Type 0 where
  pub accepted_exactly : (figures : List ℕ) → told ≡ done figures → ExactlyWords ρ terms bs k read ws c figures left
  pub refused_still : (r : ℕ) → told ≡ refusal r → left ≡ ws
  pub refused_none : (r : ℕ) → told ≡ refusal r → Stepless r
      → StepFor (plan_of bs k) ρ c (view (plan_of bs k) ρ (ledger_at terms ws (track_count (plan_of bs k)))) → ⊥

module _ (ρ : FailReading) (terms : Terms) (bs : List ℕ) (k : Counts) (read : read_plan bs ≡ accepted k) where
  -- by the promise that every contract makes
  pub as_automaton : (ws : List ℕ) (c : Call) {told : Answer} {left : List ℕ} → Meets (call_outcome terms bs ws c) told left
      → AsAutomaton ρ terms bs k read ws c told left
  as_automaton ws c {told} {left} m =
      record {
        accepted_exactly = λ figures e.
            subst (λ (v : List ℕ). ExactlyWords ρ terms bs k read ws c figures v) (sym m.left)
            (words_exactly ρ terms bs k read ws c figures (sym m.answered ∙ e));
        refused_still = λ r e. m.left ∙ refused_still ρ terms bs k read ws c r (sym m.answered ∙ e);
        refused_none = λ r e. words_refused ρ terms bs k read ws c r (sym m.answered ∙ e);
      }

-- The three calls, each at its arguments a, its answer r and what it left s: a.0 are the terms, a.1.0 the plan, a.1.1.0 the ledger,
-- s.1.1.0 the ledger afterwards.
pub event_exactly : (ρ : FailReading) (κs : Lfts 2) (a : ArgsD event.signature κs) (r : ResD event.signature κs)
    (s : AtExit (ended_of 2 event-kinds.ps event-kinds.r) κs) → event-reads.Post κs a r s
    → (k : Counts) (read : read_plan a.1.0.now ≡ accepted k)
    → AsAutomaton ρ a.0 a.1.0.now k read a.1.1.0.now (paper.event (record { event = a.1.1.1.0; day = a.1.1.1.1.0; society = a.1.1.1.1.1.0 })) (event_told r) s.1.1.0.now
event_exactly ρ κs a r s p k read = as_automaton ρ a.0 a.1.0.now k read a.1.1.0.now _ (event_meets κs a r s p)

pub signal_exactly : (ρ : FailReading) (κs : Lfts 2) (a : ArgsD signal.signature κs) (r : ResD signal.signature κs)
    (s : AtExit (ended_of 2 signal-kinds.ps signal-kinds.r) κs) → signal-reads.Post κs a r s
    → (k : Counts) (read : read_plan a.1.0.now ≡ accepted k)
    → AsAutomaton ρ a.0 a.1.0.now k read a.1.1.0.now (paper.signal (record { society = a.1.1.1.0 })) (signal_told r) s.1.1.0.now
signal_exactly ρ κs a r s p k read = as_automaton ρ a.0 a.1.0.now k read a.1.1.0.now _ (signal_meets κs a r s p)

pub fire_exactly : (ρ : FailReading) (κs : Lfts 2) (a : ArgsD fire.signature κs) (r : ResD fire.signature κs)
    (s : AtExit (ended_of 2 fire-kinds.ps fire-kinds.r) κs) → fire-reads.Post κs a r s
    → (k : Counts) (read : read_plan a.1.0.now ≡ accepted k)
    → AsAutomaton ρ a.0 a.1.0.now k read a.1.1.0.now (paper.fire (record { track = a.1.1.1.0; society = a.1.1.1.1.0 })) (fire_told r) s.1.1.0.now
fire_exactly ρ κs a r s p k read = as_automaton ρ a.0 a.1.0.now k read a.1.1.0.now _ (fire_meets κs a r s p)
