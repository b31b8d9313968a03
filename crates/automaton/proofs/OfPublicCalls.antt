-- The public calls: at either setting each does exactly what the automaton does, by its own contract. Assumes nothing.
use mathlib.Core.Path.{◌≡◌}
use contract.Lifetimes.{Lfts}
use denote.Triple.Clauses.{AtExit}
use borrow.Fn.Kinds.{ended_of}
use borrow.Fn.World.{ArgsD, ResD}
use Rattle.rules.specs.declared.Counts.{Counts}
use Rattle.rules.specs.Setting.{terms_of}
use Rattle.rules.specs.Acceptance.{accepted, read_plan}
use Rattle.rules.specs.Call as paper
use Rattle.rules.specs.Answers.{event_told, signal_told, fire_told}
use Rattle.manager.specs.contracts.event as event
use Rattle.manager.proofs.event.Kinds as event-kinds
use Rattle.manager.proofs.event.Reads as event-reads
use Rattle.manager.specs.contracts.signal as signal
use Rattle.manager.proofs.signal.Kinds as signal-kinds
use Rattle.manager.proofs.signal.Reads as signal-reads
use Rattle.manager.specs.contracts.fire as fire
use Rattle.manager.proofs.fire.Kinds as fire-kinds
use Rattle.manager.proofs.fire.Reads as fire-reads
use Rattle.property3.proofs.PublicReadings.{event_at, signal_at, fire_at}
use Rattle.automaton.specs.Semantics.{FailReading}
use Rattle.automaton.proofs.OfCalls.{AsAutomaton, event_exactly, signal_exactly, fire_exactly}

-- a.0 is the setting, a.1.0 the plan, a.1.1.0 the ledger, s.1.1.0 the ledger afterwards
pub event_at_setting : (ρ : FailReading) (κs : Lfts 2) (a : ArgsD event.signature κs) (r : ResD event.signature κs)
    (s : AtExit (ended_of 2 event-kinds.ps event-kinds.r) κs) → event-reads.Post κs a r s
    → (k : Counts) (read : read_plan a.1.0.now ≡ accepted k)
    → AsAutomaton ρ (terms_of a.0) a.1.0.now k read a.1.1.0.now (paper.event (record { event = a.1.1.1.0; day = a.1.1.1.1.0; society = a.1.1.1.1.1.0 })) (event_told r) s.1.1.0.now
event_at_setting ρ κs a r s p k read = event_exactly ρ κs (terms_of a.0, a.1) r (terms_of s.0, s.1) (event_at κs a r s p) k read

pub signal_at_setting : (ρ : FailReading) (κs : Lfts 2) (a : ArgsD signal.signature κs) (r : ResD signal.signature κs)
    (s : AtExit (ended_of 2 signal-kinds.ps signal-kinds.r) κs) → signal-reads.Post κs a r s
    → (k : Counts) (read : read_plan a.1.0.now ≡ accepted k)
    → AsAutomaton ρ (terms_of a.0) a.1.0.now k read a.1.1.0.now (paper.signal (record { society = a.1.1.1.0 })) (signal_told r) s.1.1.0.now
signal_at_setting ρ κs a r s p k read = signal_exactly ρ κs (terms_of a.0, a.1) r (terms_of s.0, s.1) (signal_at κs a r s p) k read

pub fire_at_setting : (ρ : FailReading) (κs : Lfts 2) (a : ArgsD fire.signature κs) (r : ResD fire.signature κs)
    (s : AtExit (ended_of 2 fire-kinds.ps fire-kinds.r) κs) → fire-reads.Post κs a r s
    → (k : Counts) (read : read_plan a.1.0.now ≡ accepted k)
    → AsAutomaton ρ (terms_of a.0) a.1.0.now k read a.1.1.0.now (paper.fire (record { track = a.1.1.1.0; society = a.1.1.1.1.0 })) (fire_told r) s.1.1.0.now
fire_at_setting ρ κs a r s p k read = fire_exactly ρ κs (terms_of a.0, a.1) r (terms_of s.0, s.1) (fire_at κs a r s p) k read
