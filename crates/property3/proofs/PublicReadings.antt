-- Each public call's contract, as the checker reads it off the source of `manager`, promises what the call at the setting's terms does: the same
-- answer and the same lent words, of the same arguments but for the terms. Weaken a contract there, and its line here is refused. Assumes nothing.
use contract.Lifetimes.{Lfts}
use denote.Triple.Clauses.{AtExit}
use borrow.Fn.Kinds.{ended_of}
use borrow.Fn.World.{ArgsD, ResD}
use Rattle.rules.specs.Setting.{terms_of}
use Rattle.manager.specs.contracts.begin as begin
use Rattle.manager.proofs.begin.Kinds as begin-kinds
use Rattle.manager.proofs.begin.Reads as begin_reads
use Rattle.manager.proofs.calls.begin.Reads as begin-calls
use Rattle.manager.specs.contracts.event as event
use Rattle.manager.proofs.event.Kinds as event-kinds
use Rattle.manager.proofs.event.Reads as event-reads
use Rattle.manager.proofs.calls.event.Reads as event-calls
use Rattle.manager.specs.contracts.signal as signal
use Rattle.manager.proofs.signal.Kinds as signal-kinds
use Rattle.manager.proofs.signal.Reads as signal-reads
use Rattle.manager.proofs.calls.signal.Reads as signal-calls
use Rattle.manager.specs.contracts.fire as fire
use Rattle.manager.proofs.fire.Kinds as fire-kinds
use Rattle.manager.proofs.fire.Reads as fire-reads
use Rattle.manager.proofs.calls.fire.Reads as fire-calls
use Rattle.manager.specs.contracts.ready as ready
use Rattle.manager.proofs.ready.Kinds as ready-kinds
use Rattle.manager.proofs.ready.Reads as ready-reads
use Rattle.manager.proofs.calls.ready.Reads as ready-calls
use Rattle.manager.specs.contracts.entries as entries
use Rattle.manager.proofs.entries.Kinds as entries-kinds
use Rattle.manager.proofs.entries.Reads as entries-reads
use Rattle.manager.proofs.calls.entries.Reads as entries-calls

-- a.0 is the setting, and s.0 the same afterwards
pub begin_at : (κs : Lfts 2) (a : ArgsD begin.signature κs) (r : ResD begin.signature κs) (s : AtExit (ended_of 2 begin-kinds.ps begin-kinds.r) κs)
    → begin_reads.Post κs a r s → begin-calls.Post κs (terms_of a.0, a.1) r (terms_of s.0, s.1)
begin_at κs a r s p = p

pub event_at : (κs : Lfts 2) (a : ArgsD event.signature κs) (r : ResD event.signature κs) (s : AtExit (ended_of 2 event-kinds.ps event-kinds.r) κs)
    → event-reads.Post κs a r s → event-calls.Post κs (terms_of a.0, a.1) r (terms_of s.0, s.1)
event_at κs a r s p = p

pub signal_at : (κs : Lfts 2) (a : ArgsD signal.signature κs) (r : ResD signal.signature κs) (s : AtExit (ended_of 2 signal-kinds.ps signal-kinds.r) κs)
    → signal-reads.Post κs a r s → signal-calls.Post κs (terms_of a.0, a.1) r (terms_of s.0, s.1)
signal_at κs a r s p = p

pub fire_at : (κs : Lfts 2) (a : ArgsD fire.signature κs) (r : ResD fire.signature κs) (s : AtExit (ended_of 2 fire-kinds.ps fire-kinds.r) κs)
    → fire-reads.Post κs a r s → fire-calls.Post κs (terms_of a.0, a.1) r (terms_of s.0, s.1)
fire_at κs a r s p = p

pub ready_at : (κs : Lfts 2) (a : ArgsD ready.signature κs) (r : ResD ready.signature κs) (s : AtExit (ended_of 2 ready-kinds.ps ready-kinds.r) κs)
    → ready-reads.Post κs a r s → ready-calls.Post κs (terms_of a.0, a.1) r (terms_of s.0, s.1)
ready_at κs a r s p = p

pub entries_at : (κs : Lfts 2) (a : ArgsD entries.signature κs) (r : ResD entries.signature κs) (s : AtExit (ended_of 2 entries-kinds.ps entries-kinds.r) κs)
    → entries-reads.Post κs a r s → entries-calls.Post κs (terms_of a.0, a.1) r (terms_of s.0, s.1)
entries_at κs a r s p = p
