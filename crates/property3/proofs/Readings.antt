-- Each call's contract, as the checker reads it off the source of `manager`, says what `call_outcome` says: its answer as the paper tells it, and
-- every lent word. Weaken a contract there, and its line here is refused. Assumes nothing.
use Rattle.std.proofs.Common.{sym, subst, List, ℕ}
use contract.Lifetimes.{Lfts}
use denote.Triple.Clauses.{AtExit}
use borrow.Fn.Kinds.{ended_of}
use borrow.Fn.World.{ArgsD, ResD}
use Rattle.rules.specs.Call.{Answer, Outcome, begin_outcome, call_outcome, event_outcome, signal_outcome, fire_outcome, Meets}
use Rattle.rules.specs.Call as paper
use Rattle.rules.specs.Answers.{begin_told, event_told, signal_told, fire_told}
use Rattle.manager.specs.contracts.calls.begin as begin
use Rattle.manager.proofs.calls.begin.Kinds as begin-kinds
use Rattle.manager.proofs.calls.begin.Reads as begin_reads
use Rattle.manager.specs.contracts.calls.event as event
use Rattle.manager.proofs.calls.event.Kinds as event-kinds
use Rattle.manager.proofs.calls.event.Reads as event-reads
use Rattle.manager.specs.contracts.calls.signal as signal
use Rattle.manager.proofs.calls.signal.Kinds as signal-kinds
use Rattle.manager.proofs.calls.signal.Reads as signal-reads
use Rattle.manager.specs.contracts.calls.fire as fire
use Rattle.manager.proofs.calls.fire.Kinds as fire-kinds
use Rattle.manager.proofs.calls.fire.Reads as fire-reads

-- Each at its arguments a, its answer r and what it left s: a.0 are the terms, a.1.0 the plan, a.1.1.0 the ledger, s.1.1.0 the ledger afterwards.
pub begin_meets : (κs : Lfts 2) (a : ArgsD begin.signature κs) (r : ResD begin.signature κs) (s : AtExit (ended_of 2 begin-kinds.ps begin-kinds.r) κs)
    → begin_reads.Post κs a r s
    → Meets (begin_outcome a.0 a.1.0.now a.1.1.0.now) (begin_told r) s.1.1.0.now
begin_meets κs a r s p = p

pub event_meets : (κs : Lfts 2) (a : ArgsD event.signature κs) (r : ResD event.signature κs) (s : AtExit (ended_of 2 event-kinds.ps event-kinds.r) κs)
    → event-reads.Post κs a r s
    → Meets (call_outcome a.0 a.1.0.now a.1.1.0.now (paper.event (record { event = a.1.1.1.0; day = a.1.1.1.1.0; society = a.1.1.1.1.1.0 })))
    (event_told r) s.1.1.0.now
unfolding event_outcome
event_meets κs a r s p = p

pub signal_meets : (κs : Lfts 2) (a : ArgsD signal.signature κs) (r : ResD signal.signature κs) (s : AtExit (ended_of 2 signal-kinds.ps signal-kinds.r) κs)
    → signal-reads.Post κs a r s
    → Meets (call_outcome a.0 a.1.0.now a.1.1.0.now (paper.signal (record { society = a.1.1.1.0 }))) (signal_told r) s.1.1.0.now
unfolding signal_outcome
signal_meets κs a r s p = p

pub fire_meets : (κs : Lfts 2) (a : ArgsD fire.signature κs) (r : ResD fire.signature κs) (s : AtExit (ended_of 2 fire-kinds.ps fire-kinds.r) κs)
    → fire-reads.Post κs a r s
    → Meets (call_outcome a.0 a.1.0.now a.1.1.0.now (paper.fire (record { track = a.1.1.1.0; society = a.1.1.1.1.0 }))) (fire_told r) s.1.1.0.now
unfolding fire_outcome
fire_meets κs a r s p = p

-- So what is proved of an outcome's answer and words holds of those of the call that was made.
pub carried : {o : Outcome} {told : Answer} {words : List ℕ} (P : Answer → List ℕ → Type 0) → Meets o told words → P o.answer o.words → P told words
carried {o} {told} {words} P m h = subst (λ v. P told v) (sym m.left) (subst (λ x. P x o.words) (sym m.answered) h)
