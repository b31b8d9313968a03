-- Property 3 of `run_calls`, from the reading of its own contract, at all books. Assumes nothing.
use Rattle.std.proofs.Common.{◌≡◌}
use contract.Lifetimes.{Lfts}
use denote.Triple.Clauses.{AtExit}
use borrow.Fn.Kinds.{ended_of}
use borrow.Fn.World.{ArgsD, ResD}
use Rattle.rules.specs.declared.Counts.{Counts}
use Rattle.rules.specs.Plan.{plan_of}
use Rattle.rules.specs.Acceptance.{accepted, read_plan}
use Rattle.rules.specs.History.{Property3}
use Rattle.property3.specs.declared.CallsAnswer.TheVariants.{Begun}
use Rattle.property3.specs.Encoding.{decoded_calls, decoded_answers}
use Rattle.property3.proofs.FreeBooks.{from_small}
use Rattle.property3.proofs.WholeRun.{when_begun}
use Rattle.property3.specs.contracts.run_calls as run-calls
use Rattle.property3.proofs.run_calls.Kinds as run-calls-kinds
use Rattle.property3.proofs.run_calls.Reads as run-calls-reads

-- a.0 are the terms, a.1.0 the plan, a.1.1.0 the ledger lent, a.1.1.1.0 the calls; s.1.1.0 is the ledger afterwards,
-- s.1.1.1.1.0 the answers.
pub property3_of_run_calls : (κs : Lfts 4) (a : ArgsD run-calls.signature κs) (r : ResD run-calls.signature κs)
    (s : AtExit (ended_of 4 run-calls-kinds.ps run-calls-kinds.r) κs) → run-calls-reads.Post κs a r s → r ≡ Begun
    → (c : Counts) × (read_plan a.1.0.now ≡ accepted c)
    × Property3 a.0 a.1.0.now (plan_of a.1.0.now c) a.1.1.0.now (decoded_calls a.1.1.1.0.now)
    (decoded_answers (decoded_calls a.1.1.1.0.now) s.1.1.1.1.0.now) s.1.1.0.now
property3_of_run_calls κs a r s p e =
    let q = when_begun _ _ _ _ _ _ _ _ p e in
    (q.counts, q.read, from_small a.0 a.1.0.now _ _ _ _ _ q.property3)
