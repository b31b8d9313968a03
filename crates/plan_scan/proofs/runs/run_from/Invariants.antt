-- The invariant: so many records of the kind stand from the place on. Assumes nothing.
use Rattle.plan_scan.specs.Kinds.{number_of}
use Rattle.plan_scan.specs.RecordRuns.{Run}
use Rattle.plan_scan.proofs.runs.run_from.Given as goal

abbrev pub invariant-loop-n : goal.invariant-loop-n
invariant-loop-n l = Run l.plan (number_of l.fn.kind) l.at l.n
