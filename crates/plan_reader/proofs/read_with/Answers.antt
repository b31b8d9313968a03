-- What the scan refuses is turned back; what it counts stands in the bytes and is judged by the table. Assumes nothing.
use Rattle.std.proofs.Common.{sym}
use Rattle.std.proofs.lemmas.Result.{err_from_is_err_and}
use Rattle.plan_scan.proofs.RefusalNumbers.{not_zero}
use Rattle.plan_scan.proofs.Scanning.{scan_holds}
use Rattle.plan_reader.proofs.Reader.{scan_refused, plan_refused, plan_accepted}
use Rattle.plan_reader.proofs.read_with.Goals as goal

pub invariant_of-records : goal.invariant_of-records
invariant_of-records c = record { holds = scan_holds _ _ (sym c.in_ok-counts.ensures) }

pub returns-in_err-counts-clause-reading : goal.returns-in_err-counts-clause-reading
returns-in_err-counts-clause-reading c =
    let p = err_from_is_err_and c.from_residual.result c.from_residual.ensures.1 in
    rw (p.1, p.2) (sym (scan_refused _ _ (sym c.in_err-counts.ensures)))

pub returns-in_err-judge_plan-clause-reading : goal.returns-in_err-judge_plan-clause-reading
returns-in_err-judge_plan-clause-reading c =
    let p = err_from_is_err_and c.from_residual-in_err-judge_plan.result c.from_residual-in_err-judge_plan.ensures.1 in
    rw (p.1, p.2) (sym (plan_refused _ _ _ (sym c.in_ok-counts.ensures) (sym c.in_err-judge_plan.ensures.number) (not_zero _)))

pub invariant_of-result : goal.invariant_of-result
invariant_of-result c = record {
  accepted = record {
    read = plan_accepted _ _ (sym c.in_ok-counts.ensures) (sym c.in_ok-judge_plan.ensures.number);
    holds = scan_holds _ _ (sym c.in_ok-counts.ensures);
  };
}

pub returns-clause-reading : goal.returns-clause-reading
returns-clause-reading c = sym (plan_accepted _ _ (sym c.in_ok-counts.ensures) (sym c.in_ok-judge_plan.ensures.number))
