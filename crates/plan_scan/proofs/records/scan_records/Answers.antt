-- Runs with the end record after them are what the scan counts. Assumes nothing.
use Rattle.std.proofs.Common.{sym}
use Rattle.plan_scan.specs.Scanned.{scan_told}
use Rattle.plan_scan.proofs.RunLaws.{in_order}
use Rattle.plan_scan.proofs.records.scan_records.Goals as goal

pub returns-then-ends_after : goal.returns-then-ends_after
unfolding scan_told
returns-then-ends_after c = sym (in_order _ _ c.runs-c.ensures (c.ends_after.ensures c.if-ends_after.true))
