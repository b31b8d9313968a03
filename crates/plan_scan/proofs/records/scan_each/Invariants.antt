-- The invariant: the scan from the cursor on is the scan of the plan, and what was counted stands before the cursor.
-- The measure is the bytes left: a record has 4 or more. Assumes nothing.
use Rattle.std.proofs.Common.{◌≡◌, ◌-◌, length}
use Rattle.rules.specs.Record.{scan}
use Rattle.plan_scan.specs.Scanned.{Stands}
use Rattle.plan_scan.proofs.Scanning.{scan_rest}
use Rattle.plan_scan.proofs.records.scan_each.Given as goal

abbrev pub invariant-loop-kind : goal.invariant-loop-kind
invariant-loop-kind l = Stands l.plan l.k.at l.k.counts × (scan l.plan ≡ scan_rest l.plan l.k.at l.k.last l.k.counts)

abbrev pub decreases-loop-kind : goal.decreases-loop-kind
decreases-loop-kind l = length l.plan - l.k.at
