-- The invariant: no window looked at so far is bad, and the transitions that they name are marked. Assumes nothing.
use Rattle.plan.specs.Plans.{plan_in}
use Rattle.plan_windows.proofs.WindowTests.{Seen}
use Rattle.plan_windows.proofs.some_bad_window.Given as goal

abbrev pub invariant-loop-w : goal.invariant-loop-w
invariant-loop-w l = Seen (plan_in l.records) l.w l.named
