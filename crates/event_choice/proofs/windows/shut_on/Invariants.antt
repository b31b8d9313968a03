-- After w visits the marks are of the windows below w. Assumes nothing.
use Rattle.plan.specs.Plans.{plan_in}
use Rattle.event_choice.specs.Next.{Shut}
use Rattle.event_choice.proofs.windows.shut_on.Given as goal

abbrev pub invariant-loop-w : goal.invariant-loop-w
invariant-loop-w l = Shut (plan_in l.plan.records) l.day l.w l.shut
