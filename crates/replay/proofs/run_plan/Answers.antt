-- Begin leaves a checked ledger, and the records' lines follow the plan's. Assumes nothing.
use Rattle.std.proofs.Common.{arith, rules}
use Rattle.replay.proofs.Keeping.{begun_checked}
use Rattle.replay.proofs.WholeText.{ran_after, ran_begun}
use Rattle.replay.proofs.run_plan.Goals as goal

pub run_records-requires : goal.run_records-requires
run_records-requires c = (begun_checked _ _ _ c.requires.0.accepts _ _ c.requires.0.room c.begin_all.ensures, c.requires.1, omega (arith, c.plan_line-start.ensures.short, c.plan_line-start.auto.out, c.requires.2), c.first_states-firsts.ensures)

pub returns : goal.returns
returns c = ran_after _ _ _ _ _ _ _ _ _ c.plan_line-start.ensures (search rules) (ran_begun _ _ _ _ c.requires.0.accepts _ _ c.requires.0.room c.begin_all.ensures _ _ _ _ _ c.run_records.ensures)
