-- One, two or three numbers are taken off those that are left. Assumes nothing.
use Rattle.std.proofs.Common.{arith}
use Rattle.plan_sum.proofs.SumLaws.{total_more, total_two, total_three}
use Rattle.plan_sum.proofs.last.Goals as goal

pub returns-then-left-ge6 : goal.returns-then-left-ge6
returns-then-left-ge6 c = omega (arith, total_three c.args.plan.now c.args.at (omega arith))

pub returns-then-left-ge4 : goal.returns-then-left-ge4
returns-then-left-ge4 c = omega (arith, total_two c.args.plan.now c.args.at (omega arith))

pub returns-then-left-ge2 : goal.returns-then-left-ge2
returns-then-left-ge2 c = omega (arith, total_more c.args.plan.now c.args.at (omega arith))
