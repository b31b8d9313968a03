-- Each month's days since March, which are without February's. Assumes nothing.
use Rattle.std.proofs.Common.{arith}
use Rattle.rules.specs.Calendar.{in_months}
use Rattle.calendar.proofs.MonthLaws.{since_late, since_early}
use Rattle.calendar.proofs.counting.since_march.Goals as goal

pub returns-in-3 : goal.returns-in-3
unfolding in_months
returns-in-3 c = since_late _ 3 _ c.in-3.is (omega arith) (λ y. omega arith)

pub returns-in-4 : goal.returns-in-4
unfolding in_months
returns-in-4 c = since_late _ 4 _ c.in-4.is (omega arith) (λ y. omega arith)

pub returns-in-5 : goal.returns-in-5
unfolding in_months
returns-in-5 c = since_late _ 5 _ c.in-5.is (omega arith) (λ y. omega arith)

pub returns-in-6 : goal.returns-in-6
unfolding in_months
returns-in-6 c = since_late _ 6 _ c.in-6.is (omega arith) (λ y. omega arith)

pub returns-in-7 : goal.returns-in-7
unfolding in_months
returns-in-7 c = since_late _ 7 _ c.in-7.is (omega arith) (λ y. omega arith)

pub returns-in-8 : goal.returns-in-8
unfolding in_months
returns-in-8 c = since_late _ 8 _ c.in-8.is (omega arith) (λ y. omega arith)

pub returns-in-9 : goal.returns-in-9
unfolding in_months
returns-in-9 c = since_late _ 9 _ c.in-9.is (omega arith) (λ y. omega arith)

pub returns-in-10 : goal.returns-in-10
unfolding in_months
returns-in-10 c = since_late _ 10 _ c.in-10.is (omega arith) (λ y. omega arith)

pub returns-in-11 : goal.returns-in-11
unfolding in_months
returns-in-11 c = since_late _ 11 _ c.in-11.is (omega arith) (λ y. omega arith)

pub returns-in-12 : goal.returns-in-12
unfolding in_months
returns-in-12 c = since_late _ 12 _ c.in-12.is (omega arith) (λ y. omega arith)

pub returns-in-1 : goal.returns-in-1
unfolding in_months
returns-in-1 c = since_early _ 1 _ c.in-1.is (omega arith) (λ y. omega arith)

pub returns-in_default : goal.returns-in_default
unfolding in_months
returns-in_default c = since_early _ 2 _ (omega arith) (omega arith) (λ y. omega arith)
