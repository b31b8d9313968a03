-- The invariant: no grant looked at so far is bad, and their pairs stand in the list. Assumes nothing.
use Rattle.plan.specs.Plans.{plan_in}
use Rattle.plan_grants.proofs.GrantTests.{Seen}
use Rattle.plan_grants.proofs.some_bad_grant.Given as goal

abbrev pub invariant-loop-g : goal.invariant-loop-g
invariant-loop-g l = Seen (plan_in l.records) l.g l.pairs
