-- The states visited so far that host a track are chained by their tracks: a state hosts one if its chain of tracks is not empty.
-- Assumes nothing.
use Rattle.plan.specs.Plans.{plan_in}
use Rattle.plan.proofs.ForestLaws.{Chained}
use Rattle.plan.specs.Passes.{is_host_of}
use Rattle.plan.proofs.passes.chain_states.Given as goal

abbrev pub invariant-loop-s : goal.invariant-loop-s
invariant-loop-s l = Chained (is_host_of (plan_in l.records)) 32 l.s 128 l.hosts.last l.hosts.before
