use Rattle.std.proofs.Common.{◌≡◌, not-suc-le-zero, arith, below_more, rules}
use Rattle.plan.proofs.RefusalTests.{source_within}
use Rattle.plan.proofs.ForestLaws.{chained_none}
use Rattle.plan.proofs.ChainLaws.{keyed_add}
use Rattle.plan_reader.proofs.events.in_groups.Goals as goal

pub loop-x-init : goal.loop-x-init
loop-x-init c =
    record { chained = rw (c.new-groups.ensures.0, c.new-groups.ensures.1) (chained_none _ 2048 256); keys = λ y l. absurd (not-suc-le-zero l) }

pub group_of-requires : goal.group_of-requires
group_of-requires c = (search rules, source_within _ _ c.requires c.loop-x.x (search rules))

pub loop-x-preserved : goal.loop-x-preserved
loop-x-preserved c =
    let h = c.args.records.now.holds.transitions in
    let k = c.group_of.ensures in
    record {
      chained = rw (c.add.ensures.0, c.add.ensures.1) (keyed_add _ _ _ _ _ _ _ k.1 (omega arith) k.0 c.loop-x.invariant.chained);
      keys = below_more _ _ c.loop-x.invariant.keys (rw (← k.0) k.1);
    }

pub returns-clause-chains : goal.returns-clause-chains
returns-clause-chains c = let e : c.loop-x.x ≡ c.args.records.now.counts.transitions = omega arith in rw e at c.loop-x.invariant.chained.chains
