use Rattle.std.proofs.Common.{◌≡◌, arith, rules}
use Rattle.plan.proofs.ForestLaws.{chained_none}
use Rattle.largest.proofs.OutgoingLaws.{source_low, chain_more}
use Rattle.largest.proofs.outgoing.chain_transitions.Goals as goal

pub loop-x-init : goal.loop-x-init
loop-x-init c = rw (c.new-outgoing.ensures.0, c.new-outgoing.ensures.1) (chained_none _ 128 256)

pub add-requires : goal.add-requires
add-requires c =
    let n = c.args.plan.now.accepted.holds.transitions in
    let q = source_low _ _ c.args.plan.now.accepted _ _ (search rules) c.source_of.ensures in
    search rules

pub loop-x-preserved : goal.loop-x-preserved
loop-x-preserved c =
    rw (c.add.ensures.0, c.add.ensures.1, c.from.ensures)
    (chain_more _ _ c.args.plan.now.accepted _ _ _ _ (search rules) c.source_of.ensures c.loop-x.invariant)

pub returns : goal.returns
returns c = let e : c.loop-x.x ≡ c.args.plan.now.records.counts.transitions = omega arith in rw e at c.loop-x.invariant.chains
