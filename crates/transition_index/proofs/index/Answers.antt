use Rattle.std.proofs.Common.{◌≡◌, ◌∙◌, arith}
use Rattle.plan.proofs.ForestLaws.{chained_none}
use Rattle.plan.proofs.ChainLaws.{keyed_add, heads_from}
use Rattle.transition_index.proofs.Walks.{cell_told, cell_low}
use Rattle.transition_index.proofs.index.Goals as goal

pub loop-x-init : goal.loop-x-init
loop-x-init c = rw (c.new-chains.ensures.0, c.new-chains.ensures.1) (chained_none _ 256 256)

pub loop-x-preserved : goal.loop-x-preserved
loop-x-preserved c =
    let h = c.args.records.now.holds.transitions in
    rw (c.add.ensures.0, c.add.ensures.1)
    (keyed_add _ _ _ _ _ _ _ c.cell_of-cell.ensures.1 (omega arith) (c.cell_of-cell.ensures.0 ∙ cell_told _ _ _ _ c.source_of.ensures c.event_of.ensures) c.loop-x.invariant)

pub returns : goal.returns
returns c =
    let e : c.loop-x.x ≡ c.args.records.now.counts.transitions = omega arith in
    rw e at (heads_from _ _ _ _ _ c.loop-x.invariant (λ y l. cell_low _ y))
