use Rattle.std.proofs.Common.{refl, sym, arith, rules}
use Rattle.rules.specs.Fold.{some_below}
use Rattle.plan.proofs.Searches.{none_more, none_all}
use Rattle.plan.proofs.ForestLaws.{chained_none}
use Rattle.plan.proofs.ChainLaws.{keyed_add}
use Rattle.plan_reader.proofs.events.some_chained_event.Goals as goal

pub loop-x-init : goal.loop-x-init
unfolding some_below
loop-x-init c = (refl, rw (c.new-cells.ensures.0, c.new-cells.ensures.1) (chained_none _ 256 256))

pub loop-x-preserved : goal.loop-x-preserved
loop-x-preserved c =
    let h = c.args.records.now.holds.transitions in (
      none_more _ _ c.loop-x.invariant.0 c.in-Some.ensures,
      rw (c.add.ensures.0, c.add.ensures.1) (keyed_add _ _ _ _ _ _ _ c.cell_of-cell.ensures.1 (omega arith) c.cell_of-cell.ensures.0 c.loop-x.invariant.1),
    )

pub returns : goal.returns
returns c = sym (none_all _ _ _ (search rules) (search rules) c.loop-x.invariant.0)
