use Rattle.std.proofs.Common.{sym, ap, ◌∙◌}
use Rattle.plan.specs.Chains.{cell_of}
use Rattle.plan.proofs.ChainLaws.{cell_item}
use Rattle.plan_reader.proofs.CellLaws.{walk_start, walk_end, walk_on}
use Rattle.plan_reader.proofs.events.comparisons_left.Goals as goal

pub loop-next-init : goal.loop-next-init
loop-next-init c = walk_start _ _ _ c.requires.1

pub loop-next-smaller : goal.loop-next-smaller
loop-next-smaller c =
    rw (c.in-Some.is, c.before-next.ensures, cell_item)
    (walk_on _ _ _ _ _ (rw c.in-Some.is at c.loop-next.invariant) (λ e. c.if-event_of-event.false (c.event_of.ensures ∙ e ∙ sym c.event_of-event.ensures)) c.requires.2).lower

pub loop-next-preserved : goal.loop-next-preserved
loop-next-preserved c =
    rw (c.before-next.ensures, cell_item)
    (walk_on _ _ _ _ _ (rw c.in-Some.is at c.loop-next.invariant) (λ e. c.if-event_of-event.false (c.event_of.ensures ∙ e ∙ sym c.event_of-event.ensures)) c.requires.2).walk

pub returns : goal.returns
returns c = walk_end _ _ _ (ap cell_of c.in_default.is) c.loop-next.invariant
