use Rattle.std.proofs.Common.{sym, ap, ◌∙◌, rules}
use Rattle.rules.specs.Plan.{no_state, optional}
use Rattle.plan.specs.Chains.{cell_of}
use Rattle.plan.proofs.ChainLaws.{cell_item}
use Rattle.transition_index.proofs.Walks.{walk_start, walk_on, none_found, one_found}
use Rattle.transition_index.proofs.TransitionIndex.transition_for.Goals as goal

pub loop-next-init : goal.loop-next-init
loop-next-init c = rw (c.last-next.ensures, cell_item) (walk_start _ _ _ _ _ _ c.requires _ c.cell_of.ensures.0 c.cell_of.ensures.1)

pub returns-then-is_for : goal.returns-then-is_for
returns-then-is_for c = one_found _ _ _ _ c.args.plan.now.accepted _ (search rules) (sym c.is_for.ensures ∙ c.if-is_for.true)

pub loop-next-smaller : goal.loop-next-smaller
loop-next-smaller c =
    rw (c.in-Some.is, c.before-next.ensures, cell_item)
    (walk_on _ _ _ _ _ _ (rw c.in-Some.is at c.loop-next.invariant) (sym c.is_for.ensures ∙ c.if-is_for.false) c.requires.chained).lower

pub loop-next-preserved : goal.loop-next-preserved
loop-next-preserved c =
    rw (c.before-next.ensures, cell_item)
    (walk_on _ _ _ _ _ _ (rw c.in-Some.is at c.loop-next.invariant) (sym c.is_for.ensures ∙ c.if-is_for.false) c.requires.chained).walk

pub returns : goal.returns
unfolding optional no_state
returns c = none_found _ _ _ _ _ (ap cell_of c.in_default.is) c.loop-next.invariant
