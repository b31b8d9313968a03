use Rattle.std.proofs.Common.{ap, ◌∙◌, rules}
use Rattle.plan.specs.Chains.{cell_of}
use Rattle.plan.proofs.ChainLaws.{cell_item}
use Rattle.largest.proofs.FollowingLaws.{pass_start, pass_low, pass_round, pass_on, pass_end}
use Rattle.largest.proofs.OnwardLaws.{read_most, write_most, write_step, enter_words}
use Rattle.largest.proofs.ExploreLaws.{come_to_lem, come_round, come_far, enter, found_few, leave}
use Rattle.largest.proofs.explore.+best_of_explore.Goals as goal

pub best_of-loop-next-init : goal.best_of-loop-next-init
best_of-loop-next-init t c =
    rw (c.last-next.ensures, cell_item) (pass_start _ _ c.requires.accepts _ _ _ _ _ c.requires.state c.requires.chains c.requires.table)

pub best_of-explore-requires : goal.best_of-explore-requires
best_of-explore-requires t c =
    (search rules, come_to_lem _ _ c.requires.accepts _ _ _ _ _ _ _ _ _ _ c.requires (rw c.in-Some.is at c.loop-next.invariant) c.destination_of-d.ensures)

pub best_of-returns-then-not-explore : goal.best_of-returns-then-not-explore
best_of-returns-then-not-explore t c =
    pass_round _ _ c.requires.accepts _ _ _ _ _ _ _ _ _ _ _ (rw c.in-Some.is at c.loop-next.invariant) c.destination_of-d.ensures c.if-not-explore.true c.explore.ensures

pub best_of-bounds-table-d : goal.best_of-bounds-table-d
best_of-bounds-table-d t c =
    let m = c.requires.accepts.holds.states in
    let k = pass_low _ _ c.requires.accepts _ _ _ _ _ _ _ (rw c.in-Some.is at c.loop-next.invariant) c.destination_of-d.ensures in
    search rules

pub best_of-loop-next-smaller : goal.best_of-loop-next-smaller
best_of-loop-next-smaller t c =
    rw (c.in-Some.is, c.before-next.ensures, cell_item)
    (pass_on _ _ c.requires.accepts _ _ _ _ _ _ _ _ _ _ _ _ c.requires.chains (rw c.in-Some.is at c.loop-next.invariant) c.destination_of-d.ensures (c.explore.ensures.done c.if-not-explore.false) c.of_transition.ensures.0).lower

pub best_of-loop-next-preserved : goal.best_of-loop-next-preserved
best_of-loop-next-preserved t c =
    rw (c.before-next.ensures, cell_item, c.better-best.ensures, ← read_most c.explore.new.table c.destination_of-d.result)
    (pass_on _ _ c.requires.accepts _ _ _ _ _ _ _ _ _ _ _ _ c.requires.chains (rw c.in-Some.is at c.loop-next.invariant) c.destination_of-d.ensures (c.explore.ensures.done c.if-not-explore.false) c.of_transition.ensures.0).on

pub best_of-returns : goal.best_of-returns
best_of-returns t c = pass_end _ _ c.requires.accepts _ _ _ _ _ _ c.requires.state (ap cell_of c.in_default.is) c.loop-next.invariant

pub explore-returns-then-known : goal.explore-returns-then-known
explore-returns-then-known t c = come_round _ _ c.requires.accepts _ _ _ _ _ c.requires _ _ _ (read_most c.args.table.now c.args.s ∙ c.if-known.true)

pub explore-returns-then-left-eq0 : goal.explore-returns-then-left-eq0
explore-returns-then-left-eq0 t c = come_far _ _ c.requires.accepts _ _ _ _ _ c.requires _ _ _ c.if-left-eq0.true

pub explore-best_of-requires : goal.explore-best_of-requires
explore-best_of-requires t c = (search rules, enter_words c.args.table.now c.args.s _ _ _ _ _ (enter _ _ c.requires.accepts _ _ _ _ _ c.requires))

pub explore-overflow_add-table : goal.explore-overflow_add-table
explore-overflow_add-table t c =
    let k = found_few _ _ c.requires.accepts _ _ _ _ _ c.requires _ _ _ _ c.in-Some.ensures in
    let e = c.of_state.ensures.1 in
    search rules

pub explore-returns : goal.explore-returns
explore-returns t c =
    rw (write_most _ _ _, write_step _ _ _)
    (leave _ _ c.requires.accepts _ _ _ _ _ c.requires _ _ _ _ _ c.of_state.ensures.0 (rw write_most at c.in-Some.ensures))
