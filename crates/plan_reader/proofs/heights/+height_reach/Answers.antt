use Rattle.plan.specs.Plans.{plan_in}
use Rattle.std.proofs.Common.{rules, arith, sym, ap}
use Rattle.plan.specs.Chains.{cell_of}
use Rattle.plan.proofs.ChainLaws.{cell_item}
use Rattle.plan.proofs.Members.{walk_start, walk_item}
use Rattle.plan.proofs.ForestLaws.{height_done, reach_done}
use Rattle.plan.proofs.FieldLaws.{track_count_lem, state_count_lem}
use Rattle.rules.proofs.Heights.{height_most}
use Rattle.rules.specs.Plan.{height_to}
use Rattle.plan_reader.proofs.heights.+height_reach.Goals as goal

pub height-returns-then-left-eq0 : goal.height-returns-then-left-eq0
unfolding height_to
height-returns-then-left-eq0 t c = rw c.if-left-eq0.true

pub height-loop-next-init : goal.height-loop-next-init
height-loop-next-init t c =
    rw (c.last-next.ensures, cell_item) (walk_start _ _ _ _ (c.requires.0.states.ends.at _ (let n = c.requires.0.holds.tracks in search rules)))

pub height-loop-next-smaller : goal.height-loop-next-smaller
height-loop-next-smaller t c =
    rw (c.in-Some.is, c.before-next.ensures, cell_item)
    (walk_item _ _ _ _ _ _ _ _ _ _ _ c.requires.0.states (rw c.in-Some.is at c.loop-next.invariant) c.reach.ensures c.max-best.ensures).lower

pub height-loop-next-preserved : goal.height-loop-next-preserved
height-loop-next-preserved t c =
    rw (c.before-next.ensures, cell_item)
    (walk_item _ _ _ _ _ _ _ _ _ _ _ c.requires.0.states (rw c.in-Some.is at c.loop-next.invariant) c.reach.ensures c.max-best.ensures).walk

pub height-overflow_add-result : goal.height-overflow_add-result
height-overflow_add-result t c =
    let p = plan_in c.args.records.now in
    let e = height_done p c.args.left c.args.t _ c.loop-next.best _ (sym (state_count_lem _ _)) c.if-left-eq0.false (ap cell_of c.in_default.is) c.loop-next.invariant in
    let m = height_most p c.args.left c.args.t in
    omega arith

pub height-returns : goal.height-returns
height-returns t c = height_done _ _ _ _ _ _ (sym (state_count_lem _ _)) c.if-left-eq0.false (ap cell_of c.in_default.is) c.loop-next.invariant

pub reach-loop-next-init : goal.reach-loop-next-init
reach-loop-next-init t c =
    rw (c.last-next.ensures, cell_item) (walk_start _ _ _ _ (c.requires.0.tracks.ends.at _ (let n = c.requires.0.holds.states in search rules)))

pub reach-loop-next-smaller : goal.reach-loop-next-smaller
reach-loop-next-smaller t c =
    rw (c.in-Some.is, c.before-next.ensures, cell_item)
    (walk_item _ _ _ _ _ _ _ _ _ _ _ c.requires.0.tracks (rw c.in-Some.is at c.loop-next.invariant) c.height.ensures c.max-best.ensures).lower

pub reach-loop-next-preserved : goal.reach-loop-next-preserved
reach-loop-next-preserved t c =
    rw (c.before-next.ensures, cell_item)
    (walk_item _ _ _ _ _ _ _ _ _ _ _ c.requires.0.tracks (rw c.in-Some.is at c.loop-next.invariant) c.height.ensures c.max-best.ensures).walk

pub reach-returns : goal.reach-returns
reach-returns t c = reach_done _ _ _ _ _ _ (sym (track_count_lem _ _)) (ap cell_of c.in_default.is) c.loop-next.invariant
