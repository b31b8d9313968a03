use Rattle.std.proofs.Common.{refl, sym, ap, ◌∙◌, rules}
use Rattle.plan.specs.Chains.{cell_of}
use Rattle.plan.proofs.ChainLaws.{cell_item}
use Rattle.plan_reader.proofs.MarkLaws.{place_at, done_none, mark_start, mark_found, mark_on, mark_end, done_all}
use Rattle.plan_reader.proofs.events.some_marked_event.Goals as goal

pub loop-g-init : goal.loop-g-init
loop-g-init c = done_none _ _ 4096 _ refl refl

pub loop-next-init : goal.loop-next-init
loop-next-init c =
    rw (c.last-next.ensures, cell_item) (mark_start _ _ _ _ _ c.loop-g.invariant (c.in_groups-groups.ensures.chains.ends.at _ (search rules)))

pub returns-then-marks-place : goal.returns-then-marks-place
returns-then-marks-place c =
    sym (mark_found _ _ _ _ _ _ (rw c.in-Some.is at c.loop-next.invariant) (place_at _ _ _ _ (c.from-place.ensures ∙ c.event_of.ensures)) (search rules) c.if-marks-place.true)

pub loop-next-smaller : goal.loop-next-smaller
loop-next-smaller c =
    rw (c.in-Some.is, c.before-next.ensures, cell_item)
    (mark_on _ _ _ _ _ _ _ _ (rw c.in-Some.is at c.loop-next.invariant) (place_at _ _ _ _ (c.from-place.ensures ∙ c.event_of.ensures)) (search rules) c.if-marks-place.false (search rules) c.in_groups-groups.ensures.chains).lower

pub loop-next-preserved : goal.loop-next-preserved
loop-next-preserved c =
    rw (c.before-next.ensures, cell_item)
    (mark_on _ _ _ _ _ _ _ _ (rw c.in-Some.is at c.loop-next.invariant) (place_at _ _ _ _ (c.from-place.ensures ∙ c.event_of.ensures)) (search rules) c.if-marks-place.false (search rules) c.in_groups-groups.ensures.chains).marked

pub loop-g-preserved : goal.loop-g-preserved
loop-g-preserved c = mark_end _ _ _ _ _ (ap cell_of c.in_default.is) c.loop-next.invariant

pub returns : goal.returns
returns c = sym (done_all _ _ _ 2048 _ (search rules) c.in_groups-groups.ensures.keys c.loop-g.invariant)
