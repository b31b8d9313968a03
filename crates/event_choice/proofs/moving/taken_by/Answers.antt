use Rattle.plan.specs.Plans.{plan_in}
use Rattle.std.proofs.Common.{arith}
use Rattle.rules.specs.Plan.{no_state}
use Rattle.ledger.specs.Ladder.{ledger_of}
use Rattle.lookup.proofs.FiguresLaws.{numbers_none, number_none, number_one}
use Rattle.event_choice.proofs.Visits.{word_small}
use Rattle.event_choice.proofs.Takers.{found_none, found_more, found_all}
use Rattle.event_choice.proofs.moving.taken_by.Goals as goal

pub loop-x-init : goal.loop-x-init
unfolding no_state
loop-x-init c =
    numbers_none c.requires.0.checked.lent.room.few (λ t. found_none (plan_in c.args.plan.now.records) (ledger_of _ c.args.plan.now.records.counts c.args.ledger.now) _ t)

pub bounds-taken-t : goal.bounds-taken-t
unfolding no_state
bounds-taken-t c =
    let b = c.taker-t.ensures.low c.if-t.true in
    let n = c.requires.0.checked.lent.room.few in
    omega arith

pub loop-x-preserved : goal.loop-x-preserved
unfolding no_state
loop-x-preserved c =
    let g = c.requires.0 in
    let k = c.requires.0.checked.lent.accepts.holds.transitions in
    let m = c.loop-x.invariant in
    let b = c.loop-x-test.true in
    let next = found_more _ _ _ _ g _ c.loop-x.x b in
    elim c.if-t.branch [
      | goal.then-t w ↦ rw w.taken-is (number_one m g.checked.lent.room.few c.taker-t.ensures (word_small (omega arith)) _ (λ t d. next t) w.if-t.true)
      | goal.else-t w ↦ rw w.taken-is (number_none m g.checked.lent.room.few c.taker-t.ensures (word_small (omega arith)) _ (λ t d. next t) w.if-t.false)
    ]

pub returns : goal.returns
returns c = found_all _ _ _ _ c.requires.0 _ (omega arith) c.loop-x.invariant
