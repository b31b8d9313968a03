use Rattle.plan.specs.Plans.{plan_in}
use Rattle.std.proofs.Common.{◌≡◌, refl, sym, ◌∙◌, ◌&&◌, add-zero, arith, rules}
use Rattle.rules.specs.Fold.{count_below}
use Rattle.rules.specs.Rights.{signal_right, is_permitted}
use Rattle.rules.specs.Ledger.{is_forward}
use Rattle.rules.proofs.Folds.{count_most}
use Rattle.ledger.specs.Ladder.{ledger_of}
use Rattle.withdrawal.proofs.TrackVisits.{turn_count, turning_start, turning_orderly, turning_old, turning_more, turning_end}
use Rattle.withdrawal.proofs.signal.turn_all.Goals as goal

pub loop-t-init : goal.loop-t-init
unfolding count_below
loop-t-init c = (refl, turning_start _ _ _ _ _ c.requires.0)

pub turn_track-requires : goal.turn_track-requires
turn_track-requires c = (turning_orderly _ _ _ _ _ c.requires.0 _ (omega arith) c.loop-t.invariant.1, search rules)

pub overflow_add-count : goal.overflow_add-count
overflow_add-count c =
    let f = c.requires.0.room.few in
    omega (arith, c.loop-t.invariant.0, count_most c.loop-t.t (λ t. is_permitted (plan_in c.args.plan.now.records) signal_right c.args.society t && is_forward (ledger_of c.args.terms c.args.plan.now.records.counts c.args.ledger.now t).mode))

pub loop-t-preserved : goal.loop-t-preserved
loop-t-preserved c =
    let v = c.loop-t.invariant in
    let m = c.requires.1.at _ c.loop-t-test.true in
    let n = turn_count _ _ _ _ _ c.requires.0 _ m (turning_old _ _ _ _ _ c.requires.0 _ (omega arith) v.1) v.0 c.turn_track.ensures.0 in (
      elim c.if-turn_track.branch [
        | goal.then-turn_track w ↦ rw w.count-is (rw w.if-turn_track.true at n)
        | goal.else-turn_track w ↦ rw w.count-is (sym (add-zero _) ∙ rw w.if-turn_track.false at n)
      ],
      turning_more _ _ _ _ _ c.requires.0 _ (omega arith) v.1 m c.turn_track.ensures.1,
    )

pub returns : goal.returns
returns c =
    let e : c.loop-t.t ≡ c.args.plan.now.records.counts.tracks = omega arith in
    (rw e at c.loop-t.invariant.0, turning_end _ _ _ _ _ c.requires.0 _ (omega arith) c.loop-t.invariant.1 (omega arith))
