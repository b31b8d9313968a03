use Rattle.std.proofs.Common.{◌≡◌, arith}
use Rattle.rules.specs.Plan.{no_state}
use Rattle.soundness.proofs.Marks.{slot, marked_none, marked_root, marked_hosted}
use Rattle.soundness.proofs.scopes.mark_scopes.Goals as goal

pub loop-t-init : goal.loop-t-init
loop-t-init c = marked_none _ _ c.default-marks.ensures

-- the mark is read and written
pub bounds-marks-s : goal.bounds-marks-s
unfolding no_state
bounds-marks-s c = rw c.from-s.ensures (slot _ _ _ _ c.requires.0.accepts c.host_word-h.ensures c.if-h.true)

pub bounds-marks-s-then-h : goal.bounds-marks-s-then-h
unfolding no_state
bounds-marks-s-then-h c = rw c.from-s.ensures (slot _ _ _ _ c.requires.0.accepts c.host_word-h.ensures c.if-h.true)

pub loop-t-preserved : goal.loop-t-preserved
unfolding no_state
loop-t-preserved c =
    let inv = c.loop-t.invariant in
    let e = c.host_word-h.ensures in
    elim c.if-h.branch [
      | goal.then-h w ↦ rw (w.marks-is, w.from-s.ensures) (marked_hosted _ _ _ inv e _ w.if-h.true (slot _ _ _ _ c.requires.0.accepts e w.if-h.true) w.track-k.ensures w.is_awake-awake.ensures w.is_ended-ended.ensures w.is_bare-bare.ensures (c.requires.1.at _ c.loop-t-test.true))
      | goal.else-h w ↦ rw w.marks-is (marked_root _ _ _ inv e w.if-h.false)
    ]

pub returns : goal.returns
returns c = let e : c.loop-t.t ≡ c.args.plan.now.records.counts.tracks = omega arith in rw e at c.loop-t.invariant
