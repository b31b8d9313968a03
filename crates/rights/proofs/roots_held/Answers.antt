use Rattle.std.proofs.Common.{◌∙◌, arith}
use Rattle.plan.proofs.FieldLaws.{grant_count_lem}
use Rattle.rights.proofs.Held.{held_none, held_same, held_more, held_all, root_low}
use Rattle.rights.proofs.roots_held.Goals as goal

pub loop-g-init : goal.loop-g-init
loop-g-init c = held_none _ _ _ _ c.args.plan.now.accepted.holds.tracks

pub bounds-held-root : goal.bounds-held-root
bounds-held-root c = root_low _ _ c.args.plan.now.accepted c.loop-g-test.true (c.from-root.ensures ∙ c.grant_root.ensures)

pub loop-g-preserved : goal.loop-g-preserved
loop-g-preserved c =
    let m = c.loop-g.invariant in
    let p = c.args.plan.now.accepted in
    let q = c.gives_to.ensures in
    elim c.if-gives_to.branch [
      | goal.then-gives_to v ↦ rw v.held-is (held_more _ _ _ _ _ p.holds.tracks m q v.if-gives_to.true (v.from-root.ensures ∙ v.grant_root.ensures) (root_low _ _ p c.loop-g-test.true (v.from-root.ensures ∙ v.grant_root.ensures)))
      | goal.else-gives_to v ↦ rw v.held-is (held_same _ _ _ _ _ p.holds.tracks m q v.if-gives_to.false)
    ]

pub returns : goal.returns
returns c = held_all _ _ _ (omega (arith, grant_count_lem c.args.plan.now.records.bytes.now c.args.plan.now.records.counts)) c.loop-g.invariant
