use Rattle.std.proofs.Common.{◌≡◌, refl, ◌∙◌, arith, rules}
use Rattle.rules.specs.Fold.{first_below, tabulate, tabulate_from}
use Rattle.rules.specs.Plan.{no_state}
use Rattle.plan.specs.Passes.{first_among, first_marks}
use Rattle.plan.proofs.FieldLaws.{state_count_lem}
use Rattle.plan.proofs.PassLaws.{first_kept, first_set}
use Rattle.plan.proofs.PassedLaws.{owner_low}
use Rattle.plan.proofs.passes.first_states.Goals as goal

pub loop-s-init : goal.loop-s-init
unfolding first_marks first_among first_below tabulate tabulate_from no_state
loop-s-init c = refl

pub bounds-firsts-t : goal.bounds-firsts-t
bounds-firsts-t c = let b = owner_low _ _ c.args.records.now.holds c.requires _ c.loop-s-test.true in omega (arith, b, c.track_of.ensures)

pub bounds-firsts-t-then-firsts-t : goal.bounds-firsts-t-then-firsts-t
bounds-firsts-t-then-firsts-t c = let b = owner_low _ _ c.args.records.now.holds c.requires _ c.loop-s-test.true in omega (arith, b, c.track_of.ensures)

pub loop-s-preserved : goal.loop-s-preserved
unfolding no_state
loop-s-preserved c =
    let n = c.args.records.now.holds.states in
    let l = owner_low _ _ c.args.records.now.holds c.requires _ c.loop-s-test.true in
    let e = c.from-t.ensures ∙ c.track_of.ensures in
    let inv = c.loop-s.invariant in
    elim c.if-firsts-t.branch [
      | goal.then-firsts-t w ↦ w.firsts-is ∙ first_set _ _ _ _ (rw state_count_lem (search rules)) (omega arith) inv e (omega arith) w.if-firsts-t.true
      | goal.else-firsts-t w ↦ w.firsts-is ∙ first_kept _ _ _ _ (rw state_count_lem (search rules)) (omega arith) inv e w.if-firsts-t.false
    ]

pub returns : goal.returns
returns c = let e : c.loop-s.s ≡ c.args.records.now.counts.states = omega arith in rw e at c.loop-s.invariant
