use Rattle.std.proofs.Common.{refl, get_or, rules}
use Rattle.rules.specs.Answers.{largest_told}
use Rattle.rules.specs.Largest.{no_transition, padded}
use Rattle.largest.proofs.OnwardLaws.{read_most}
use Rattle.largest.proofs.ShowingLaws.{show_start, stepped, first_low, show_room, show_more}
use Rattle.largest.proofs.AnswerLaws.{shows_all}
use Rattle.largest.proofs.showing.show_all.Goals as goal

pub loop-t-init : goal.loop-t-init
unfolding padded no_transition
loop-t-init c = show_start _ _ _ refl

pub bounds-table-s : goal.bounds-table-s
bounds-table-s c =
    let n = c.args.plan.now.accepted.holds.states in
    let k = first_low _ _ c.args.plan.now.accepted c.requires.0 _ _ c.requires.2 _ c.requires.1 _ _ c.loop-t-test.true refl in
    search rules

pub put_path-end-requires : goal.put_path-end-requires
put_path-end-requires c =
    let l = c.loop-t-test.true in (
      stepped _ _ c.args.plan.now.accepted c.requires.0 _ _ c.requires.2,
      first_low _ _ c.args.plan.now.accepted c.requires.0 _ _ c.requires.2 _ c.requires.1 _ _ l refl,
      show_room _ _ c.args.plan.now.accepted c.requires.0 _ _ c.requires.2 _ c.requires.1 _ _ l refl _ _ _ _ c.loop-t.invariant,
    )

pub overflow_cast-lengths : goal.overflow_cast-lengths
overflow_cast-lengths c =
    let l = c.loop-t-test.true in
    let e = c.put_path-end.ensures.0 in
    let k = show_room _ _ c.args.plan.now.accepted c.requires.0 _ _ c.requires.2 _ c.requires.1 _ _ l refl _ _ _ _ c.loop-t.invariant in
    search rules

pub loop-t-preserved : goal.loop-t-preserved
loop-t-preserved c =
    let l = c.loop-t-test.true in
    rw (← read_most c.args.table.now (get_or c.args.firsts.now c.loop-t.t 0))
    (show_more _ _ c.args.plan.now.accepted c.requires.0 _ _ c.requires.2 _ c.requires.1 _ _ l refl _ _ _ _ c.loop-t.invariant _ _
    c.put_path-end.ensures.0 c.put_path-end.ensures.1)

pub returns : goal.returns
unfolding largest_told
returns c =
    shows_all _ _ c.args.plan.now.accepted c.requires.0 (c.requires.2.straight refl) refl c.loop-t-test.false c.loop-t.invariant
