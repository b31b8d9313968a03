-- Beyond the path there is no transition; else it stands so far behind where the path starts. Assumes nothing.
use Rattle.std.proofs.Common.{arith}
use Rattle.rules.specs.Largest.{no_transition}
use Rattle.largest.proofs.LaidLaws.{step_beyond, step_low, step_here}
use Rattle.largest.proofs.steps.step_at.Goals as goal

pub returns-then-lengths-t : goal.returns-then-lengths-t
unfolding no_transition
returns-then-lengths-t c = λ path w. step_beyond path _ _ w _ _ c.requires.0 c.if-lengths-t.true

pub overflow_add-result : goal.overflow_add-result
overflow_add-result c =
    let (l, path-laid) = c.requires in
    let (path, w) = path-laid in
    let k = step_low path _ _ w _ _ l c.if-lengths-t.false in
    omega (arith, c.start_of.ensures, c.from.ensures)

pub offset_bounds-steps-start_of : goal.offset_bounds-steps-start_of
offset_bounds-steps-start_of c =
    let (l, path-laid) = c.requires in
    let (path, w) = path-laid in
    let k = step_low path _ _ w _ _ l c.if-lengths-t.false in
    omega (arith, c.start_of.ensures, c.from.ensures)

pub bounds-steps-start_of : goal.bounds-steps-start_of
bounds-steps-start_of c =
    let (l, path-laid) = c.requires in
    let (path, w) = path-laid in
    rw (c.start_of.ensures, c.from.ensures) (step_low path _ _ w _ _ l c.if-lengths-t.false)

pub returns : goal.returns
returns c = λ path w.
    rw (c.start_of.ensures, c.from.ensures) (step_here path _ _ w _ _ c.requires.0 c.if-lengths-t.false)
