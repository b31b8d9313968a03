-- The call's own promise about all tracks, told of one place of one path. Assumes nothing.
use Rattle.std.proofs.Common.{ap, ◌∙◌, rules}
use Rattle.rules.specs.Answers.{largest_told}
use Rattle.rules.specs.Largest.{no_transition}
use Rattle.export.proofs.Showing.{step_refused, step_missing, step_told, laid}
use Rattle.export.proofs.retraction_largest_step.Goals as goal

pub returns-then-track-ge-MOST_TRACKS : goal.returns-then-track-ge-MOST_TRACKS
unfolding largest_told no_transition
returns-then-track-ge-MOST_TRACKS c =
    step_missing _ _ _ _ _ c.of_plan-shown.ensures (ap largest_told c.in-Shown.is) _ _ _
    c.if-track-ge-MOST_TRACKS.true c.at_bit16.ensures

pub step_at-step-requires : goal.step_at-step-requires
step_at-step-requires c =
    let l = c.if-track-ge-MOST_TRACKS.false in
    let e = c.from-t.ensures in
    (search rules, (_, laid _ _ _ _ _ c.of_plan-shown.ensures))

pub returns-in-Refused : goal.returns-in-Refused
unfolding largest_told
returns-in-Refused c =
    c.from.ensures
    ∙ step_refused _ _ _ _ _ c.of_plan-shown.ensures _ (ap largest_told c.in-Refused.is) _ _

pub returns-else-track-ge-MOST_TRACKS : goal.returns-else-track-ge-MOST_TRACKS
unfolding largest_told
returns-else-track-ge-MOST_TRACKS c =
    let shown = c.of_plan-shown.ensures in
    step_told _ _ _ _ _ shown (ap largest_told c.in-Shown.is) _ _ _ _ _
    c.from-t.ensures (c.step_at-step.ensures _ (laid _ _ _ _ _ shown))
    c.at_bit16-in-Shown.ensures
