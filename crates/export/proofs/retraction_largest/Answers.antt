-- The call's own promise about all tracks, told of one. Assumes nothing.
use Rattle.std.proofs.Common.{ap, ◌∙◌, refl}
use Rattle.rules.specs.Answers.{largest_told}
use Rattle.export.proofs.Showing.{track_refused, track_missing, track_told}
use Rattle.export.proofs.retraction_largest.Goals as goal

pub returns-then-track-ge-MOST_TRACKS : goal.returns-then-track-ge-MOST_TRACKS
unfolding largest_told
returns-then-track-ge-MOST_TRACKS c = track_missing _ _ _ _ _ c.of_plan-shown.ensures (ap largest_told c.in-Shown.is) _ c.if-track-ge-MOST_TRACKS.true

pub returns-in-Refused : goal.returns-in-Refused
unfolding largest_told
returns-in-Refused c =
    c.from.ensures
    ∙ track_refused _ _ _ _ _ c.of_plan-shown.ensures _ (ap largest_told c.in-Refused.is) _

pub returns-else-track-ge-MOST_TRACKS : goal.returns-else-track-ge-MOST_TRACKS
unfolding largest_told
returns-else-track-ge-MOST_TRACKS c =
    track_told _ _ _ _ _ c.of_plan-shown.ensures
    (ap largest_told c.in-Shown.is) _ _ _ _ _ c.from-t.ensures
    c.if-track-ge-MOST_TRACKS.false refl refl c.pair.ensures
