-- The plan's count of tracks is the one that was counted. Assumes nothing.
use Rattle.plan.proofs.FieldLaws.{track_count_lem}
use Rattle.rules.specs.Acceptance.{no_track}
use Rattle.plan_reader.proofs.refusals.no_track.Goals as goal

pub returns : goal.returns
unfolding no_track
returns c = rw track_count_lem
