-- The words written are those of the ledger with the track's mode and state replaced. Assumes nothing.
use Rattle.ledger.proofs.Words.{in_room}
use Rattle.lookup.proofs.OneTrackLaws.{mode_put}
use Rattle.opening.proofs.writing.put_mode.Goals as goal

pub put_track-requires : goal.put_track-requires
put_track-requires c = in_room _ _ _ c.requires.0.room c.requires.1

pub returns : goal.returns
returns c = mode_put _ _ _ c.requires.0 _ c.requires.1 _ _ _ c.track-k.ensures c.put_track.ensures
