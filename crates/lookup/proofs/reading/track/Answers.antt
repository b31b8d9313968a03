-- A track's words are those of the ledger that the words hold. Assumes nothing.
use Rattle.std.proofs.Common.{◌∙◌}
use Rattle.ledger.proofs.Words.{in_room}
use Rattle.lookup.proofs.Facts.{track_read}
use Rattle.lookup.proofs.reading.track.Goals as goal

pub track_at-requires : goal.track_at-requires
track_at-requires c = in_room _ _ _ c.requires.0 c.requires.1

pub returns : goal.returns
returns c = c.track_at.ensures ∙ track_read _ _ _ _ c.requires.1
