-- The first track is a root, so it tells. Assumes nothing.
use Rattle.lookup.proofs.Facts.{first_track, over_by_first}
use Rattle.lookup.proofs.reading.is_over.Goals as goal

pub is_awake-requires : goal.is_awake-requires
is_awake-requires c = let k = c.requires.lent in (k.room, first_track _ _ k.accepts)

pub returns : goal.returns
returns c = over_by_first _ _ _ _ c.requires c.is_awake.ensures
