-- The part between the two places that `part_of` found; where it is not empty it starts at the track's first entry. Assumes nothing.
use Rattle.manager.proofs.Checks.{hands_back}
use Rattle.manager.proofs.calls.entries.Goals as goal

pub returns : goal.returns
returns c = hands_back _ _ _ _ _ _ _ c.part_of-part.ensures
