-- Both words lie within the track's room; the first store does not change the length. Assumes nothing.
use Rattle.ledger.specs.Words.{entry_place, with_entry}
use Rattle.ledger.proofs.track.put_entry.Goals as goal

pub returns : goal.returns
unfolding with_entry entry_place
returns c = rw c.entry_place-at.ensures
