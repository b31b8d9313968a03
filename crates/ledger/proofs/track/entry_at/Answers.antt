-- Both words lie within the track's room. Assumes nothing.
use Rattle.rules.specs.Ledger.{entry_at}
use Rattle.ledger.specs.Words.{entry_place}
use Rattle.ledger.proofs.track.entry_at.Goals as goal

pub returns : goal.returns
unfolding entry_at entry_place
returns c = rw c.entry_place-at.ensures
