-- Three words set, one after the other; no store changes the length. Assumes nothing.
use Rattle.ledger.specs.Words.{with_track}
use Rattle.ledger.proofs.Modes.{word_told}
use Rattle.ledger.proofs.track.put_track.Goals as goal

pub returns : goal.returns
unfolding with_track
returns c = rw (c.track_place-at.ensures, word_told c.args.k.mode)
