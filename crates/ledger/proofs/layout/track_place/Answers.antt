-- The place is the layout's, and small. Assumes nothing.
use Rattle.rules.specs.Layout.{leading_words, track_place}
use Rattle.ledger.proofs.layout.track_place.Goals as goal

pub returns : goal.returns
unfolding track_place leading_words
returns c = rw c.track_width.ensures.0
