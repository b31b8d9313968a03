-- The part lent is the track's words, and comes back zeroed. Assumes nothing.
use Rattle.ledger.proofs.Words.{sleep_steps}
use Rattle.ledger.proofs.track.put_to_sleep.Goals as goal

pub returns : goal.returns
returns c = sleep_steps _ _ _ _ _ _ c.track_place-at.ensures c.track_width.ensures.0 c.requires.room (c.fill.ensures.after (λ w e. e))
