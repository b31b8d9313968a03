-- A track that may not be turned, or is not forward, is left as it is; a forward one is undoing in its state. Assumes nothing.
use Rattle.withdrawal.proofs.TrackVisits.{turn_barred, turn_may, turn_not, turn_done}
use Rattle.withdrawal.proofs.signal.turn_track.Goals as goal

pub returns-then-not-may : goal.returns-then-not-may
returns-then-not-may c = turn_barred _ _ _ c.requires.0 _ c.args.may c.if-not-may.true

pub returns-then-not-is_forward : goal.returns-then-not-is_forward
returns-then-not-is_forward c =
    turn_may _ _ _ c.requires.0 _ c.args.may c.if-not-may.false
    (turn_not _ _ _ c.requires.0 _ _ c.track-k.ensures c.is_forward.ensures c.if-not-is_forward.true)

pub returns : goal.returns
returns c =
    turn_may _ _ _ c.requires.0 _ c.args.may c.if-not-may.false
    (turn_done _ _ _ c.requires.0 _ _ c.track-k.ensures c.is_forward.ensures c.if-not-is_forward.false c.put_mode.ensures)
