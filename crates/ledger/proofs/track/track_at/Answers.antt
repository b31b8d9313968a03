-- The three words stand at the track's place, within the room for it. Assumes nothing.
use Rattle.std.proofs.Common.{ap, ◌∙◌, get_or}
use Rattle.rules.specs.Ledger.{mode_of}
use Rattle.ledger.proofs.Words.{track_words_lem}
use Rattle.ledger.proofs.track.track_at.Goals as goal

pub returns : goal.returns
returns c = rw c.track_place-at.ensures (track_words_lem _ _ _ _ (c.mode_of.ensures ∙ ap (λ (i : _). mode_of (get_or c.args.ledger.now i 0)) c.track_place-at.ensures))
