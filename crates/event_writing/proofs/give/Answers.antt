-- Nothing is given, or the entry is installed. Assumes nothing.
use Rattle.ledger.proofs.Words.{in_room}
use Rattle.event_writing.proofs.OneTrack.{give_none, give_room, give_some}
use Rattle.event_writing.proofs.give.Goals as goal

pub returns-then-code-eq0 : goal.returns-then-code-eq0
returns-then-code-eq0 c = give_none _ _ _ c.requires.0 _ c.requires.1 _ _ c.if-code-eq0.true

pub install-requires : goal.install-requires
install-requires c =
    let a = c.requires in
    (in_room _ _ _ a.0.room a.1, give_room _ _ _ a.0 _ a.1 0 0 (a.2 c.if-code-eq0.false))

pub returns : goal.returns
returns c =
    let a = c.requires in
    let n = c.if-code-eq0.false in
    give_some _ _ _ a.0 _ a.1 _ _ (a.2 n) n c.install.ensures
