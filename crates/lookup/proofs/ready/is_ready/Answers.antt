-- The mode and the count read are the track's, the mark says whether it has an open scope. Assumes nothing.
use Rattle.std.proofs.Common.{not, ap, ◌∙◌}
use Rattle.rules.specs.Ledger.{is_undoing}
use Rattle.ledger.proofs.Branches.{holds, fails}
use Rattle.ledger.proofs.ReadTracks.{mode_as, empty_as, held_as}
use Rattle.lookup.proofs.Facts.{fire_not, fire_nothing, fire_free}
use Rattle.lookup.proofs.ready.is_ready.Goals as goal

pub returns-then-not-is_undoing : goal.returns-then-not-is_undoing
returns-then-not-is_undoing c =
    fire_not _ _ _ _ c.requires.1
    (fails (c.is_undoing.ensures ∙ ap is_undoing (mode_as _ c.track-k.ensures)) (ap not c.if-not-is_undoing.true))

pub returns-then-k-eq0 : goal.returns-then-k-eq0
returns-then-k-eq0 c =
    let k = c.track-k.ensures in
    fire_nothing _ _ _ _ c.requires.1
    (holds (c.is_undoing.ensures ∙ ap is_undoing (mode_as _ k)) (ap not c.if-not-is_undoing.false)) (empty_as _ k c.if-k-eq0.true)

pub returns : goal.returns
returns c =
    let k = c.track-k.ensures in
    fire_free _ _ _ _ c.requires.1 (holds (c.is_undoing.ensures ∙ ap is_undoing (mode_as _ k)) (ap not c.if-not-is_undoing.false))
    (held_as _ k c.if-k-eq0.false) (c.requires.2.at _ c.requires.1)
