-- A track asleep holds nothing, as the words are tidy. Assumes nothing.
use Rattle.std.proofs.Common.{not, ap, ◌∙◌}
use Rattle.ledger.proofs.Branches as branches
use Rattle.ledger.proofs.ReadTracks.{mode_as, count_as, count_within}
use Rattle.lookup.proofs.OneTrackLaws.{holds}
use Rattle.rules.specs.Plan.{is_state_of}
use Rattle.ledger.specs.Ladder.{ledger_of}
use Rattle.soundness.proofs.Asking.{asleep_asked, awake_asked}
use Rattle.soundness.proofs.tracks.is_sound.Goals as goal

pub returns-then-not-is_awake : goal.returns-then-not-is_awake
returns-then-not-is_awake c = asleep_asked _ _ _ c.track-k.ensures c.is_awake.ensures (ap not c.if-not-is_awake.true) ((holds _ _ _ (record { room = c.requires.0.room; tidy = c.requires.2 })).blank _) c.is_root.ensures

pub good_entries-good-requires : goal.good_entries-good-requires
unfolding ledger_of
good_entries-good-requires c =
    let held = count_as _ c.track-k.ensures in
    (c.requires.0, c.requires.1, count_within _ _ _ _ _ c.requires.2 held, held)

pub hosted_well-hosted-requires : goal.hosted_well-hosted-requires
hosted_well-hosted-requires c = (c.requires.0, c.requires.1, mode_as _ c.track-k.ensures, branches.holds c.is_awake.ensures (ap not c.if-not-is_awake.false))

pub returns : goal.returns
returns c = awake_asked _ _ _ c.track-k.ensures c.is_awake.ensures (ap not c.if-not-is_awake.false) (c.is_state_of-own.ensures ∙ ap (is_state_of _ _) c.from.ensures) c.good_entries-good.ensures c.hosted_well-hosted.ensures
