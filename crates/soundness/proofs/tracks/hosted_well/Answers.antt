-- A root has no host; the host of any other is a state, of a track. Assumes nothing.
use Rattle.std.proofs.Common.{refl, ap, ◌∙◌, eq-eqb, ne_eqb}
use Rattle.rules.specs.Plan.{no_state, owner}
use Rattle.ledger.proofs.Branches.{and_then, and_else}
use Rattle.ledger.proofs.Modes.{same_told}
use Rattle.lookup.proofs.Facts.{host_low, owner_low}
use Rattle.soundness.proofs.Asking.{root_well, host_well}
use Rattle.soundness.proofs.tracks.hosted_well.Goals as goal

pub returns-then-h : goal.returns-then-h
unfolding no_state
returns-then-h c = root_well _ _ _ c.host_word-h.ensures c.if-h.true

pub track_of-requires : goal.track_of-requires
unfolding no_state
track_of-requires c = rw c.from.ensures (host_low _ _ _ _ c.requires.0.accepts c.host_word-h.ensures c.if-h.false)

pub track-k-requires : goal.track-k-requires
unfolding no_state
track-k-requires c = (c.requires.0.room, rw (c.from-o.ensures, c.track_of.ensures, c.from.ensures) (owner_low _ _ _ c.requires.0.accepts (host_low _ _ _ _ c.requires.0.accepts c.host_word-h.ensures c.if-h.false)))

pub returns-then-k-h : goal.returns-then-k-h
unfolding no_state
returns-then-k-h c =
    let o = c.from-o.ensures ∙ c.track_of.ensures ∙ ap (owner _) c.from.ensures in
    and_then _ (eq-eqb _ _ c.if-k-h.true) ∙ host_well _ _ _ c.host_word-h.ensures c.if-h.false o c.track-k.ensures (c.eq.ensures ∙ same_told _ _) c.requires.2 c.requires.3

pub returns-else-k-h : goal.returns-else-k-h
unfolding no_state
returns-else-k-h c =
    let o = c.from-o.ensures ∙ c.track_of.ensures ∙ ap (owner _) c.from.ensures in
    and_else _ (ne_eqb _ _ c.if-k-h.false) ∙ host_well _ _ _ c.host_word-h.ensures c.if-h.false o c.track-k.ensures refl c.requires.2 c.requires.3
