-- Asleep, or forward in a final state next, or else its host's track's. Assumes nothing.
use Rattle.plan.specs.Plans.{plan_in}
use Rattle.std.proofs.Common.{not, sym, ap, ◌∙◌}
use Rattle.rules.specs.Plan.{no_state}
use Rattle.rules.specs.Ledger.{is_awake}
use Rattle.ledger.specs.Ladder.{ledger_of}
use Rattle.ledger.proofs.Branches.{holds, fails}
use Rattle.ledger.proofs.ReadTracks.{mode_as}
use Rattle.lookup.proofs.Facts.{host_if, host_unless}
use Rattle.event_choice.proofs.Visits.{state_low, ends_read, asleep_leaves, ending_leaves, staying_keeps}
use Rattle.event_choice.proofs.closing.kept_open.Goals as goal

pub returns-then-not-is_awake : goal.returns-then-not-is_awake
unfolding no_state
returns-then-not-is_awake c =
    host_unless _ _ _ c.requires.0.checked.lent.accepts
    (asleep_leaves _ (fails (c.is_awake.ensures ∙ ap is_awake (mode_as _ c.track-k.ensures)) (ap not c.if-not-is_awake.true)))

pub ends-requires : goal.ends-requires
unfolding no_state
ends-requires c =
    (state_low _ _ _ _ _ c.requires.0 c.requires.2 c.track-k.ensures, c.requires.1.low _ c.requires.2)

pub returns-then-ends : goal.returns-then-ends
unfolding no_state
returns-then-ends c =
    let l = ledger_of _ c.args.plan.now.records.counts c.args.ledger.now in
    host_unless _ _ _ c.requires.0.checked.lent.accepts
    (ending_leaves (is_awake (l c.args.t).mode)
    (sym (ends_read c.args.terms (plan_in c.args.plan.now.records) l c.args.taken.now _ c.args.t c.requires.2 c.track-k.ensures c.ends.ensures)
    ∙ c.if-ends.true))

pub returns : goal.returns
returns c =
    let k = c.track-k.ensures in
    host_if _ _ _ c.requires.0.checked.lent.accepts c.host_track.ensures
    (staying_keeps (holds (c.is_awake.ensures ∙ ap is_awake (mode_as _ k)) (ap not c.if-not-is_awake.false))
    (sym (ends_read c.args.terms (plan_in c.args.plan.now.records) (ledger_of _ c.args.plan.now.records.counts c.args.ledger.now) _ _ _ c.requires.2 k c.ends.ensures) ∙ c.if-ends.false))
