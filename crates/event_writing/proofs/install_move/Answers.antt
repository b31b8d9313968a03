-- Nothing happens, or the transition's entry is installed and its destination entered. Assumes nothing.
use Rattle.std.proofs.Common.{arith}
use Rattle.rules.specs.Plan.{no_state}
use Rattle.lookup.proofs.OneTrackLaws.{kept_track}
use Rattle.event_choice.proofs.Visits.{destination_low}
use Rattle.event_writing.proofs.OneTrack.{stays, enters_none, installs, enters_some, has_code_lem}
use Rattle.event_writing.proofs.install_move.Goals as goal

pub returns-then-x-eq-NO_STATE : goal.returns-then-x-eq-NO_STATE
unfolding no_state
returns-then-x-eq-NO_STATE c =
    (kept_track _ _ _ c.requires.0 _ _ (stays _ _ c.if-x-eq-NO_STATE.true _), enters_none _ _ c.if-x-eq-NO_STATE.true)

pub code_of-code-requires : goal.code_of-code-requires
unfolding no_state
code_of-code-requires c = c.requires.2 c.if-x-eq-NO_STATE.false

pub deviation_of-deviation-requires : goal.deviation_of-deviation-requires
unfolding no_state
deviation_of-deviation-requires c = c.requires.2 c.if-x-eq-NO_STATE.false

pub give-requires : goal.give-requires
unfolding no_state
give-requires c =
    (c.requires.0, c.requires.1, λ z. c.requires.3 (has_code_lem _ _ c.if-x-eq-NO_STATE.false c.code_of-code.ensures z))

pub destination_of-requires : goal.destination_of-requires
unfolding no_state
destination_of-requires c =
    c.requires.2 c.if-x-eq-NO_STATE.false

pub returns : goal.returns
unfolding no_state
returns c =
    let n = c.if-x-eq-NO_STATE.false in
    let d = destination_low _ _ c.args.plan.now.accepted (c.requires.2 n) c.destination_of.ensures in
    let s = c.args.plan.now.accepted.holds.states in (
      installs _ _ n c.code_of-code.ensures c.deviation_of-deviation.ensures _ _ _ _
          c.give.ensures,
      enters_some _ _ n c.destination_of.ensures (omega arith),
    )
