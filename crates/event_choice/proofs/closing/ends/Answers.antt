-- Forward or not; then the state that it is in, or its transition's destination. Assumes nothing.
use Rattle.std.proofs.Common.{not, ap}
use Rattle.rules.specs.Plan.{no_state}
use Rattle.event_choice.specs.Next.{ends_by}
use Rattle.ledger.proofs.Branches.{and_stops, and_goes}
use Rattle.event_choice.proofs.Visits.{destination_low, next_still, next_moved}
use Rattle.event_choice.proofs.closing.ends.Goals as goal

pub returns-then-not-is_forward : goal.returns-then-not-is_forward
unfolding ends_by
returns-then-not-is_forward c = and_stops c.is_forward.ensures _ (ap not c.if-not-is_forward.true)

pub returns-then-x-eq-NO_STATE : goal.returns-then-x-eq-NO_STATE
unfolding ends_by no_state
returns-then-x-eq-NO_STATE c = and_goes c.is_forward.ensures (ap not c.if-not-is_forward.false) (next_still _ _ c.if-x-eq-NO_STATE.true c.is_final.ensures)

pub destination_of-d-requires : goal.destination_of-d-requires
unfolding no_state
destination_of-d-requires c = c.requires.1 c.if-x-eq-NO_STATE.false

pub is_final-requires-2 : goal.is_final-requires-2
unfolding no_state
is_final-requires-2 c =
    destination_low _ _ c.args.plan.now.accepted (c.requires.1 c.if-x-eq-NO_STATE.false) c.destination_of-d.ensures

pub returns : goal.returns
unfolding ends_by no_state
returns c =
    and_goes c.is_forward.ensures (ap not c.if-not-is_forward.false)
    (next_moved _ _ c.if-x-eq-NO_STATE.false c.destination_of-d.ensures c.is_final-2.ensures)
