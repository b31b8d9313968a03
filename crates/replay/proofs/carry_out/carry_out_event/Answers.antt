-- The step's promise, the line's and the tally's are the record's. Assumes nothing.
use Rattle.rules.specs.Call.{event, event_outcome}
use Rattle.event_choice.specs.Chosen.{told}
use Rattle.replay.proofs.CarriedOut.{carried_out, event_fires}
use Rattle.replay.proofs.carry_out.carry_out_event.Goals as goal

pub returns : goal.returns
unfolding event_outcome
returns c =
    carried_out _ _ _ (event (told c.args.asked)) _ _ _ _ _ _ _ _ _ c.event_indexed-answer.ensures
    (c.event_line-place.ensures _ _) (event_fires _ _) c.come_to.ensures
