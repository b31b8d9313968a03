-- The step's promise, the line's and the tally's are the record's. Assumes nothing.
use Rattle.rules.specs.Call.{signal, signal_outcome}
use Rattle.replay.proofs.CarriedOut.{carried_out, signal_fires}
use Rattle.replay.proofs.carry_out.carry_out_signal.Goals as goal

pub returns : goal.returns
unfolding signal_outcome
returns c = carried_out _ _ _ (signal (record { society = _ })) _ _ _ _ _ _ _ _ _ c.signal-answer.ensures (c.signal_line-place.ensures _) (signal_fires _ _) c.come_to.ensures
