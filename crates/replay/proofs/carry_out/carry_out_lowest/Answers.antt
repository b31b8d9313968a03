-- Firing the track that was found is the call that the rules name. Assumes nothing.
use Rattle.replay.proofs.CarriedOut.{carried_out_as}
use Rattle.replay.proofs.carry_out.carry_out_lowest.Goals as goal

pub returns : goal.returns
returns c = carried_out_as _ _ _ _ _ _ _ _ _ _ _ c.lowest_ready-lowest.ensures c.carry_out_fire.ensures
