-- By the case; where the reading ends there is nothing to carry out. Assumes nothing.
use Rattle.std.proofs.Common.{◌∙◌}
use Rattle.signed.proofs.Integers.{read_back}
use Rattle.replay.proofs.CarriedOut.{carried_on, ended_none, broken_none}
use Rattle.replay.proofs.carry_out.carry_out.Goals as goal

pub returns-in-Ended : goal.returns-in-Ended
returns-in-Ended c = absurd (ended_none _ c.in-Ended.is c.requires.1)

pub returns-in-Broken : goal.returns-in-Broken
returns-in-Broken c = absurd (broken_none _ c.in-Broken.is c.requires.1)

pub returns-in-Event : goal.returns-in-Event
returns-in-Event c =
    let j = c.join in
    rw c.in-Event.is (carried_on _ _ _ (read_back _ j.type_inv ∙ j.ensures) c.carry_out_event.ensures)

pub returns-in-Signal : goal.returns-in-Signal
returns-in-Signal c = rw c.in-Signal.is c.carry_out_signal.ensures

pub returns-in-Fire : goal.returns-in-Fire
returns-in-Fire c = rw c.in-Fire.is c.carry_out_fire.ensures

pub returns-in-FireLowest : goal.returns-in-FireLowest
returns-in-FireLowest c = rw c.in-FireLowest.is c.carry_out_lowest.ensures
