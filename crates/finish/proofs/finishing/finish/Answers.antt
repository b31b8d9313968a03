-- Where finish is not due nothing is written, and else every track is put to sleep. Assumes nothing.
use Rattle.std.proofs.Common.{not, ap}
use Rattle.finish.proofs.Sleeping.{stays_awake, all_asleep_lem}
use Rattle.finish.proofs.finishing.finish.Goals as goal

pub returns-then-not-is_finishing : goal.returns-then-not-is_finishing
returns-then-not-is_finishing c = stays_awake _ _ _ _ c.is_finishing.ensures c.requires.0 (ap not c.if-not-is_finishing.true)

pub returns : goal.returns
returns c = all_asleep_lem _ _ _ _ c.is_finishing.ensures (ap not c.if-not-is_finishing.false) c.put_all_to_sleep.ensures
