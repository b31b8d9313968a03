-- Asleep, not taken back, or taken back and then whether it has an open scope. Assumes nothing.
use Rattle.std.proofs.Common.{not, ap, ◌∙◌}
use Rattle.withdrawal.proofs.Counted.{busy_asleep, busy_holding, busy_open}
use Rattle.withdrawal.proofs.abandoning.is_busy.Goals as goal

pub returns-else-is_awake : goal.returns-else-is_awake
returns-else-is_awake c = c.if-is_awake.false ∙ busy_asleep _ _ _ c.is_awake.ensures c.if-is_awake.false

pub returns-then-not-is_taken_back : goal.returns-then-not-is_taken_back
returns-then-not-is_taken_back c = ap not c.if-not-is_taken_back.true ∙ busy_holding _ _ _ c.is_awake.ensures c.if-is_awake.true c.is_taken_back.ensures c.if-not-is_taken_back.true

pub returns-else-not-is_taken_back : goal.returns-else-not-is_taken_back
returns-else-not-is_taken_back c = busy_open _ _ _ c.is_awake.ensures c.if-is_awake.true c.is_taken_back.ensures c.if-not-is_taken_back.false c.requires.2
