use Rattle.withdrawal.proofs.Counted.{count_start}
use Rattle.withdrawal.proofs.abandoning.open_scopes.Goals as goal

pub loop-t-init : goal.loop-t-init
loop-t-init c = count_start _ _ c.requires.accepts _ _ c.open_scopes-opens.ensures
