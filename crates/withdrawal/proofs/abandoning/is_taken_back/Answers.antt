-- Undoing and then what it holds, or not undoing. Assumes nothing.
use Rattle.std.proofs.Common.{◌∙◌}
use Rattle.ledger.specs.Ladder.{ledger_of}
use Rattle.withdrawal.proofs.Counted.{back_not, back_empty}
use Rattle.withdrawal.proofs.abandoning.is_taken_back.Goals as goal

pub returns-then-is_undoing : goal.returns-then-is_undoing
returns-then-is_undoing c = back_empty (ledger_of _ c.args.c c.args.ledger.now) c.args.t c.track-k.ensures c.is_undoing.ensures c.if-is_undoing.true

pub returns-else-is_undoing : goal.returns-else-is_undoing
returns-else-is_undoing c = c.if-is_undoing.false ∙ back_not (ledger_of _ c.args.c c.args.ledger.now) c.args.t c.track-k.ensures c.is_undoing.ensures c.if-is_undoing.false
