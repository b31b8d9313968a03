-- The deviation of the entry read. Assumes nothing.
use Rattle.std.proofs.Common.{ap}
use Rattle.rules.specs.Ledger.{Entry}
use Rattle.ledger.proofs.track.entry_deviation.Goals as goal

pub returns : goal.returns
returns c = ap (λ (e : Entry). e.deviation) c.entry_at.ensures
