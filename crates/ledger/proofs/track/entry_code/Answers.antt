-- The code of the entry read. Assumes nothing.
use Rattle.std.proofs.Common.{ap}
use Rattle.rules.specs.Ledger.{Entry}
use Rattle.ledger.proofs.track.entry_code.Goals as goal

pub returns : goal.returns
returns c = ap (λ (e : Entry). e.code) c.entry_at.ensures
