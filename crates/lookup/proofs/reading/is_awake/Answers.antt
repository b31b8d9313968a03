-- The mode read is the ledger's. Assumes nothing.
use Rattle.std.proofs.Common.{ap, ◌∙◌}
use Rattle.rules.specs.Ledger.{is_awake}
use Rattle.ledger.proofs.ReadTracks.{mode_as}
use Rattle.lookup.proofs.reading.is_awake.Goals as goal

pub returns : goal.returns
returns c = c.is_awake.ensures ∙ ap is_awake (mode_as _ c.track.ensures)
