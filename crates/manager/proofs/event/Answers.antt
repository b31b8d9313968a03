-- The call at the terms that the setting comes to. Assumes nothing.
use Rattle.std.proofs.Common.{sym}
use Rattle.signed.proofs.Integers.{read_back}
use Rattle.manager.proofs.Checks.{on_day}
use Rattle.manager.proofs.event.Goals as goal

pub returns : goal.returns
returns c =
    rw (sym c.terms_of.ensures)
    (on_day _ _ _ _ _ (read_back _ c.ranges.day.sfits) c.event.ensures)
