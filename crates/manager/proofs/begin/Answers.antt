-- The call at the terms that the setting comes to. Assumes nothing.
use Rattle.std.proofs.Common.{sym}
use Rattle.manager.proofs.begin.Goals as goal

pub returns : goal.returns
returns c = rw (sym c.terms_of.ensures) c.begin.ensures
