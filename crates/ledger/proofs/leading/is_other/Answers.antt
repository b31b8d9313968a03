-- Both words are looked at, and either decides. Assumes nothing.
use Rattle.ledger.proofs.LeadingLaws.{either_other}
use Rattle.ledger.proofs.leading.is_other.Goals as goal

pub returns : goal.returns
returns c = either_other _ _ _ _ c.from.ensures c.sum.ensures
