-- The day's two words, joined. Assumes nothing.
use Rattle.std.proofs.Common.{◌∙◌}
use Rattle.rules.specs.Leading.{last_day}
use Rattle.signed.proofs.Integers.{read_back}
use Rattle.ledger.proofs.leading.last_day.Goals as goal

pub returns : goal.returns
unfolding last_day
returns c = read_back _ c.join.type_inv ∙ c.join.ensures
