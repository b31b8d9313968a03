-- A code of 0 adds nothing, any other one entry. Assumes nothing.
use Rattle.std.proofs.Common.{◌∙◌, rules}
use Rattle.largest.proofs.EntriesLaws.{coded}
use Rattle.largest.proofs.explore.of_transition.Goals as goal

pub returns : goal.returns
returns c = (c.from.ensures ∙ coded _ _ _ c.code_of.ensures, search rules)
