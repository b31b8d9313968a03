-- A replacement of 0 adds nothing, any other one entry. Assumes nothing.
use Rattle.std.proofs.Common.{◌∙◌, rules}
use Rattle.largest.proofs.EntriesLaws.{replaced}
use Rattle.largest.proofs.explore.of_state.Goals as goal

pub returns : goal.returns
returns c =
    (c.from.ensures ∙ replaced _ _ c.args.plan.now.accepted _ _ c.requires c.replacement_of.ensures, search rules)
