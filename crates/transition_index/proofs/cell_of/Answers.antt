-- By its definition. Assumes nothing.
use Rattle.transition_index.specs.Indexed.{cell_of}
use Rattle.std.proofs.Common.{rules}
use Rattle.transition_index.proofs.cell_of.Goals as goal

pub returns : goal.returns
unfolding cell_of
returns c = search rules
