-- Source and event give the cell. Assumes nothing.
use Rattle.std.proofs.Common.{◌∙◌, rules}
use Rattle.plan_reader.proofs.CellLaws.{cell_at}
use Rattle.plan_reader.proofs.events.cell_of.Goals as goal

pub returns : goal.returns
returns c = (cell_at _ _ _ _ (c.from-source.ensures ∙ c.source_of.ensures) (c.from-event.ensures ∙ c.event_of.ensures), search rules)
