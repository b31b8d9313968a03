-- Its two tests, one after the other. Assumes nothing.
use Rattle.transition_index.proofs.Walks.{other_source, same_source}
use Rattle.transition_index.proofs.is_for.Goals as goal

pub returns-then-source_of-s : goal.returns-then-source_of-s
returns-then-source_of-s c = other_source _ _ _ _ _ c.source_of.ensures c.if-source_of-s.true

pub returns : goal.returns
returns c = same_source _ _ _ _ _ _ c.source_of.ensures c.if-source_of-s.false c.event_of.ensures
