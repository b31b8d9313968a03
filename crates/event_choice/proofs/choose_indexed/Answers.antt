-- What is taken by the index, and the choice. Assumes nothing.
use Rattle.event_choice.proofs.choose_indexed.Goals as goal

pub taken_from-any-requires : goal.taken_from-any-requires
taken_from-any-requires c = (c.requires.0.checked.lent, c.requires.2, c.requires.1)
