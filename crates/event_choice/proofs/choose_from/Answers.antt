-- What is taken on any day, what is left of it on this one and for this society, and the choice. Assumes nothing.
use Rattle.std.proofs.Common.{arith}
use Rattle.signed.proofs.Integers.{read_back}
use Rattle.event_choice.proofs.DayMoves.{any_range, numbers_on, day_moves}
use Rattle.event_choice.proofs.choose_from.Goals as goal

pub taken_on-all-requires : goal.taken_on-all-requires
taken_on-all-requires c =
    (any_range _ _ _ _ c.requires.2, c.requires.2.size)

pub choose_by-requires : goal.choose_by-requires
choose_by-requires c =
    (c.requires.0, c.requires.1, day_moves _ _ _ _ c.requires.2 (numbers_on _ _ (read_back _ (omega arith)) c.taken_on-all.ensures) c.taken_of-taken.ensures)
