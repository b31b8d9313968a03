-- The refusal first where the record is broken, and the last line. Assumes nothing.
use Rattle.replay.proofs.CarriedOut.{closed_broken, closed_whole}
use Rattle.std.proofs.Common.{rules}
use Rattle.replay.proofs.records.close.Goals as goal

pub returns-then-is_broken : goal.returns-then-is_broken
returns-then-is_broken c = closed_broken _ _ _ _ _ _ _ _ c.is_broken.ensures c.if-is_broken.true (search rules) c.refusal_line-place.ensures c.tally_line.ensures

pub returns : goal.returns
returns c = closed_whole _ _ _ _ _ _ c.is_broken.ensures c.if-is_broken.false c.tally_line-2.ensures
