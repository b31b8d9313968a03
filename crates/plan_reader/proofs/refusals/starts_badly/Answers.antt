-- The word kept of a track is its first state. Assumes nothing.
use Rattle.std.proofs.Common.{refl, arith}
use Rattle.plan.proofs.PassedLaws.{first_read}
use Rattle.plan_reader.proofs.refusals.starts_badly.Goals as goal

pub bounds-firsts-t : goal.bounds-firsts-t
bounds-firsts-t c = let n = c.args.records.now.holds.tracks in omega arith

pub bad_first-requires : goal.bad_first-requires
bad_first-requires c = first_read _ _ c.args.records.now.holds c.requires.0 _ _ _ c.requires.2 c.requires.1 refl
