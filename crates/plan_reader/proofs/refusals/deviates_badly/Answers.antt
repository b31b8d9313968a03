-- The transition's source is a state of some track, as 9 and 13 have it. Assumes nothing.
use Rattle.plan.proofs.RefusalTests.{mover_passed}
use Rattle.plan_reader.proofs.refusals.deviates_badly.Goals as goal

pub bad_deviation-requires : goal.bad_deviation-requires
bad_deviation-requires c = let m = mover_passed _ _ c.requires.0 c.requires.1 _ c.requires.2 in (c.requires.2, m.0, m.1)
