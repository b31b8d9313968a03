-- The parts are the clauses. Assumes nothing.
use Rattle.soundness.proofs.Clauses.{live_asked}
use Rattle.finish.proofs.Roots.{all_known}
use Rattle.soundness.proofs.sound.is_live.Goals as goal

pub returns : goal.returns
returns c = live_asked _ _ _ c.are_sound-tracks.ensures c.is_finishing-finishing.ensures c.are_sound-scopes.ensures

pub is_finishing-finishing-requires : goal.is_finishing-finishing-requires
is_finishing-finishing-requires c = (c.requires.0, all_known _ _ c.requires.2)
