-- Each word as it is written. Assumes nothing.
use Rattle.std.proofs.Common.{refl}
use Rattle.rules.specs.Answers.{largest_told}
use Rattle.rules.specs.Largest.{no_transition, padded}
use Rattle.largest.proofs.showing.refused.Goals as goal

pub returns : goal.returns
unfolding largest_told padded no_transition
returns c = (refl, refl, refl, refl)
