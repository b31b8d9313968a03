-- The call's own promise, its answer packed case by case. Assumes nothing.
use Rattle.std.proofs.Common.{refl, sym}
use Rattle.rules.specs.Answers.{begin_told}
use Rattle.export.specs.Packed.{packed}
use Rattle.export.proofs.Packing.{packs}
use Rattle.export.proofs.retraction_begin.Goals as goal

pub returns-in-Refused : goal.returns-in-Refused
unfolding begin_told packed
returns-in-Refused c = rw (sym c.setting_of.ensures) (packs _ _ _ _ _ c.in-Refused.ensures c.from.ensures)

pub returns-in-Begun : goal.returns-in-Begun
unfolding begin_told packed
returns-in-Begun c = rw (sym c.setting_of.ensures) (packs _ _ _ _ _ c.in-Begun.ensures refl)
