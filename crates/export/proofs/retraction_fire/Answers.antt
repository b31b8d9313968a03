-- The call's own promise, its answer packed case by case. Assumes nothing.
use Rattle.std.proofs.Common.{sym}
use Rattle.rules.specs.Answers.{fire_told}
use Rattle.export.specs.Packed.{packed}
use Rattle.export.proofs.Packing.{packs}
use Rattle.export.proofs.retraction_fire.Goals as goal

pub returns-in-Refused : goal.returns-in-Refused
unfolding fire_told packed
returns-in-Refused c = rw (sym c.setting_of.ensures) (packs _ _ _ _ _ c.in-Refused.ensures c.from.ensures)

pub returns-in-Fired : goal.returns-in-Fired
unfolding fire_told packed
returns-in-Fired c = rw (sym c.setting_of.ensures) (packs _ _ _ _ _ c.in-Fired.ensures c.pair.ensures)
