-- The call's own promise, its answer packed case by case. Assumes nothing.
use Rattle.std.proofs.Common.{sym}
use Rattle.rules.specs.Answers.{ready_told}
use Rattle.export.specs.Packed.{packed_ready}
use Rattle.export.proofs.Packing.{packs}
use Rattle.export.proofs.retraction_ready.Goals as goal

pub returns-in-Refused : goal.returns-in-Refused
unfolding ready_told packed_ready
returns-in-Refused c = rw (sym c.setting_of.ensures) (packs _ _ _ _ _ c.in-Refused.ensures c.from.ensures)

pub returns-in-Ready : goal.returns-in-Ready
unfolding ready_told packed_ready
returns-in-Ready c = rw (sym c.setting_of.ensures) (packs _ _ _ _ _ c.in-Ready.ensures c.at_bit32.ensures)
