-- The call's own promise, its answer packed case by case. Assumes nothing.
use Rattle.std.proofs.Common.{sym}
use Rattle.rules.specs.Answers.{signal_told}
use Rattle.export.specs.Packed.{packed}
use Rattle.export.proofs.Packing.{packs}
use Rattle.export.proofs.retraction_signal.Goals as goal

pub returns-in-Refused : goal.returns-in-Refused
unfolding signal_told packed
returns-in-Refused c = rw (sym c.setting_of.ensures) (packs _ _ _ _ _ c.in-Refused.ensures c.from.ensures)

pub returns-in-Turned : goal.returns-in-Turned
unfolding signal_told packed
returns-in-Turned c = rw (sym c.setting_of.ensures) (packs _ _ _ _ _ c.in-Turned.ensures c.at_bit16.ensures)
