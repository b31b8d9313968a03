-- The call's own promise, its answer packed case by case. Assumes nothing.
use Rattle.std.proofs.Common.{sym}
use Rattle.rules.specs.Answers.{event_told}
use Rattle.export.specs.Packed.{packed}
use Rattle.signed.proofs.Integers.{read_back}
use Rattle.manager.proofs.Checks.{on_day}
use Rattle.export.proofs.Packing.{packs}
use Rattle.export.proofs.retraction_event.Goals as goal

pub returns-in-Refused : goal.returns-in-Refused
unfolding event_told packed
returns-in-Refused c = rw (sym c.setting_of.ensures) (packs _ _ _ _ _ (on_day _ _ _ _ _ (read_back _ c.ranges.day.sfits) c.in-Refused.ensures) c.from.ensures)

pub returns-in-Moved : goal.returns-in-Moved
unfolding event_told packed
returns-in-Moved c = rw (sym c.setting_of.ensures) (packs _ _ _ _ _ (on_day _ _ _ _ _ (read_back _ c.ranges.day.sfits) c.in-Moved.ensures) c.pair.ensures)
