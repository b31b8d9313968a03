-- The conversion's own promise, its answer packed case by case; a day that it finds is in the range, so it is read back unchanged.
-- Assumes nothing.
use Rattle.std.proofs.Common.{sym, ap, ◌∙◌, ◌*◌}
use Rattle.rules.specs.Signed.{bits_of}
use Rattle.rules.specs.Answers.{day_told}
use Rattle.rules.proofs.SignedLaws.{day_fits}
use Rattle.signed.proofs.Integers.{read_back}
use Rattle.calendar.proofs.Theorems.{day_there_is}
use Rattle.export.specs.Packed.{bit32, packed_day}
use Rattle.export.proofs.retraction_day_of_date.Goals as goal

pub returns-in-Refused : goal.returns-in-Refused
unfolding day_told packed_day
returns-in-Refused c = c.from.ensures ∙ ap packed_day c.in-Refused.ensures

pub returns-in-Day : goal.returns-in-Day
unfolding day_told packed_day
returns-in-Day c =
    let e = read_back _ (day_fits _ (day_there_is _ _ (sym c.in-Day.ensures))).sfits in
    c.at_bit32.ensures ∙ ap (λ n. n * bit32) (c.bits_of.ensures ∙ ap bits_of e) ∙ ap packed_day c.in-Day.ensures
