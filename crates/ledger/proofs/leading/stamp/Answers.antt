-- Two words are set and the day is put, and the others stay. Assumes nothing.
use Rattle.std.proofs.Common.{refl, ap, ◌∙◌, length}
use Rattle.rules.proofs.LeadingLaws.{length-stamped_lem}
use Rattle.ledger.proofs.LeadingLaws.{stamp_steps}
use Rattle.ledger.proofs.leading.stamp.Goals as goal

pub returns : goal.returns
returns c =
    c.put_day.ensures
    ∙ stamp_steps _ _ _ _ c.requires.1 refl c.sum.ensures

pub shape_of-ledger : goal.shape_of-ledger
shape_of-ledger c = ap length (returns c) ∙ length-stamped_lem _ _ c.requires.1
