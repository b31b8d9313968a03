-- The open scopes, those of them that are left open, and the others' tracks put to sleep. Assumes nothing.
use Rattle.withdrawal.proofs.AbandoningLaws.{leaving_marks}
use Rattle.withdrawal.proofs.abandoning.abandon.Goals as goal

pub returns : goal.returns
returns c =
    let d = c.leave_all.ensures in
    (d.0, d.1, leaving_marks _ _ _ _ c.requires.0 _ c.left_open-left.ensures d.0)
