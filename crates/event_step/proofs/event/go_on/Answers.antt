-- 21 by the choice; where no track moves nothing changes but the day; else the step, finish, the day, and the figures. Assumes nothing.
use Rattle.std.proofs.Common.{refl}
use Rattle.rules.proofs.SignedLaws.{day_fits}
use Rattle.signed.proofs.Integers.{read_back}
use Rattle.ledger.proofs.Words.{leading_room}
use Rattle.event_step.proofs.Answering.{dated_with, full_refused, still_met, step_met}
use Rattle.event_step.proofs.Ended.{settled_tidy, settled_scopes, event_ended, ended_room}
use Rattle.event_step.proofs.event.go_on.Goals as goal

pub returns-then-choice : goal.returns-then-choice
returns-then-choice c = full_refused _ _ _ _ c.requires.0 _ (c.requires.1, refl) c.if-choice.true

pub put_day-requires : goal.put_day-requires
put_day-requires c = leading_room c.requires.0.checked.lent.room

pub returns-then-choice-eq0 : goal.returns-then-choice-eq0
returns-then-choice-eq0 c =
    let d = read_back _ (day_fits _ c.requires.4).sfits in
    still_met _ _ _ _ c.requires.0 _ (c.requires.1, refl) c.if-choice.false c.if-choice-eq0.true (dated_with _ d c.put_day.ensures)

pub finish-requires : goal.finish-requires
finish-requires c =
    let free = c.if-choice.false in
    let w = c.write.ensures in
    (settled_tidy _ _ _ _ c.requires.0 _ c.requires.1 free w, settled_scopes _ _ _ _ c.requires.0 _ c.requires.1 free w c.requires.2)

pub put_day-requires-2 : goal.put_day-requires-2
put_day-requires-2 c =
    let free = c.if-choice.false in
    ended_room _ _ _ _ c.requires.0 _ c.requires.1 free (event_ended _ _ _ _ c.requires.0 _ c.requires.1 free c.write.ensures c.finish.ensures)

pub returns : goal.returns
returns c =
    let free = c.if-choice.false in
    let d = read_back _ (day_fits _ c.requires.4).sfits in
    let e = event_ended _ _ _ _ c.requires.0 _ c.requires.1 free c.write.ensures c.finish.ensures in
    step_met _ _ _ _ c.requires.0 _ (c.requires.1, refl) free e (dated_with _ d c.put_day-2.ensures)
