-- By the tests, one after the other. Assumes nothing.
use Rattle.std.proofs.Common.{not, ap, arith}
use Rattle.signed.proofs.Integers.{read_back}
use Rattle.ledger.proofs.Words.{leading_room}
use Rattle.event_step.proofs.Answering.{day_asked, early_zero, early_day, early_over, early_lacks, early_none}
use Rattle.event_step.proofs.event.refusal_of.Goals as goal

pub returns-then-asked-eq0 : goal.returns-then-asked-eq0
returns-then-asked-eq0 c = early_zero _ _ _ _ c.if-asked-eq0.true

pub is_bad_day-requires : goal.is_bad_day-requires
is_bad_day-requires c = leading_room c.requires.lent.room

pub returns-then-is_bad_day : goal.returns-then-is_bad_day
returns-then-is_bad_day c = early_day _ _ _ _ c.if-asked-eq0.false (day_asked _ (read_back _ (omega arith)) c.is_bad_day.ensures) c.if-is_bad_day.true

pub returns-then-is_over : goal.returns-then-is_over
returns-then-is_over c = early_over _ _ _ _ c.if-asked-eq0.false (day_asked _ (read_back _ (omega arith)) c.is_bad_day.ensures) c.if-is_bad_day.false c.is_over.ensures c.if-is_over.true

pub returns-then-not-holds_somewhere : goal.returns-then-not-holds_somewhere
returns-then-not-holds_somewhere c =
    early_lacks _ _ _ _ c.if-asked-eq0.false (day_asked _ (read_back _ (omega arith)) c.is_bad_day.ensures) c.if-is_bad_day.false c.is_over.ensures c.if-is_over.false c.holds_somewhere.ensures (ap not c.if-not-holds_somewhere.true)

pub returns : goal.returns
returns c =
    early_none _ _ _ _ c.if-asked-eq0.false (day_asked _ (read_back _ (omega arith)) c.is_bad_day.ensures) c.if-is_bad_day.false c.is_over.ensures c.if-is_over.false c.holds_somewhere.ensures (ap not c.if-not-holds_somewhere.false)
