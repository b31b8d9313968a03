-- By the tests, in their order: each case is the whole text of the definitions. Assumes nothing.
use Rattle.std.proofs.Common.{not, sym, ap, rules}
use Rattle.replay.proofs.WholeText.{roomy, small, short, long_ledger, line_fits, text_fits, ran_long_plan, ran_long_journal, ran_back, ran_plan}
use Rattle.replay.proofs.run.Goals as goal

pub returns-then-output-room : goal.returns-then-output-room
returns-then-output-room c = small _ _ _ _ _ _ c.text_room-room.ensures c.if-output-room.true

pub returns-then-not-has_room : goal.returns-then-not-has_room
returns-then-not-has_room c = short _ _ _ _ _ _ c.text_room-room.ensures c.if-output-room.false _ c.has_room.ensures (ap not c.if-not-has_room.true)

pub refusal_line-requires : goal.refusal_line-requires
refusal_line-requires c = line_fits _ _ _ c.text_room-room.ensures c.if-output-room.false

pub returns-then-plan-gt-MOST_BYTES : goal.returns-then-plan-gt-MOST_BYTES
returns-then-plan-gt-MOST_BYTES c = ran_long_plan _ _ _ _ _ _ c.text_room-room.ensures c.if-output-room.false (long_ledger _ _ _ c.has_room.ensures (ap not c.if-not-has_room.false)) _ (search rules) _ c.if-plan-gt-MOST_BYTES.true c.refusal_line.ensures

pub refusal_line-requires-then-journal-gt-MOST_BYTES : goal.refusal_line-requires-then-journal-gt-MOST_BYTES
refusal_line-requires-then-journal-gt-MOST_BYTES c = line_fits _ _ _ c.text_room-room.ensures c.if-output-room.false

pub returns-then-journal-gt-MOST_BYTES : goal.returns-then-journal-gt-MOST_BYTES
returns-then-journal-gt-MOST_BYTES c = ran_long_journal _ _ _ _ _ _ c.text_room-room.ensures c.if-output-room.false (long_ledger _ _ _ c.has_room.ensures (ap not c.if-not-has_room.false)) _ (search rules) _ c.if-journal-gt-MOST_BYTES.true c.refusal_line-then-journal-gt-MOST_BYTES.ensures

pub refusal_line-requires-in-Err : goal.refusal_line-requires-in-Err
refusal_line-requires-in-Err c = line_fits _ _ _ c.text_room-room.ensures c.if-output-room.false

pub run_plan-requires : goal.run_plan-requires
run_plan-requires c = (record { accepts = c.in-Ok.read.accepted; room = roomy _ _ _ (sym c.in-Ok.ensures.reading) _ (long_ledger _ _ _ c.has_room.ensures (ap not c.if-not-has_room.false)) }, c.if-journal-gt-MOST_BYTES.false, text_fits _ _ _ c.text_room-room.ensures c.if-output-room.false c.if-journal-gt-MOST_BYTES.false)

pub returns-in-Err : goal.returns-in-Err
returns-in-Err c = ran_back _ _ _ _ _ _ c.text_room-room.ensures c.if-output-room.false (long_ledger _ _ _ c.has_room.ensures (ap not c.if-not-has_room.false)) _ (search rules) _ _ c.if-plan-gt-MOST_BYTES.false c.if-journal-gt-MOST_BYTES.false (sym c.in-Err.ensures.reading) (rw (← c.number.ensures) c.refusal_line-in-Err.ensures)

pub returns-in-Ok : goal.returns-in-Ok
returns-in-Ok c = ran_plan _ _ _ _ _ _ c.text_room-room.ensures c.if-output-room.false (long_ledger _ _ _ c.has_room.ensures (ap not c.if-not-has_room.false)) _ (search rules) _ _ _ c.if-plan-gt-MOST_BYTES.false c.if-journal-gt-MOST_BYTES.false (sym c.in-Ok.ensures.reading) (rw (← c.in-Ok.ensures.bytes) c.run_plan.ensures)
