use Rattle.std.proofs.Common.{refl, arith, rules}
use Rattle.property3.specs.Encoding.{answer_room}
use Rattle.property3.proofs.OneCall.{on_read}
use Rattle.property3.proofs.EachCall.{underway_start, underway_next, underway_done}
use Rattle.property3.proofs.make_calls.Goals as goal

pub loop-i-init : goal.loop-i-init
loop-i-init c = (underway_start _ _ _ _ _, refl, refl)

pub write_answer-requires : goal.write_answer-requires
unfolding answer_room
write_answer-requires c =
    omega (arith, c.requires, c.loop-i.invariant.1, c.loop-i-test.true)

pub loop-i-preserved : goal.loop-i-preserved
loop-i-preserved c = (
  underway_next _ _ _ _ _ _ _ _ (omega (arith, c.loop-i-test.true)) (omega (arith, c.requires, c.loop-i.invariant.1)) c.loop-i.invariant.0 _ _ _
      (on_read _ _ _ _ _ c.join-day.result (record { sfits = c.join-day.type_inv }) _ _ _ _ c.join-day.ensures c.make_call-told.ensures) c.write_answer.ensures,
  search rules,
  search rules,
)

pub returns : goal.returns
returns c = underway_done _ _ _ _ _ _ _ _ c.loop-i-test.false c.loop-i.invariant.0
