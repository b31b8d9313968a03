-- No room, a begin refused, a begin accepted. Assumes nothing.
use Rattle.std.proofs.Common.{refl, arith}
use Rattle.property3.specs.Encoding.{answer_room}
use Rattle.property3.proofs.WholeRun.{run_short, run_refused, run_begun}
use Rattle.property3.proofs.run_calls.Goals as goal

pub returns-then-answers-calls : goal.returns-then-answers-calls
returns-then-answers-calls c = run_short _ _ _ _ _ c.if-answers-calls.true

pub make_calls-requires : goal.make_calls-requires
unfolding answer_room
make_calls-requires c = omega (arith, c.if-answers-calls.false)

pub returns-in-Refused : goal.returns-in-Refused
returns-in-Refused c = run_refused _ _ _ _ _ c.if-answers-calls.false _ _ c.in-Refused.ensures _ refl

pub returns-in-Begun : goal.returns-in-Begun
returns-in-Begun c = run_begun _ _ _ _ _ c.if-answers-calls.false _ _ c.in-Begun.ensures _ _ refl c.make_calls.ensures
