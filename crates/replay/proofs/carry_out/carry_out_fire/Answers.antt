-- The step's promise, the line's and the tally's are the record's. Assumes nothing.
use Rattle.std.proofs.Common.{arith, rules}
use Rattle.rules.specs.Answers.{fire_told}
use Rattle.rules.specs.Call.{fire, fire_outcome}
use Rattle.replay.proofs.CarriedOut.{carried_out, fires_one}
use Rattle.replay.proofs.carry_out.carry_out_fire.Goals as goal

pub fire-answer-requires : goal.fire-answer-requires
fire-answer-requires c = (c.requires.0.checked, λ o. c.open_scopes-opens.ensures, c.requires.1)

pub come_to-requires : goal.come_to-requires
come_to-requires c = (search rules, omega (arith, c.firings_of-fired.ensures 0 0, fires_one (record { track = 0; society = 0 }) (fire_told c.fire-answer.result), c.requires.0.few))

pub returns : goal.returns
unfolding fire_outcome
returns c = carried_out _ _ _ (fire (record { track = _; society = _ })) _ _ _ _ _ _ _ _ _ c.fire-answer.ensures (c.fire_line-place.ensures _) (c.firings_of-fired.ensures _ _) c.come_to.ensures
