-- Without a state nothing changes; else the track alone enters one. Assumes nothing.
use Rattle.rules.specs.Plan.{no_state}
use Rattle.withdrawal.proofs.DeviatingLaws.{deviating_sleepers, deviating_done, deviates_not}
use Rattle.withdrawal.proofs.fire.deviate.Goals as goal

pub returns-then-s-eq-NO_STATE : goal.returns-then-s-eq-NO_STATE
unfolding no_state
returns-then-s-eq-NO_STATE c = deviates_not _ _ _ c.args.plan.now.accepted _ _ _ c.requires.0 c.if-s-eq-NO_STATE.true

pub enter_all-requires : goal.enter_all-requires
unfolding no_state
enter_all-requires c =
    (c.requires.0, c.requires.2, deviating_sleepers c.args.terms _ _ c.args.plan.now.accepted _ c.requires.1 _ _ c.requires.3)

pub returns : goal.returns
unfolding no_state
returns c = deviating_done _ _ _ c.args.plan.now.accepted _ c.requires.1 _ _ c.enter_all.ensures
