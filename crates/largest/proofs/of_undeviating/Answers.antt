-- A cycle is 29; else all states are known. Assumes nothing.
use Rattle.largest.proofs.AnswerLaws.{going_round, shows_refused}
use Rattle.largest.proofs.of_undeviating.Goals as goal

pub returns-then-not-explore_all : goal.returns-then-not-explore_all
returns-then-not-explore_all c =
    let r = c.refused.ensures in
    shows_refused _ _ (going_round _ _ c.args.plan.now.accepted.read c.requires.0 (c.explore_all.ensures.round c.if-not-explore_all.true))
    r.0 r.1 r.2 r.3
