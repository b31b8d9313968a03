use Rattle.largest.proofs.StatesLaws.{all_start, all_round, all_end}
use Rattle.std.proofs.Common.{rules}
use Rattle.largest.proofs.explore.explore_all.Goals as goal

pub loop-s-init : goal.loop-s-init
loop-s-init c = all_start _ _ c.args.plan.now.accepted _ _ c.requires.1 c.requires.2

pub returns-then-not-explore : goal.returns-then-not-explore
returns-then-not-explore c =
    all_round _ _ c.args.plan.now.accepted _ _ _ _ _ (search rules) c.if-not-explore.true c.explore.ensures

pub returns : goal.returns
returns c = all_end _ _ c.args.plan.now.accepted _ _ _ (search rules) c.loop-s.invariant
