-- A root and another track: the cases of the definition. Assumes nothing.
use Rattle.std.proofs.Common.{not, ap}
use Rattle.rules.specs.Plan.{no_state}
use Rattle.opening.proofs.BeginLaws.{not_rooted, rooted}
use Rattle.opening.proofs.begin.root_word.Goals as goal

pub returns-then-not-is_root : goal.returns-then-not-is_root
unfolding no_state
returns-then-not-is_root c = not_rooted _ _ c.args.plan.now.accepted _ c.requires.0 c.is_root.ensures (ap not c.if-not-is_root.true)

pub returns : goal.returns
returns c = rooted _ _ c.args.plan.now.accepted _ c.requires.0 c.is_root.ensures (ap not c.if-not-is_root.false) (c.requires.1.at _ c.requires.0)
