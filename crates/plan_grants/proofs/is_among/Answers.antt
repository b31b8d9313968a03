use Rattle.plan_grants.proofs.GrantTests.{among_none, among_more, among_all}
use Rattle.std.proofs.Common.{rules}
use Rattle.plan_grants.proofs.is_among.Goals as goal

pub loop-i-init : goal.loop-i-init
loop-i-init c = among_none _ _

pub loop-i-preserved : goal.loop-i-preserved
loop-i-preserved c = among_more _ _ _ c.loop-i.invariant

pub returns : goal.returns
returns c = among_all _ _ _ _ (search rules) (search rules) c.loop-i.invariant
