-- By the society, then by the sum. Assumes nothing.
use Rattle.rights.proofs.Held.{gives_other, gives_own}
use Rattle.rights.proofs.gives_to.Goals as goal

pub returns-then-grant_society-society : goal.returns-then-grant_society-society
returns-then-grant_society-society c = gives_other _ _ _ _ c.grant_society.ensures c.if-grant_society-society.true

pub returns : goal.returns
returns c = gives_own _ _ _ _ c.grant_society.ensures c.if-grant_society-society.false c.grant_rights-sum.ensures
