-- The word is 0, 1, or neither. Assumes nothing.
use Rattle.std.proofs.Common.{rules}
use Rattle.ledger.proofs.Words.{mode_zero, mode_one, mode_more}
use Rattle.ledger.proofs.track.mode_of.Goals as goal

pub returns-in-0 : goal.returns-in-0
returns-in-0 c = mode_zero _ c.in-0.is

pub returns-in-1 : goal.returns-in-1
returns-in-1 c = mode_one _ c.in-1.is

pub returns-in_default : goal.returns-in_default
returns-in_default c = search (rules, mode_more)
