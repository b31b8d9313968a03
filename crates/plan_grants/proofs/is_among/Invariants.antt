-- The invariant: whether the number looked for is one of those looked at so far. Assumes nothing.
use Rattle.std.proofs.Common.{◌≡◌}
use Rattle.plan_grants.specs.Pairs.{is_among}
use Rattle.plan_grants.proofs.is_among.Given as goal

abbrev pub invariant-loop-i : goal.invariant-loop-i
invariant-loop-i l = l.found ≡ is_among l.pairs l.i l.pair
