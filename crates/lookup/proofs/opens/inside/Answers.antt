-- Asleep it is in no open scope; awake it is in its host's track's. Assumes nothing.
use Rattle.std.proofs.Common.{not, ap}
use Rattle.rules.specs.Plan.{no_state}
use Rattle.ledger.proofs.Branches.{holds, fails}
use Rattle.lookup.proofs.Facts.{host_if, host_unless}
use Rattle.lookup.proofs.opens.inside.Goals as goal

pub returns-then-not-is_awake : goal.returns-then-not-is_awake
returns-then-not-is_awake c = host_unless _ _ _ c.requires.0.accepts (fails c.is_awake.ensures (ap not c.if-not-is_awake.true))

pub returns-then-u : goal.returns-then-u
unfolding no_state
returns-then-u c =
    rw c.if-u.true at (host_if _ _ _ c.requires.0.accepts c.host_track-u.ensures (holds c.is_awake.ensures (ap not c.if-not-is_awake.false)))

pub returns-else-u : goal.returns-else-u
unfolding no_state
returns-else-u c =
    let o = host_if _ _ _ c.requires.0.accepts c.host_track-u.ensures (holds c.is_awake.ensures (ap not c.if-not-is_awake.false)) in
    rw c.from.ensures (o.low c.if-u.false, o)
