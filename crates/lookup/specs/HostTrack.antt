-- The track of a track's host. Assumes nothing.
use Rattle.std.proofs.Math.Option.{none, some}
use Rattle.rules.specs.Names.{TrackNumber}
use Rattle.rules.specs.Plan.{Plan, no_state, host, owner}

-- 65535 for a root
unfoldable pub host_track : Plan → TrackNumber → TrackNumber
host_track p t = elim (host p t) [ none ↦ no_state | some h ↦ owner p h ]
