-- Still busy, a root, others busy there, or on to the host's track: the four cases of a climb. The measure is the track's number, and
-- the host's track has a lower one. Assumes nothing.
use Rattle.withdrawal.proofs.abandoning.+climb.Given as goal

abbrev pub decreases-climb : goal.decreases-climb
decreases-climb l = l.t
