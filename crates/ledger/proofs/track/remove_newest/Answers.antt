-- One less than the count read is the number of the newest entry. Assumes nothing.
use Rattle.std.proofs.Common.{arith}
use Rattle.ledger.proofs.Words.{count_of, remove_steps}
use Rattle.ledger.proofs.track.remove_newest.Goals as goal

pub overflow_sub-n : goal.overflow_sub-n
overflow_sub-n c = omega (arith, c.requires.1, count_of c.track_at-k.ensures)

pub put_entry-requires : goal.put_entry-requires
put_entry-requires c = (c.requires.0, omega (arith, c.requires.1, c.requires.2, count_of c.track_at-k.ensures))

pub returns : goal.returns
returns c = remove_steps _ _ _ _ _ _ c.track_at-k.ensures (rw c.from.ensures at c.put_entry.ensures) c.put_count.ensures
