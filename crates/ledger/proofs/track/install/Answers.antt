-- The count read is the number of the new entry, which the limit allows. Assumes nothing.
use Rattle.std.proofs.Common.{arith}
use Rattle.ledger.proofs.Words.{count_of, install_steps}
use Rattle.ledger.proofs.track.install.Goals as goal

pub put_entry-requires : goal.put_entry-requires
put_entry-requires c = (c.requires.0, omega (arith, c.requires.1, count_of c.track_at-k.ensures))

pub overflow_add-n : goal.overflow_add-n
overflow_add-n c = omega (arith, c.requires.1, count_of c.track_at-k.ensures)

pub returns : goal.returns
returns c = install_steps _ _ _ _ _ _ _ _ c.track_at-k.ensures (rw c.from.ensures at c.put_entry.ensures) c.put_count.ensures
