-- One store is the text of one byte. Assumes nothing.
use Rattle.std.proofs.Common.{refl, rules}
use Rattle.journal.proofs.Written.{written_byte}
use Rattle.journal.proofs.text.put_byte.Goals as goal

pub returns : goal.returns
returns c = record { place = refl; bytes = written_byte _ _ _ (search rules) }
