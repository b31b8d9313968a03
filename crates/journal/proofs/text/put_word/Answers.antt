-- The bytes before the place, the word, and the bytes after it. Assumes nothing.
use Rattle.std.proofs.Common.{refl}
use Rattle.journal.proofs.Written.{word_written}
use Rattle.journal.proofs.text.put_word.Goals as goal

pub returns : goal.returns
returns c = record { place = refl; bytes = word_written _ _ _ c.copy_from_slice.ensures.after }
