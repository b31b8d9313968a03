-- The name, then the field. Assumes nothing.
use Rattle.std.proofs.Common.{rules}
use Rattle.journal.proofs.Written.{wrote_then}
use Rattle.journal.proofs.lines.put_head.Goals as goal

pub returns : goal.returns
returns c = wrote_then (search rules) c.put_word-field.ensures c.put_field.ensures
