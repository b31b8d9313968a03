-- The space, then the deviation. Assumes nothing.
use Rattle.std.proofs.Common.{rules}
use Rattle.journal.proofs.Written.{wrote_then}
use Rattle.rules.specs.Text.{ascii}
use Rattle.journal.proofs.lines.put_deviation_field.Goals as goal

pub returns : goal.returns
unfolding ascii
returns c = wrote_then (search rules) c.put_byte-text.ensures c.put_deviation.ensures
