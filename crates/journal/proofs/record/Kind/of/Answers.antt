-- No other number is a kind's. Assumes nothing.
use Rattle.std.proofs.Common.{arith}
use Rattle.journal.proofs.Records.{length_none}
use Rattle.journal.proofs.record.Kind.of.Goals as goal

pub returns-in_default : goal.returns-in_default
returns-in_default c = length_none _ (λ e. omega arith) (λ e. omega arith) (λ e. omega arith) (λ e. omega arith)
