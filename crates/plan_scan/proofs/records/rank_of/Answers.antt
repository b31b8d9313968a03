-- A number of no kind has no rank either. Assumes nothing.
use Rattle.std.proofs.Common.{ap, sym, ◌∙◌}
use Rattle.rules.specs.Record as rules
use Rattle.plan_scan.proofs.KindTables.{no_rank}
use Rattle.plan_scan.proofs.records.rank_of.Goals as goal

pub returns-in-Ok : goal.returns-in-Ok
returns-in-Ok c = c.rank.ensures ∙ ap rules.rank_of c.in-Ok.ensures

pub returns-in-Err : goal.returns-in-Err
returns-in-Err c = sym (no_rank _ c.in-Err.ensures.1)
