-- Beyond the last state none is final. Assumes nothing.
use Rattle.std.proofs.Common.{◌∙◌, le-ltb}
use Rattle.plan.proofs.FieldLaws.{state_count_lem}
use Rattle.finish.proofs.Roots.{final_beyond}
use Rattle.finish.proofs.done.is_final.Goals as goal

pub returns-else-s-records : goal.returns-else-s-records
returns-else-s-records c = le-ltb _ _ c.if-s-records.false ∙ final_beyond _ _ (rw state_count_lem c.if-s-records.false)
