-- A state hosts a track if its chain has one. Assumes nothing.
use Rattle.std.proofs.Common.{sym, ap, ◌∙◌, rules}
use Rattle.std.specs.Option.{is_some}
use Rattle.plan.proofs.FieldLaws.{track_count_lem}
use Rattle.plan.proofs.ForestLaws.{scope_some}
use Rattle.plan_reader.proofs.refusals.hosts_badly.Goals as goal

pub bad_hosting-requires : goal.bad_hosting-requires
bad_hosting-requires c =
    (c.requires.1, c.is_some.ensures ∙ ap is_some c.last.ensures ∙ scope_some _ _ _ _ (sym (track_count_lem _ _)) (c.requires.0.at _ (search rules)))
