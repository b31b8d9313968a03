-- The root is no track, or else its host tells. Assumes nothing.
use Rattle.std.proofs.Common.{sym, ap, ◌∙◌, not, le-leb, rules}
use Rattle.plan.proofs.FieldLaws.{track_count_lem}
use Rattle.plan_grants.proofs.GrantTests.{no_track_lem, by_host}
use Rattle.plan_grants.proofs.names_no_root.Goals as goal

pub returns-then-records-t : goal.returns-then-records-t
returns-then-records-t c =
    rw (le-leb _ _ c.if-records-t.true) (sym (no_track_lem _ _ _ (c.from-t.ensures ∙ c.grant_root.ensures) (rw track_count_lem (search rules))))

pub returns-else-records-t : goal.returns-else-records-t
returns-else-records-t c =
    ap not c.is_root.ensures ∙ sym (by_host _ _ _ (c.from-t.ensures ∙ c.grant_root.ensures) (rw track_count_lem (search rules)))
