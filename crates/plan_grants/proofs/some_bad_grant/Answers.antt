use Rattle.std.proofs.Common.{sym, ◌∙◌, rules}
use Rattle.rules.proofs.Folds.{some_at}
use Rattle.plan.proofs.Searches.{none_all}
use Rattle.plan_grants.proofs.GrantTests.{rights_bad, seen_none, too_many, no_root, wrong_rights, met_before, seen_more}
use Rattle.plan_grants.proofs.some_bad_grant.Goals as goal

pub returns-then-records-gt-MOST_GRANTS : goal.returns-then-records-gt-MOST_GRANTS
returns-then-records-gt-MOST_GRANTS c = sym (too_many _ _ (search rules))

pub loop-g-init : goal.loop-g-init
loop-g-init c = seen_none _

pub returns-then-names_no_root : goal.returns-then-names_no_root
returns-then-names_no_root c = sym (some_at _ _ c.loop-g.g (search rules) (no_root _ _ (sym c.names_no_root.ensures ∙ c.if-names_no_root.true)))

pub returns-then-bad_rights : goal.returns-then-bad_rights
unfolding rights_bad
returns-then-bad_rights c =
    sym (some_at _ _ c.loop-g.g (search rules)
    (wrong_rights _ _ (sym c.names_no_root.ensures ∙ c.if-names_no_root.false) (sym c.bad_rights.ensures ∙ c.if-bad_rights.true)))

pub returns-then-is_among : goal.returns-then-is_among
unfolding rights_bad
returns-then-is_among c =
    let i = c.loop-g in
    let r = sym c.names_no_root.ensures ∙ c.if-names_no_root.false in
    let s = sym c.bad_rights.ensures ∙ c.if-bad_rights.false in
    sym (some_at _ _ i.g (search rules)
    (met_before _ _ r s _ i.invariant _ c.pair_of-pair.ensures (sym c.is_among.ensures ∙ c.if-is_among.true)))

pub loop-g-preserved : goal.loop-g-preserved
unfolding rights_bad
loop-g-preserved c =
    let i = c.loop-g in
    let r = sym c.names_no_root.ensures ∙ c.if-names_no_root.false in
    let s = sym c.bad_rights.ensures ∙ c.if-bad_rights.false in
    seen_more _ _ r s _ i.invariant _ c.pair_of-pair.ensures (search rules) (sym c.is_among.ensures ∙ c.if-is_among.false)

pub returns : goal.returns
returns c = sym (none_all _ _ _ (search rules) (search rules) c.loop-g.invariant.fit)
