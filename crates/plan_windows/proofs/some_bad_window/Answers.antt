use Rattle.std.proofs.Common.{refl, sym, ◌∙◌, rules}
use Rattle.rules.specs.Fold.{some_below}
use Rattle.rules.proofs.Folds.{some_at}
use Rattle.plan.proofs.FieldLaws.{transition_count_lem}
use Rattle.plan.proofs.Searches.{none_all}
use Rattle.plan_windows.proofs.WindowTests.{days_bad, seen_none, no_transition_lem, named_before, by_days, seen_more}
use Rattle.plan_windows.proofs.some_bad_window.Goals as goal

pub returns-then-records-eq0 : goal.returns-then-records-eq0
unfolding some_below
returns-then-records-eq0 c = rw c.if-records-eq0.true refl

pub loop-w-init : goal.loop-w-init
loop-w-init c = seen_none _

pub returns-then-records-x : goal.returns-then-records-x
returns-then-records-x c =
    let i = c.loop-w in
    sym (some_at _ _ i.w (search rules) (no_transition_lem _ _ _ (c.from-x.ensures ∙ c.window_transition.ensures) (rw transition_count_lem (search rules))))

pub returns-then-named-x : goal.returns-then-named-x
returns-then-named-x c =
    let i = c.loop-w in
    let x = c.from-x.ensures ∙ c.window_transition.ensures in
    sym (some_at _ _ i.w (search rules) (named_before _ _ _ x _ i.invariant (rw transition_count_lem (search rules)) (search rules) c.if-named-x.true))

pub returns-then-bad_days : goal.returns-then-bad_days
unfolding days_bad
returns-then-bad_days c =
    let i = c.loop-w in
    let x = c.from-x.ensures ∙ c.window_transition.ensures in
    let f = c.first_day in
    let l = c.last_day in
    sym (some_at _ _ i.w (search rules)
    (by_days _ _ _ x _ i.invariant (rw transition_count_lem (search rules)) (search rules) c.if-named-x.false f.result l.result f.type_inv l.type_inv f.ensures l.ensures _ c.bad_days.ensures
    ∙ c.if-bad_days.true))

pub loop-w-preserved : goal.loop-w-preserved
unfolding days_bad
loop-w-preserved c =
    let i = c.loop-w in
    let x = c.from-x.ensures ∙ c.window_transition.ensures in
    let f = c.first_day in
    let l = c.last_day in
    seen_more _ _ _ x _ i.invariant (rw transition_count_lem (search rules)) (search rules) c.if-named-x.false f.result l.result f.type_inv l.type_inv f.ensures l.ensures _ c.bad_days.ensures c.if-bad_days.false

pub returns : goal.returns
returns c = sym (none_all _ _ _ (search rules) (search rules) c.loop-w.invariant.fit)
