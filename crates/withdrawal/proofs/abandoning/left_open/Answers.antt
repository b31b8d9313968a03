use Rattle.std.proofs.Common.{sym, ◌∙◌, arith, rules}
use Rattle.withdrawal.proofs.AbandoningLaws.{visit_start, visit_none, visit_due, visit_climb, visit_end}
use Rattle.withdrawal.proofs.abandoning.left_open.Goals as goal

pub loop-t-init : goal.loop-t-init
loop-t-init c = visit_start _ _ _ c.args.plan.now.accepted _ c.requires.0 c.requires.1 _ c.requires.2

pub climb-scopes-requires : goal.climb-scopes-requires
climb-scopes-requires c =
    (c.requires.0, visit_due _ _ _ c.args.plan.now.accepted _ _ _ (search rules) c.loop-t.invariant (sym c.is_due.ensures ∙ c.if-is_due.true))

pub loop-t-preserved : goal.loop-t-preserved
loop-t-preserved c =
    let k = c.loop-t.invariant in
    elim c.if-is_due.branch [
      | goal.then-is_due w ↦ rw w.scopes-is (visit_climb _ _ _ c.args.plan.now.accepted _ _ _ (search rules) k w.climb-scopes.ensures)
      | goal.else-is_due w ↦ rw w.scopes-is (visit_none _ _ _ c.args.plan.now.accepted _ _ _ (search rules) k (sym c.is_due.ensures ∙ w.if-is_due.false))
    ]

pub returns : goal.returns
returns c = visit_end _ _ _ c.args.plan.now.accepted _ _ _ (omega arith) c.loop-t.invariant
