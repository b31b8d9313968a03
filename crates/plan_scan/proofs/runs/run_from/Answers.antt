use Rattle.std.proofs.Common.{sym, ◌∙◌, ◌+◌, length, rules}
use Rattle.rules.specs.Record.{length_of}
use Rattle.plan_scan.specs.Kinds.{number_of}
use Rattle.plan_scan.proofs.RunLaws.{run_none, run_more, run_fits, head_parts}
use Rattle.plan_scan.proofs.runs.run_from.Goals as goal

pub loop-n-init : goal.loop-n-init
loop-n-init c = run_none _ _ _

pub head_at-requires : goal.head_at-requires
head_at-requires c =
    let f = run_fits c.length-size.result c.args.at (length c.args.plan.now) (c.loop-n.n + 1) (search rules) (search rules) in search rules

pub loop-n-preserved : goal.loop-n-preserved
loop-n-preserved c =
    let f = run_fits c.length-size.result c.args.at (length c.args.plan.now) (c.loop-n.n + 1) (search rules) (search rules) in
    let q = head_parts _ _ (length_of (number_of c.args.kind)) _ (search rules) (search rules) (sym c.head_at.ensures.0 ∙ c.if-head_at-wanted.false ∙ c.head_of-wanted.ensures) in
    run_more _ _ _ _ _ c.loop-n.invariant (search rules) (record { long = q.0; sort = q.1; fits = search rules })

pub returns : goal.returns
returns c =
    let f = run_fits c.length-size.result c.args.at (length c.args.plan.now) c.min-room.result (search rules) (search rules) in
    search rules
