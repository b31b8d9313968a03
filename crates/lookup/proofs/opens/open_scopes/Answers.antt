use Rattle.plan.specs.Plans.{plan_in}
use Rattle.std.proofs.Common.{refl, true, false, arith}
use Rattle.rules.specs.Fold.{some_below}
use Rattle.rules.specs.Plan.{no_state}
use Rattle.ledger.specs.Ladder.{ledger_of}
use Rattle.lookup.proofs.FiguresLaws.{figure_each, visit_none, visit_one}
use Rattle.lookup.proofs.Inside.{inside_next, all_inside}
use Rattle.lookup.proofs.opens.open_scopes.Goals as goal

pub loop-t-init : goal.loop-t-init
unfolding some_below
loop-t-init c = figure_each false _ false _ c.requires.accepts.holds.tracks (λ t l. refl)

pub loop-t-preserved : goal.loop-t-preserved
unfolding no_state
loop-t-preserved c =
    let m = c.loop-t.invariant in
    let few = c.requires.accepts.holds.tracks in
    let g = inside_next (plan_in c.args.plan.now.records) (ledger_of c.args.terms c.args.plan.now.records.counts c.args.ledger.now) c.loop-t.t in
    elim c.match-inside.branch [
      | goal.in-Some w ↦ let (b, o) = w.in-Some.ensures in rw w.opens-is (visit_one m few o true _ (λ u b. g u) (λ z. omega arith))
      | goal.in_default w ↦ rw w.opens-is (visit_none m few w.in_default.ensures true _ (λ u b. g u) refl)
    ]

pub returns : goal.returns
returns c =
    all_inside c.args.plan.now.records.bytes.now c.args.plan.now.records.counts (ledger_of c.args.terms c.args.plan.now.records.counts c.args.ledger.now) (omega arith) c.loop-t.invariant
