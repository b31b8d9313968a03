use Rattle.std.proofs.Common.{◌≡◌, refl, sym, ap, ◌∙◌, arith, eq-eqb, ne_eqb, rules}
use Rattle.std.proofs.Math.Bool.{or-false}
use Rattle.rules.specs.Fold.{some_below, count_below}
use Rattle.rules.specs.Plan.{no_state}
use Rattle.event_choice.specs.Next.{is_last}
use Rattle.event_choice.proofs.Visits.{word_some, last_none, fills_none, fills_some, one_more, none_more, some_or_more}
use Rattle.event_choice.proofs.judging.moves.Goals as goal

pub loop-t-init : goal.loop-t-init
unfolding count_below some_below
loop-t-init c = (search rules, refl, refl, refl)

pub is_last-ends-requires : goal.is_last-ends-requires
unfolding no_state
is_last-ends-requires c = c.requires.1.low _ c.loop-t-test.true c.if-x.true

pub overfills-full-requires : goal.overfills-full-requires
unfolding no_state
overfills-full-requires c =
    let b = c.loop-t-test.true in
    (c.requires.0, b, c.requires.1.low _ b c.if-x.true)

pub loop-t-preserved : goal.loop-t-preserved
unfolding no_state
loop-t-preserved c =
    let inv = c.loop-t.invariant in
    elim c.if-x.branch [
      | goal.then-x w ↦ (
        omega (arith, inv.0, w.n-is),
        w.n-is ∙ one_more _ _ _ 1 inv.1 (rw (ne_eqb _ no_state w.if-x.true)),
        w.ends-is ∙ some_or_more _ inv.2 (w.is_last-ends.ensures ∙ ap (is_last _) (sym (word_some w.if-x.true))) refl,
        w.full-is ∙ some_or_more _ inv.3 (w.overfills-full.ensures ∙ fills_some _ _ w.if-x.true) refl,
      )
      | goal.else-x w ↦ (
        omega (arith, inv.0, w.n-is),
        w.n-is ∙ none_more _ _ _ inv.1 (rw (eq-eqb _ no_state w.if-x.false)),
        w.ends-is ∙ some_or_more _ inv.2 (sym (last_none _ w.if-x.false)) (sym (or-false _)),
        w.full-is ∙ some_or_more _ inv.3 (sym (fills_none _ _ w.if-x.false)) (sym (or-false _)),
      )
    ]

pub returns : goal.returns
returns c =
    let inv = c.loop-t.invariant in
    let e : c.loop-t.t ≡ c.args.plan.now.records.counts.tracks = omega arith in
    record { many = rw e at inv.1; ends = rw e at inv.2; fills = rw e at inv.3 }
