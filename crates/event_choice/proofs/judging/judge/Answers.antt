use Rattle.plan.specs.Plans.{plan_in}
use Rattle.std.proofs.Common.{◌≡◌, refl, ap, ◌∙◌, Bool, true, false, cond, ◌≤◌, arith, get_or}
use mir.Val.{bool_byte}
use Rattle.rules.specs.Fold.{some_below, count_below}
use Rattle.rules.specs.Plan.{no_state}
use Rattle.ledger.specs.Ladder.{ledger_of}
use Rattle.event_choice.specs.Next.{closes_next}
use Rattle.event_choice.proofs.Visits.{state_low, one_more, full_more}
use Rattle.event_choice.proofs.judging.judge.Goals as goal

as_one : (b : Bool) → (bool_byte b ≡ cond b 1 0) × (bool_byte b ≤ 1)
as_one true = (refl, omega arith)
as_one false = (refl, omega arith)

pub loop-t-init : goal.loop-t-init
unfolding count_below some_below
loop-t-init c = (omega arith, refl, refl)

pub is_full-full-requires : goal.is_full-full-requires
unfolding no_state
is_full-full-requires c =
    let b = c.loop-t-test.true in
    (state_low _ _ _ _ _ c.requires.0 b c.track-k.ensures, c.requires.1.low _ b)

pub loop-t-preserved : goal.loop-t-preserved
loop-t-preserved c =
    let p = plan_in c.args.plan.now.records in
    let l = ledger_of _ c.args.plan.now.records.counts c.args.ledger.now in
    let inv = c.loop-t.invariant in
    let b = c.loop-t-test.true in
    let k = c.track-k.ensures in
    let m = c.requires.2.at _ b in (
      omega (arith, inv.0, c.from-closed.ensures, (as_one (get_or c.args.closing.now c.loop-t.t false)).1),
      one_more (closes_next p l _) _ _ _ inv.1 (c.from-closed.ensures ∙ (as_one _).0 ∙ ap (λ x. cond x 1 0) m),
      full_more _ p l _ _ _ b k inv.2 m c.is_full-full.ensures refl,
    )

pub returns : goal.returns
returns c =
    let inv = c.loop-t.invariant in
    let e : c.loop-t.t ≡ c.args.plan.now.records.counts.tracks = omega arith in
    record {
      closings = rw e at inv.1;
      fills = rw e at inv.2;
    }
