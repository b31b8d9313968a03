use Rattle.plan.specs.Plans.{plan_in}
use Rattle.std.proofs.Common.{◌≡◌, sym, ◌∙◌, Bool, false, List, ℕ, arith}
use Rattle.std.proofs.Math.Bool.{and-true}
use Rattle.std.proofs.Math.Option.{Option}
use Rattle.rules.specs.declared.Counts.{Counts}
use Rattle.rules.specs.Fold.{every_below}
use Rattle.rules.specs.Plan.{plan_of, no_state}
use Rattle.rules.specs.Ledger.{Ledger}
use Rattle.rules.specs.Scope.{has_open_scope}
use Rattle.plan.proofs.FieldLaws.{track_count_lem}
use Rattle.ledger.specs.Ladder.{ledger_of}
use Rattle.lookup.specs.Figures.{Figures}
use Rattle.lookup.proofs.FiguresLaws.{visit_none, visit_one}
use Rattle.event_choice.specs.Next.{moves_of, closes_next}
use Rattle.event_choice.proofs.Visits.{closes_among, closes_more}
use Rattle.event_choice.proofs.closing.closing_scopes.Goals as goal

-- at the start, and all tracks together
module _ (bs : List ℕ) (c : Counts) (l : Ledger) (goes : ℕ → Option ℕ) {ms : List Bool} where
  at_first : Figures false ms c.tracks (has_open_scope (plan_of bs c) l) → Figures false ms c.tracks (closes_among (plan_of bs c) l goes 0)
  unfolding every_below
  at_first m = record { size = m.size; at = λ t b. m.at t b ∙ sym (and-true (has_open_scope (plan_of bs c) l t)) }

  at_last : {n : ℕ} → n ≡ c.tracks → Figures false ms c.tracks (closes_among (plan_of bs c) l goes n) → Figures false ms c.tracks (closes_next (plan_of bs c) l goes)
  unfolding closes_next
  at_last e m = rw (e ∙ sym (track_count_lem bs c)) at m

pub loop-t-init : goal.loop-t-init
loop-t-init c =
    at_first c.args.plan.now.records.bytes.now c.args.plan.now.records.counts (ledger_of _ c.args.plan.now.records.counts c.args.ledger.now) _ c.requires.2

pub bounds-closing-u : goal.bounds-closing-u
unfolding no_state
bounds-closing-u c =
    let b = c.kept_open-u.ensures.low c.if-u.true in
    let n = c.requires.0.checked.lent.room.few in
    omega arith

pub loop-t-preserved : goal.loop-t-preserved
unfolding no_state
loop-t-preserved c =
    let m = c.loop-t.invariant in
    let few = c.requires.0.checked.lent.room.few in
    let o = c.kept_open-u.ensures in
    let g = closes_more (plan_in c.args.plan.now.records) (ledger_of _ c.args.plan.now.records.counts c.args.ledger.now) (moves_of c.args.taken.now c.args.plan.now.records.counts.tracks) c.loop-t.t in
    elim c.if-u.branch [
      | goal.then-u w ↦ rw w.closing-is (visit_one m few o false _ (λ u b. g u) w.if-u.true)
      | goal.else-u w ↦ rw w.closing-is (visit_none m few o false _ (λ u b. g u) w.if-u.false)
    ]

pub returns : goal.returns
returns c =
    at_last c.args.plan.now.records.bytes.now c.args.plan.now.records.counts (ledger_of _ c.args.plan.now.records.counts c.args.ledger.now) _ (omega arith) c.loop-t.invariant
