-- A perfect plan: P with replacement 0, and with a code on the event that ends it. Its codes are its events' numbers and 40, and tell their
-- tracks; the sample run's steps of the root are its event and the compensation of it. By computing. Assumes nothing.
use mathlib.Core.Path.{◌≡◌, refl, ap, subst}
use mathlib.Core.Logic.{inl, inr}
use mathlib.Core.Bool.{true, not, ◌||◌}
use mathlib.Core.List.{List, [], ◌∷◌}
use Prim.Native.Nat.{ℕ, ◌+◌, ◌<◌}
use lib.IntN.{pos}
use native.Mathlib.Omega.{arith}
use lib.ListN.{get_or-eq_default}
use lib.Dec.{eqb, ltb}
use borrow.Author.Tests.{eqb-true, eq-eqb, ltb-true, ltb-false}
use Rattle.rules.specs.Fold.{every_below}
use Rattle.rules.specs.Plan.{Plan, State, plan_of, state_count, transition_count, state, transition, replacement, mover, no_state}
use Rattle.rules.specs.Setting.{main_terms}
use Rattle.rules.specs.Call.{Call, event, signal, fire}
use Rattle.rules.proofs.Tests.{look, implies}
use Rattle.rules.proofs.Folds.{every_at}
use Rattle.starred.specs.SamplePlan.{bytes_of, lent_for}
use Rattle.starred.specs.Computing.{computing}
use Rattle.automaton.specs.Listing.{listed_from, listed, listed_down}
use Rattle.automaton.specs.Semantics.{basic_alone, trace}
use Rattle.automaton.specs.View.{is_within, leaves_scope, is_going, is_turning, leave_at, abandonings, deviation_step, movings, closers, turners, acts_of}
use Rattle.automaton.specs.Along.{made, acts_from, acts_after}
use Rattle.automaton.specs.SelfCancelling.{activity, action, symbol, projected, is_pair, left_after, left_of, onto, canc_out, Perfect, Tagged}

abbrev plan_q : List ℕ
plan_q =
    bytes_of
    (6 ∷ 1 ∷ 65535
    ∷ 6 ∷ 1 ∷ 1
    ∷ 6 ∷ 1 ∷ 1
    ∷ 10 ∷ 2 ∷ 0 ∷ 0 ∷ 0
    ∷ 10 ∷ 2 ∷ 0 ∷ 0 ∷ 0
    ∷ 10 ∷ 2 ∷ 0 ∷ 1 ∷ 0
    ∷ 10 ∷ 2 ∷ 1 ∷ 0 ∷ 0
    ∷ 10 ∷ 2 ∷ 1 ∷ 1 ∷ 0
    ∷ 10 ∷ 2 ∷ 2 ∷ 0 ∷ 0
    ∷ 10 ∷ 2 ∷ 2 ∷ 0 ∷ 0
    ∷ 10 ∷ 2 ∷ 2 ∷ 1 ∷ 0
    ∷ 14 ∷ 3 ∷ 0 ∷ 10 ∷ 50 ∷ 65535 ∷ 1
    ∷ 14 ∷ 3 ∷ 1 ∷ 13 ∷ 53 ∷ 65535 ∷ 2
    ∷ 14 ∷ 3 ∷ 3 ∷ 11 ∷ 51 ∷ 65535 ∷ 4
    ∷ 14 ∷ 3 ∷ 5 ∷ 12 ∷ 52 ∷ 65535 ∷ 6
    ∷ 14 ∷ 3 ∷ 6 ∷ 14 ∷ 54 ∷ 65535 ∷ 7
    ∷ 10 ∷ 6 ∷ 1 ∷ 0 ∷ 7
    ∷ 4 ∷ 4
    ∷ [])

abbrev Q : Plan
Q = plan_of plan_q (record { tracks = 3; states = 8; transitions = 5; windows = 0; grants = 1 })

-- the compensation of an activity
abbrev comp : ℕ → ℕ
comp i = i + 40

counted : (transition_count Q ≡ 5) × (state_count Q ≡ 8)
unfolding computing
counted = (refl, refl)

codes_test : every_below 5 (λ x. eqb (transition Q x).code (comp (transition Q x).event)) ≡ true
unfolding computing
codes_test = refl

replacements_test : every_below 8 (λ s. eqb (replacement Q s) 0) ≡ true
unfolding computing
replacements_test = refl

tracks_test : every_below 5 (λ x. every_below 5 (λ y. not (eqb (transition Q x).code (transition Q y).code) || eqb (mover Q x) (mover Q y))) ≡ true
unfolding computing
tracks_test = refl

pub perfect_q : Perfect comp Q
unfolding replacement state state_count
perfect_q A =
    record {
      non_empty = λ i e. omega arith;
      codes =
          λ x b m.
          eqb-true (transition Q x).code (comp (transition Q x).event)
          (every_at 5 (λ x. eqb (transition Q x).code (comp (transition Q x).event)) codes_test x (subst (λ n. x < n) counted.0 b));
      replacements =
          λ s o.
          elim (look (ltb s (state_count Q))) [
            | inl h ↦
                eqb-true (replacement Q s) 0
                (every_at 8 (λ s. eqb (replacement Q s) 0) replacements_test s (subst (λ n. s < n) counted.1 (ltb-true s (state_count Q) h)))
            | inr h ↦
                ap (λ (x : State). x.replacement)
                (get_or-eq_default Q.states (record { track = no_state; final = 0; replacement = 0 }) (ltb-false s (state_count Q) h))
          ];
    }

pub tagged_q : Tagged Q
tagged_q =
    record {
      track =
          λ x y a b e.
          let row = every_at 5 (λ x. every_below 5 (λ y. not (eqb (transition Q x).code (transition Q y).code) || eqb (mover Q x) (mover Q y))) tracks_test x (subst (λ n. x < n) counted.0 a) in
          let one = every_at 5 (λ y. not (eqb (transition Q x).code (transition Q y).code) || eqb (mover Q x) (mover Q y)) row y (subst (λ n. y < n) counted.0 b) in
          eqb-true (mover Q x) (mover Q y)
          (implies (eqb (transition Q x).code (transition Q y).code) (eqb (mover Q x) (mover Q y)) one (eq-eqb (transition Q x).code (transition Q y).code e));
    }

abbrev e : ℕ → Call
e n = event (record { event = n; day = pos 0; society = 1 })

abbrev f : ℕ → Call
f t = fire (record { track = t; society = 1 })

-- events 10, 11, 12, signal, and a firing of each track
abbrev calls : List Call
calls = e 10 ∷ e 11 ∷ e 12 ∷ signal (record { society = 1 }) ∷ f 1 ∷ f 2 ∷ f 0 ∷ []

pub string_q : projected 0 (acts_after main_terms plan_q Q basic_alone (lent_for 3) calls) ≡ activity 10 ∷ action 50 ∷ []
unfolding computing listed_from listed listed_down is_within leaves_scope is_going is_turning leave_at abandonings deviation_step movings closers turners acts_of made acts_from acts_after trace symbol projected
string_q = refl

pub cancelled_q : canc_out comp (projected 0 (acts_after main_terms plan_q Q basic_alone (lent_for 3) calls)) ≡ []
unfolding left_of left_after is_pair onto canc_out
cancelled_q = ap (canc_out comp) string_q
