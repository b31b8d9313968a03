-- The sample run on plan P, call by call, as configurations; where FAIL turns basic ones alone, and what differs where it turns nested ones too.
-- Both sides compute to the same value. Assumes nothing.
use mathlib.Core.Path.{◌≡◌, refl}
use mathlib.Core.List.{List, [], ◌∷◌}
use Prim.Native.Nat.{ℕ}
use lib.IntN.{pos}
use Rattle.rules.specs.Plan.{Plan, plan_of, is_root}
use Rattle.rules.specs.Setting.{main_terms}
use Rattle.rules.specs.Ledger.{Ledger}
use Rattle.rules.specs.Call.{Call, event, signal, fire, figures}
use Rattle.rules.specs.ReferenceRun.{ledger_after}
use Rattle.starred.specs.SamplePlan.{plan_p, lent_for}
use Rattle.starred.specs.Computing.{computing}
use Rattle.automaton.specs.Listing.{listed_from, listed, listed_down}
use Rattle.automaton.specs.Configuration.{forward, backward, Comp, Basic, Nest, Vect, push_comp, push_dev, init_by, goto_to, goto, init}
use Rattle.automaton.specs.Semantics.{basic_alone, nested_too, suc_at, fail_at, comp_at, nestsuc_at, nestfail_at, nestcomp_at}
use Rattle.automaton.specs.View.{stack_of, direction_of, facing, is_within, basic, nested, shown, view_to, view_of, is_on_top, view, leaves_scope, is_going, is_turning, leave_at, abandonings, deviation_step, movings, closers, turners, acts_of}

abbrev P : Plan
P = plan_of plan_p (record { tracks = 3; states = 8; transitions = 5; windows = 0; grants = 1 })

abbrev e : ℕ → Call
e n = event (record { event = n; day = pos 0; society = 1 })

abbrev f : ℕ → Call
f t = fire (record { track = t; society = 1 })

abbrev s : Call
s = signal (record { society = 1 })

-- the ledger after begin and a list of calls
abbrev ledger : List Call → Ledger
ledger cs = ledger_after main_terms plan_p P (lent_for 3) cs

-- Begin: the root in its first state.
pub begun_view : view P basic_alone (ledger []) ≡ Vect (Basic 0 0 forward [] ∷ [])
unfolding computing listed_from listed Vect push_comp push_dev stack_of direction_of is_within basic facing nested shown view_to view_of is_on_top view
begun_view = refl

pub begun_init : view P basic_alone (ledger []) ≡ init P (is_root P)
unfolding computing listed_from listed Vect push_comp push_dev stack_of direction_of is_within basic facing nested shown view_to view_of is_on_top view init_by goto_to goto init
begun_init = refl

-- Event 10: SUC at the root, whose destination is nested.
pub opened_view :
    view P basic_alone (ledger (e 10 ∷ []))
    ≡ Vect (Nest 0 1 forward (Comp 50 ∷ []) (Vect (Basic 1 3 forward [] ∷ Basic 2 5 forward [] ∷ [])) ∷ [])
unfolding computing listed_from listed Vect push_comp push_dev stack_of direction_of is_within basic facing nested shown view_to view_of is_on_top view
opened_view = refl

-- Events 11 and 12: SUC inside.
pub inside_view :
    view P basic_alone (ledger (e 10 ∷ e 11 ∷ e 12 ∷ []))
    ≡ Vect (Nest 0 1 forward (Comp 50 ∷ []) (Vect (Basic 1 4 forward (Comp 51 ∷ []) ∷ Basic 2 6 forward (Comp 52 ∷ []) ∷ [])) ∷ [])
unfolding computing listed_from listed Vect push_comp push_dev stack_of direction_of is_within basic facing nested shown view_to view_of is_on_top view
inside_view = refl

-- The signal: FAIL at the two basic configurations; the root stays as it is until its nested vector has compensated.
pub turned_view :
    view P basic_alone (ledger (e 10 ∷ e 11 ∷ e 12 ∷ s ∷ []))
    ≡ Vect (Nest 0 1 forward (Comp 50 ∷ []) (Vect (Basic 1 4 backward (Comp 51 ∷ []) ∷ Basic 2 6 backward (Comp 52 ∷ []) ∷ [])) ∷ [])
unfolding computing listed_from listed Vect push_comp push_dev stack_of direction_of is_within basic facing nested shown view_to view_of is_on_top view
turned_view = refl

pub turned_acts : acts_of P basic_alone (ledger (e 10 ∷ e 11 ∷ e 12 ∷ [])) s ≡ fail_at 2 ∷ fail_at 1 ∷ []
unfolding computing listed_from listed listed_down is_within leaves_scope is_going is_turning leave_at abandonings turners acts_of
turned_acts = refl

-- but three tracks turn: the root too, which has no step of its own yet. So turned is not the number of FAIL
pub turned_told : figures P (ledger (e 10 ∷ e 11 ∷ e 12 ∷ [])) s ≡ 3 ∷ []
unfolding computing
turned_told = refl

-- Where FAIL turns nested configurations too, there are three, and the root is shown turned.
pub turned_acts_too : acts_of P nested_too (ledger (e 10 ∷ e 11 ∷ e 12 ∷ [])) s ≡ fail_at 2 ∷ fail_at 1 ∷ fail_at 0 ∷ []
unfolding computing listed_from listed listed_down is_within leaves_scope is_going is_turning leave_at abandonings turners acts_of
turned_acts_too = refl

pub turned_view_too :
    view P nested_too (ledger (e 10 ∷ e 11 ∷ e 12 ∷ s ∷ []))
    ≡ Vect (Nest 0 1 backward (Comp 50 ∷ []) (Vect (Basic 1 4 backward (Comp 51 ∷ []) ∷ Basic 2 6 backward (Comp 52 ∷ []) ∷ [])) ∷ [])
unfolding computing listed_from listed Vect push_comp push_dev stack_of direction_of is_within basic facing nested shown view_to view_of is_on_top view
turned_view_too = refl

-- The second firing: COMP, and the vector has compensated: NESTFAIL.
pub left_acts : acts_of P basic_alone (ledger (e 10 ∷ e 11 ∷ e 12 ∷ s ∷ f 1 ∷ [])) (f 2) ≡ comp_at 2 52 ∷ nestcomp_at 2 ∷ nestfail_at 0 ∷ []
unfolding computing listed_from listed listed_down is_within leaves_scope is_going is_turning leave_at abandonings deviation_step acts_of
left_acts = refl

pub left_acts_too : acts_of P nested_too (ledger (e 10 ∷ e 11 ∷ e 12 ∷ s ∷ f 1 ∷ [])) (f 2) ≡ comp_at 2 52 ∷ nestcomp_at 2 ∷ nestcomp_at 0 ∷ []
unfolding computing listed_from listed listed_down is_within leaves_scope is_going is_turning leave_at abandonings deviation_step acts_of
left_acts_too = refl

pub left_view : view P basic_alone (ledger (e 10 ∷ e 11 ∷ e 12 ∷ s ∷ f 1 ∷ f 2 ∷ [])) ≡ Vect (Basic 0 1 backward (Comp 50 ∷ []) ∷ [])
unfolding computing listed_from listed Vect push_comp push_dev stack_of direction_of is_within basic facing nested shown view_to view_of is_on_top view
left_view = refl

-- Event 14 instead: the vector has terminated, and NESTSUC installs the replacement.
pub closed_acts : acts_of P basic_alone (ledger (e 10 ∷ e 11 ∷ e 12 ∷ [])) (e 14) ≡ suc_at 2 (record { event = 14; day = pos 0; society = 1 }) ∷ nestsuc_at 0 ∷ []
unfolding computing listed_from listed listed_down is_within movings closers acts_of
closed_acts = refl

pub closed_view : view P basic_alone (ledger (e 10 ∷ e 11 ∷ e 12 ∷ e 14 ∷ [])) ≡ Vect (Basic 0 1 forward (Comp 90 ∷ Comp 50 ∷ []) ∷ [])
unfolding computing listed_from listed Vect push_comp push_dev stack_of direction_of is_within basic facing nested shown view_to view_of is_on_top view
closed_view = refl

-- Event 13 then: finish, which the report has no rule for. Nothing is left.
pub over_view : view P basic_alone (ledger (e 10 ∷ e 11 ∷ e 12 ∷ e 14 ∷ e 13 ∷ [])) ≡ Vect []
unfolding computing listed_from listed Vect push_comp push_dev stack_of direction_of is_within basic facing nested shown view_to view_of is_on_top view
over_view = refl
