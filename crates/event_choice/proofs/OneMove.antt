-- A track's move on any day, by the tests of the code. Assumes nothing.
use Rattle.std.proofs.Common.{◌≡◌, sym, ap, ◌∙◌, List, arith, Bool, true, false, not, ℕ, ne_eqb}
use Rattle.std.specs.Prelude as code
use Rattle.std.specs.Option.{unwrap_or}
use Rattle.std.proofs.Math.Bool.{and-false}
use Rattle.std.proofs.Math.Option.{Option, none}
use borrow.Author.Tests.{not-true, not-false}
use Rattle.rules.specs.declared.Counts.{Counts}
use Rattle.rules.specs.declared.Track.{Track}
use Rattle.rules.specs.Plan.{Plan, plan_of, no_state, optional, transition_for}
use Rattle.rules.specs.Ledger.{Ledger, is_forward}
use Rattle.rules.specs.Scope.{has_open_scope}
use Rattle.rules.proofs.Acceptance.{transition_for_lem}
use Rattle.plan.proofs.FieldLaws.{transition_count_lem}
use Rattle.ledger.specs.Words.{track_of}
use Rattle.ledger.specs.Ladder.{Accepts}
use Rattle.transition_index.specs.Indexed.{optioned}
use Rattle.event_choice.specs.Next.{any_day_move}

-- what the index answers, as a word: no transition has the number 65535
pub by_word : (bs : List ℕ) (c : Counts) → Accepts bs c → (s e : ℕ) (o : code.Option ℕ) → optioned o ≡ transition_for (plan_of bs c) s e
    → optional (unwrap_or o no_state) ≡ transition_for (plan_of bs c) s e
unfolding optional no_state
by_word bs c a s e code.None h = h
by_word bs c a s e (code.Some x) h =
    let (d, _, _) = transition_for_lem (plan_of bs c) s e x (sym h) in
    let n = a.holds.transitions in
    rw (ne_eqb x 65535 (λ q. absurd (omega (arith, transition_count_lem bs c)))) h

module _ (p : Plan) (l : Ledger) (event t : ℕ) (o : Bool) (busy : o ≡ has_open_scope p l t) where
  pub move_open : o ≡ true → none ≡ any_day_move p l event t
  unfolding any_day_move
  move_open h = rw (← busy, h, and-false (is_forward (l t).mode))

  module _ (k : Track) (f : Bool) (read : k ≡ track_of (l t)) (forward : f ≡ is_forward k.mode) where
    told : f ≡ is_forward (l t).mode
    unfolding track_of
    told = forward ∙ ap (λ (x : Track). is_forward x.mode) read

    pub move_still : not f ≡ true → none ≡ any_day_move p l event t
    unfolding any_day_move
    move_still h = rw (← told, not-true f h)

    pub move_made : o ≡ false → not f ≡ false → (r : Option ℕ) → r ≡ transition_for p k.state event → r ≡ any_day_move p l event t
    unfolding any_day_move track_of
    move_made h i r e = e ∙ ap (λ (x : Track). transition_for p x.state event) read ∙ rw (← told, not-false f i, ← busy, h)
