-- Where no track moves, a live ledger stays as it is: none enters a state, so none wakes; closing and finish are not due before the event
-- and so not after it. Assumes nothing.
use Rattle.std.proofs.Common.{◌≡◌, refl, ap, ◌∙◌, inl, inr, Bool, false, cond, ℕ, zero, suc, ◌+◌, ◌<◌, ◌≤◌, not-suc-le-zero, arith, ltb, eqb, ltb-true, ltb-false, eqb-true}
use Rattle.std.proofs.Math.Path.{fun_ext}
use Rattle.std.proofs.Math.Option.{Option, none, some}
use borrow.Author.Tests.{eqb-false}
use Rattle.rules.specs.Fold.{count_below}
use Rattle.rules.specs.Plan.{Plan, track_count, state_count}
use Rattle.rules.specs.Ledger.{Ledger, is_forward, sleeping}
use Rattle.rules.specs.Scope.{is_open}
use Rattle.rules.specs.Event.{EventArguments, destination_of, installed_by, is_move, move, moves, moved, is_closing, closed, closings, after_event}
use Rattle.rules.specs.Finish.{finished}
use Rattle.rules.proofs.Tests.{look, clash, refuted, and_holds}
use Rattle.rules.proofs.Acceptance.{Accepted}
use Rattle.rules.proofs.Moves.{move_idle}
use Rattle.rules.proofs.Scopes.{open_find}
use Rattle.rules.proofs.Opening.{enter_none}
use Rattle.rules.proofs.Closing.{closed_steady}
use Rattle.rules.proofs.Soundness.{Live}

-- a count of 0: no number passes the test
count_zero : (n : ℕ) (f : ℕ → Bool) → count_below n f ≡ 0 → (k : ℕ) → k < n → f k ≡ false
unfolding count_below
count_zero zero f h k l = absurd (not-suc-le-zero l)
count_zero (suc n) f h k l =
    elim (look (f n)) [
      | inl q ↦ let z : count_below n f + cond (f n) 1 0 ≡ 0 = h in let y : ◌≡◌ {A = ℕ} (cond (f n) 1 0) 1 = rw q in absurd (omega arith)
      | inr q ↦
          elim (look (eqb k n)) [
            | inl e ↦ ap f (eqb-true k n e) ∙ q
            | inr e ↦
                let d : k ≡ n → ⊥ = eqb-false k n e in
                count_zero n f (let z : count_below n f + cond (f n) 1 0 ≡ 0 = h in omega arith) k (omega arith)
          ]
    ]

-- no scope is due to close
pub none_closing : (p : Plan) (l : Ledger) → closings p l ≡ 0 → (s : ℕ) → s < state_count p → is_closing p l s ≡ false
unfolding closings
none_closing p l h s b = count_zero (state_count p) (is_closing p l) h s b

pub count_none : (n : ℕ) (f : ℕ → Bool) → ((k : ℕ) → f k ≡ false) → count_below n f ≡ 0
unfolding count_below
count_none zero f h = refl
count_none (suc n) f h = let a = count_none n f h in let b : ◌≡◌ {A = ℕ} (cond (f n) 1 0) 0 = rw (h n) in omega arith

no_move : (o : Option ℕ) → is_move o ≡ false → o ≡ none
unfolding is_move
no_move none h = refl
no_move (some x) h = clash refl h

-- where no scope is due to close nothing does: a scope of a number that no state has is never open
pub none_close : (p : Plan) → Accepted p → (l : Ledger) → closings p l ≡ 0 → closed p l ≡ l
unfolding closings is_closing
none_close p ok l h =
    closed_steady p l
    (λ s.
    elim (look (ltb s (state_count p))) [
      | inl q ↦ count_zero (state_count p) (is_closing p l) h s (ltb-true s (state_count p) q)
      | inr q ↦
          refuted (is_closing p l s)
          (λ k.
          let (t, b, e, a) = open_find p l s (and_holds (is_open p l s) _ k).0 in
          let z = ok.host_state t s e in
          absurd (omega (arith, ltb-false s (state_count p) q)))
    ])

module _ (p : Plan) (l : Ledger) (e : EventArguments) where
  -- none of the plan's tracks moves, so none does: the others sleep
  pub no_moves : ((t : ℕ) → track_count p ≤ t → l t ≡ sleeping) → count_below (track_count p) (moves p l e) ≡ 0 → (t : ℕ) → move p l e t ≡ none
  unfolding moves
  no_moves b h t =
      elim (look (ltb t (track_count p))) [
        | inl q ↦ no_move (move p l e t) (count_zero (track_count p) (moves p l e) h t (ltb-true t (track_count p) q))
        | inr q ↦ beyond (b t (ltb-false t (track_count p) q))
      ]
    where
      beyond : l t ≡ sleeping → move p l e t ≡ none
      beyond s = move_idle p l e t (unfold is_forward sleeping in rw s)

  module _ (ok : Accepted p) (live : Live p l) (still : (t : ℕ) → move p l e t ≡ none) where
    goes : (t : ℕ) → destination_of p (move p l e t) ≡ none
    unfolding destination_of
    goes t = rw (still t, destination_of)

    moved_same : moved p l e ≡ l
    unfolding moved installed_by
    moved_same =
        enter_none p ok (λ t. destination_of p (move p l e t)) (λ t. installed_by p (move p l e t) (l t)) goes
        ∙ fun_ext (λ t. rw (still t, installed_by))

    pub after_same : after_event p l e ≡ l
    unfolding after_event finished
    after_same = rw (moved_same, closed_steady p l live.closing) (fun_ext (λ t. rw live.finish))

    pub still_closings : closings p (moved p l e) ≡ 0
    unfolding closings
    still_closings = rw moved_same (count_none (state_count p) (is_closing p l) live.closing)
