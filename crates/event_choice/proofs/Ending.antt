-- Where no move leads to a final state, no scope closes: a track that is in a final state after the moves was there before, and no closing was due
-- then. Assumes nothing.
use Rattle.std.proofs.Common.{◌≡◌, ap, ◌∙◌, inl, inr, true, false, ◌&&◌, ℕ, ◌<◌, leb, length}
use Rattle.std.proofs.Math.Bool.{and-false, or-false}
use Rattle.std.proofs.Math.Option.{some}
use Rattle.rules.specs.Fold.{some_below}
use Rattle.rules.specs.Plan.{Plan, track_count, state_count, transition, is_final}
use Rattle.rules.specs.Ledger.{Configuration, Ledger, is_awake}
use Rattle.rules.specs.Opening.{fresh, wakes}
use Rattle.rules.specs.Event.{EventArguments, destination_of, has_code, move, moved, is_closing, closes_scope, closings, is_replaced, is_full}
use Rattle.rules.proofs.Tests.{look, look_option, clash, refuted}
use Rattle.rules.proofs.Folds.{some_same}
use Rattle.rules.proofs.Acceptance.{Accepted}
use Rattle.rules.proofs.Closing.{closing_alike, closing_final}
use Rattle.rules.proofs.Soundness.{Live}
use Rattle.event_choice.proofs.Moved.{moved_mover, moved_woken, moved_kept}
use Rattle.event_choice.proofs.Still.{count_none}
use Rattle.rules.specs.declared.Terms.{Terms}

module _ (p : Plan) (ok : Accepted p) (l : Ledger) (live : Live p l) (e : EventArguments)
    (stays : (t x : ℕ) → move p l e t ≡ some x → is_final p (transition p x).destination ≡ false) where
  abbrev m : Ledger
  m = moved p l e

  kept : (t : ℕ) → t < track_count p → is_final p (m t).state ≡ true → m t ≡ l t
  unfolding fresh
  kept t b f =
      elim (look_option (move p l e t)) [
        | inr q ↦ clash f (ap (λ (c : Configuration). is_final p c.state) (moved_mover p ok l live e t q.0 q.1) ∙ stays t q.0 q.1)
        | inl q ↦
            elim (look (wakes p (λ t. destination_of p (move p l e t)) t)) [
              | inl w ↦ clash f (ap (λ (c : Configuration). is_final p c.state) (moved_woken p ok l live e t q w) ∙ ok.first_open t b)
              | inr w ↦ moved_kept p ok l live e t q w
            ]
      ]

  none_due : (s : ℕ) → is_closing p m s ≡ false
  none_due s =
      refuted (is_closing p m s)
      (λ k.
      clash k
      (closing_alike p m l s
      (λ t b h. let r = kept t b (closing_final p m s t k b h).1 in (ap (λ (c : Configuration). c.mode) r, ap (λ (c : Configuration). c.state) r))
      ∙ live.closing s))

  pub none_closes : (t : ℕ) → closes_scope p m t ≡ false
  unfolding closes_scope
  none_closes t = rw (none_due (m t).state) (and-false (is_awake (m t).mode))

  pub no_closings : closings p m ≡ 0
  unfolding closings
  no_closings = count_none (state_count p) (is_closing p m) none_due

  pub full_moves : (terms : Terms) → is_full p terms l e ≡ some_below (track_count p) (λ t. has_code p (move p l e t) && leb terms.limit (length (l t).held))
  unfolding is_full is_replaced
  full_moves terms =
      some_same (track_count p) _ _
      (λ t b. rw (none_closes t) (ap (λ z. z && leb terms.limit (length (l t).held)) (or-false (has_code p (move p l e t)))))
