-- An event leaves undoing tracks and their scopes alone: they do not move, nothing that they host wakes, and none of their scopes closes. So which
-- of them have an open scope is known before the call. Assumes nothing.
use Rattle.std.proofs.Common.{◌≡◌, sym, ap, ◌∙◌, subst, inl, inr, true, false, ◌&&◌, ℕ, eqb}
use Rattle.std.proofs.Math.Option.{Option, none}
use Rattle.rules.specs.Plan.{Plan, owner, first_state}
use Rattle.rules.specs.Ledger.{Configuration, Ledger, is_awake, is_forward, is_undoing, sleeping}
use Rattle.rules.specs.Scope.{has_open_scope}
use Rattle.rules.specs.Opening.{fresh, wakes}
use Rattle.rules.specs.Event.{EventArguments, destination_of, move, moved, is_closed, closed}
use Rattle.rules.proofs.Modes.{forward_awake, undoing_forward}
use Rattle.rules.proofs.Tests.{look, look_option, clash, refuted, same_test}
use Rattle.rules.proofs.Acceptance.{Accepted}
use Rattle.rules.proofs.Scopes.{busy_at, busy_find}
use Rattle.rules.proofs.Opening.{wakes_woken}
use Rattle.rules.proofs.Closing.{closing_final, closed_host, closed_asleep, closed_alike}
use Rattle.rules.proofs.Abandoning.{undoing_awake}
use Rattle.rules.proofs.Soundness.{Live}
use Rattle.event_choice.proofs.Moved.{mover_facts, woken_asleep, moved_mover, moved_woken, moved_kept}

module _ (p : Plan) (ok : Accepted p) (l : Ledger) (live : Live p l) (event : EventArguments) where
  abbrev to : ℕ → Option ℕ
  to t = destination_of p (move p l event t)

  abbrev m : Ledger
  m = moved p l event

  -- an undoing track after the moves was undoing before: who moves or wakes is forward
  undoing_kept : (t : ℕ) → is_undoing (m t).mode ≡ true → (move p l event t ≡ none) × (wakes p to t ≡ false) × (m t ≡ l t)
  unfolding fresh is_undoing
  undoing_kept t u =
      elim (look_option (move p l event t)) [
        | inr q ↦ clash u (ap (λ (x : Configuration). is_undoing x.mode) (moved_mover p ok l live event t q.0 q.1))
        | inl q ↦
            elim (look (wakes p to t)) [
              | inl w ↦ clash u (ap (λ (x : Configuration). is_undoing x.mode) (moved_woken p ok l live event t q w))
              | inr w ↦ (q, w, moved_kept p ok l live event t q w)
            ]
      ]

  -- an undoing track stays as it is
  still : (t : ℕ) → is_undoing (l t).mode ≡ true → m t ≡ l t
  still t u =
      elim (look_option (move p l event t)) [
        | inr q ↦ clash (mover_facts p ok l live event t q.0 q.1).ahead (undoing_forward (l t).mode u)
        | inl q ↦
            elim (look (wakes p to t)) [
              | inr w ↦ moved_kept p ok l live event t q w
              | inl w ↦ clash (undoing_awake (l t).mode u) (woken_asleep p ok l live event t w)
            ]
      ]

  -- after the closings too it was undoing before
  was_undoing : (t : ℕ) → is_undoing (closed p m t).mode ≡ true → is_undoing (m t).mode ≡ true
  unfolding sleeping is_undoing
  was_undoing t u =
      elim (look (is_closed p m t)) [
        | inl c ↦ clash u (ap (λ (x : Configuration). is_undoing x.mode) (closed_asleep p m t c))
        | inr c ↦ ap is_undoing (sym (closed_alike p m t c).0) ∙ u
      ]

  module _ (t : ℕ) (u : is_undoing (closed p m t).mode ≡ true) where
    mt : is_undoing (m t).mode ≡ true
    mt = was_undoing t u

    lt : is_undoing (l t).mode ≡ true
    lt = ap (λ (x : Configuration). is_undoing x.mode) (sym (undoing_kept t mt).2) ∙ mt

    -- what it hosts and was awake is so still: it is undoing, so its scope does not close
    stays_open : has_open_scope p l t ≡ true → has_open_scope p (closed p m) t ≡ true
    stays_open o =
        let (v, h, b, e, w, a) = busy_find p l t o in
        let un : is_undoing (l v).mode ≡ true = ap is_undoing (sym (live.up v h e a).1) ∙ ap (λ z. is_undoing (l z).mode) w ∙ lt in
        let mv = still v un in
        let kept : is_closed p m v ≡ false =
        closed_host p m v h e
        ∙ refuted _
        (λ c. clash (closing_final p m h v c b e).0 (ap (λ (x : Configuration). is_forward x.mode) mv ∙ undoing_forward (l v).mode un)) in
        subst (λ z. has_open_scope p (closed p m) z ≡ true) w
        (busy_at p (closed p m) v h b e (ap is_awake (closed_alike p m v kept).0 ∙ ap (λ (x : Configuration). is_awake x.mode) mv ∙ a))

    -- what it hosts and is awake was so before: it did not wake, for its host neither moved nor woke
    was_open : has_open_scope p (closed p m) t ≡ true → has_open_scope p l t ≡ true
    unfolding destination_of
    was_open o =
        let (v, h, b, e, w, a) = busy_find p (closed p m) t o in
        let q = undoing_kept t mt in
        let here : move p l event (owner p h) ≡ none = ap (move p l event) w ∙ q.0 in
        let asleep : wakes p to v ≡ false =
        wakes_woken p ok to v h e (rw (here, destination_of)) ∙ ap (λ z. z && eqb h (first_state p (owner p h))) (ap (wakes p to) w ∙ q.1) in
        elim (look (is_awake (l v).mode)) [
          | inl y ↦ subst (λ z. has_open_scope p l z ≡ true) w (busy_at p l v h b e y)
          | inr y ↦ clash (awake_in_moved v a) (sleeps v y asleep)
        ]
      where
        awake_in_moved : (v : ℕ) → is_awake (closed p m v).mode ≡ true → is_awake (m v).mode ≡ true
        awake_in_moved v a = unfold sleeping is_awake in
            elim (look (is_closed p m v)) [
              | inl c ↦ clash a (ap (λ (x : Configuration). is_awake x.mode) (closed_asleep p m v c))
              | inr c ↦ ap is_awake (sym (closed_alike p m v c).0) ∙ a
            ]

        sleeps : (v : ℕ) → is_awake (l v).mode ≡ false → wakes p to v ≡ false → is_awake (m v).mode ≡ false
        sleeps v y w =
            elim (look_option (move p l event v)) [
              | inr q ↦ clash (forward_awake (l v).mode (mover_facts p ok l live event v q.0 q.1).ahead) y
              | inl q ↦ ap (λ (x : Configuration). is_awake x.mode) (moved_kept p ok l live event v q w) ∙ y
            ]

    pub open_as_before : has_open_scope p (closed p m) t ≡ has_open_scope p l t
    open_as_before = same_test (has_open_scope p (closed p m) t) (has_open_scope p l t) was_open stays_open
