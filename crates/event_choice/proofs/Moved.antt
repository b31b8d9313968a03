-- The ledger after an event's moves, read off the ledger before. A mover has no open scope, so what wakes was asleep and what closes was open
-- before; a scope therefore closes exactly if each of its tracks will be forward in a final state, and its host does not move. Assumes nothing.
use Rattle.std.proofs.Common.{◌≡◌, refl, sym, ap, ap₂, ◌∙◌, subst, ◌⊎◌, inl, inr, Bool, true, false, not, ◌&&◌, ◌||◌, ℕ, ◌<◌, eqb, leb, length, eq-eqb, eqb-true}
use Rattle.std.proofs.Math.Bool.{and_comm, or-false}
use Rattle.std.proofs.Math.Option.{Option, none, some}
use Rattle.rules.specs.declared.Mode.TheVariants.{Forward}
use Rattle.rules.specs.declared.Terms.{Terms}
use Rattle.rules.specs.Fold.{some_below, every_below, count_below}
use Rattle.rules.specs.Plan.{Plan, track_count, state_count, host, owner, transition, mover, replacement, is_final, is_state_of, is_hosted_by, every_in, first_state}
use Rattle.rules.specs.Ledger.{Configuration, Ledger, is_awake, is_forward}
use Rattle.rules.specs.Scope.{is_open, has_open_scope}
use Rattle.rules.specs.Opening.{fresh, wakes}
use Rattle.rules.specs.Event.{EventArguments, install, installed, destination_of, installed_by, has_code, move, moved, is_closing, closes_scope, closings, is_replaced, is_full}
use Rattle.rules.proofs.Modes.{forward_awake, forward_is}
use Rattle.rules.proofs.Tests.{look, look_option, clash, refuted, and_holds, and_both, implies, implied, strong, same_test}
use Rattle.rules.proofs.Folds.{every_at, every_of, some_same, count_same}
use Rattle.rules.proofs.Counting.{count_pairs}
use Rattle.rules.proofs.Acceptance.{Accepted, transition_for_lem}
use Rattle.rules.proofs.Moves.{Mover, mover_is}
use Rattle.rules.proofs.Scopes.{in_host, host_in, by_host, host_by, every_in_at, every_in_of, open_at, open_find, shut_at, busy_at, busy_find, free_at}
use Rattle.rules.proofs.Opening.{wakes_root, wakes_entered, wakes_woken, enter_to, enter_woken, enter_kept}
use Rattle.rules.proofs.Soundness.{Live}
use Rattle.event_choice.specs.Next.{next_of, ends_by, code_by, ends_next, closes_next, full_next}
use Rattle.event_choice.proofs.Visits.{own_low}
use Rattle.event_choice.proofs.Takers.{is_owner}

module _ (p : Plan) (ok : Accepted p) (l : Ledger) (live : Live p l) (event : EventArguments) where
  abbrev to : ℕ → Option ℕ
  to t = destination_of p (move p l event t)

  abbrev m : Ledger
  m = moved p l event

  pub mover_facts : (t x : ℕ) → move p l event t ≡ some x → Mover p l event t x
  mover_facts = mover_is p l event

  -- what wakes was asleep
  pub woken_asleep : (t : ℕ) → wakes p to t ≡ true → is_awake (l t).mode ≡ false
  unfolding destination_of
  woken_asleep =
      strong (λ t. wakes p to t ≡ true → is_awake (l t).mode ≡ false)
      (λ t ih w.
      elim (look_option (host p t)) [
        | inl e ↦ clash w (wakes_root p ok to t e)
        | inr e ↦ at t e.0 e.1 (ih (owner p e.0) (ok.lower t e.0 e.1)) w (move p l event (owner p e.0)) refl
      ])
    where
      at : (t h : ℕ) → host p t ≡ some h → (wakes p to (owner p h) ≡ true → is_awake (l (owner p h)).mode ≡ false) → wakes p to t ≡ true
          → (o : Option ℕ) → move p l event (owner p h) ≡ o → is_awake (l t).mode ≡ false
      at t h e ih w (some x) q =
          free_at p l (owner p h) t (mover_facts (owner p h) x q).free (ok.hosted t h e) (host_by p t h e)
      at t h e ih w none q =
          let z : to (owner p h) ≡ none = rw (q, destination_of) in
          let (a, b) = and_holds (wakes p to (owner p h)) (eqb h (first_state p (owner p h))) (sym (wakes_woken p ok to t h e z) ∙ w) in
          refuted (is_awake (l t).mode) (λ c. clash (ap is_awake (live.up t h e c).1 ∙ c) (ih a))

  -- a track after the moves: it moved, it woke, or it is as it was
  pub moved_mover : (t x : ℕ) → move p l event t ≡ some x
      → m t ≡ record { mode = Forward; state = (transition p x).destination; held = install (transition p x).code (transition p x).deviation (l t).held }
  unfolding moved destination_of installed_by installed
  moved_mover t x h =
      enter_to p ok to (λ t. installed_by p (move p l event t) (l t)) t (transition p x).destination (rw (h, destination_of)) ∙ (rw (h, installed_by))

  pub moved_woken : (t : ℕ) → move p l event t ≡ none → wakes p to t ≡ true → m t ≡ fresh p t
  unfolding moved destination_of
  moved_woken t h w = enter_woken p ok to (λ t. installed_by p (move p l event t) (l t)) t (rw (h, destination_of)) w

  pub moved_kept : (t : ℕ) → move p l event t ≡ none → wakes p to t ≡ false → m t ≡ l t
  unfolding moved destination_of installed_by
  moved_kept t h w = enter_kept p ok to (λ t. installed_by p (move p l event t) (l t)) t (rw (h, destination_of)) w ∙ (rw (h, installed_by))

  awake_kept : (t : ℕ) → is_awake (l t).mode ≡ true → move p l event t ≡ none → m t ≡ l t
  awake_kept t a q = moved_kept t q (refuted (wakes p to t) (λ k. clash a (woken_asleep t k)))

  -- an awake track goes on awake: in its mode, in its next state
  moved_awake : (t : ℕ) → is_awake (l t).mode ≡ true → ((m t).mode ≡ (l t).mode) × ((m t).state ≡ next_of p (l t).state (move p l event t))
  unfolding next_of
  moved_awake t a =
      elim (look_option (move p l event t)) [
        | inl q ↦ let r = awake_kept t a q in (ap (λ (c : Configuration). c.mode) r, ap (λ (c : Configuration). c.state) r ∙ (rw (q, next_of)))
        | inr q ↦
            let r = moved_mover t q.0 q.1 in (
              ap (λ (c : Configuration). c.mode) r ∙ sym (forward_is (l t).mode (mover_facts t q.0 q.1).ahead),
              ap (λ (c : Configuration). c.state) r ∙ (rw (q.1, next_of)),
            )
      ]

  ends : (t : ℕ) → is_awake (l t).mode ≡ true → (is_forward (m t).mode && is_final p (m t).state) ≡ ends_next p l (move p l event) t
  unfolding ends_next ends_by
  ends t a = ap₂ (λ d s. is_forward d && is_final p s) (moved_awake t a).0 (moved_awake t a).1

  -- a track with an open scope stays as it is
  pub open_still : (t : ℕ) → has_open_scope p l t ≡ true → (is_awake (l t).mode ≡ true) × (m t ≡ l t)
  open_still t o =
      let (u, h, b, e, w, x) = busy_find p l t o in
      let a = ap (λ z. is_awake (l z).mode) (sym w) ∙ ap is_awake (live.up u h e x).1 ∙ x in
      (a, elim (look_option (move p l event t)) [ inl n ↦ awake_kept t a n | inr n ↦ clash o (mover_facts t n.0 n.1).free ])

  -- every track awake after the moves is in a state of its own
  pub moved_own : (t : ℕ) → t < track_count p → is_awake (m t).mode ≡ true → is_state_of p t (m t).state ≡ true
  unfolding fresh mover
  moved_own t b a = go (move p l event t) refl
    where
      go : (o : Option ℕ) → move p l event t ≡ o → is_state_of p t (m t).state ≡ true
      go (some x) q =
          let k = mover_facts t x q in
          let (c, s, e) = transition_for_lem p (l t).state event.event x k.taken in
          let o : mover p x ≡ t = ap (owner p) s ∙ is_owner p t (l t).state (live.own t b (forward_awake (l t).mode k.ahead)) in
          ap (λ (c : Configuration). is_state_of p t c.state) (moved_mover t x q) ∙ subst (λ z. is_state_of p z (transition p x).destination ≡ true) o (ok.destination_own x c)
      go none q =
          elim (look (wakes p to t)) [
            | inl w ↦ ap (λ (c : Configuration). is_state_of p t c.state) (moved_woken t q w) ∙ ok.first_own t b
            | inr w ↦
                let r = moved_kept t q w in
                ap (λ (c : Configuration). is_state_of p t c.state) r ∙ live.own t b (ap (λ (c : Configuration). is_awake c.mode) (sym r) ∙ a)
          ]

  -- a sleeper stays asleep or wakes
  moved_sleeper : (t : ℕ) → is_awake (l t).mode ≡ false → (is_awake (m t).mode ≡ false) ⊎ ((wakes p to t ≡ true) × (m t ≡ fresh p t))
  moved_sleeper t a =
      elim (look_option (move p l event t)) [
        | inr q ↦ clash (forward_awake (l t).mode (mover_facts t q.0 q.1).ahead) a
        | inl q ↦
            elim (look (wakes p to t))
            [ inl w ↦ inr (w, moved_woken t q w) | inr w ↦ inl (ap (λ (c : Configuration). is_awake c.mode) (moved_kept t q w) ∙ a) ]
      ]

  -- the host's track of an awake track is awake in the hosting state
  pub moved_up : (t h : ℕ) → host p t ≡ some h → is_awake (m t).mode ≡ true → (is_awake (m (owner p h)).mode ≡ true) × ((m (owner p h)).state ≡ h)
  unfolding destination_of fresh
  moved_up t h e a =
      elim (look (is_awake (l t).mode)) [
        | inl x ↦
            let (b, r) = open_still (owner p h) (busy_at p l t h (ok.hosted t h e) e x) in
            (ap (λ (c : Configuration). is_awake c.mode) r ∙ b, ap (λ (c : Configuration). c.state) r ∙ (live.up t h e x).0)
        | inr x ↦ elim (moved_sleeper t x) [ inl z ↦ clash a z | inr z ↦ woken z.0 (move p l event (owner p h)) refl ]
      ]
    where
      woken : wakes p to t ≡ true → (o : Option ℕ) → move p l event (owner p h) ≡ o → (is_awake (m (owner p h)).mode ≡ true) × ((m (owner p h)).state ≡ h)
      woken w (some x) q =
          let r = moved_mover (owner p h) x q in
          let k = eqb-true h (transition p x).destination (sym (wakes_entered p ok to t h (transition p x).destination e (rw (q, destination_of))) ∙ w) in
          (ap (λ (c : Configuration). is_awake c.mode) r ∙ (unfold is_awake in refl), ap (λ (c : Configuration). c.state) r ∙ sym k)
      woken w none q =
          let (a, k) = and_holds (wakes p to (owner p h)) (eqb h (first_state p (owner p h))) (sym (wakes_woken p ok to t h e (rw (q, destination_of))) ∙ w) in
          let r = moved_woken (owner p h) q a in
          (ap (λ (c : Configuration). is_awake c.mode) r ∙ (unfold is_awake in refl), ap (λ (c : Configuration). c.state) r ∙ sym (eqb-true h (first_state p (owner p h)) k))

  -- a scope that closes: its host is in that state, its tracks are forward in final states, and it was open before the call, since the tracks
  -- of a scope that opens are in their first states
  module _ (s : ℕ) (c : is_closing p m s ≡ true) where
    parts : (is_open p m s ≡ true) × ((t : ℕ) → t < track_count p → host p t ≡ some s → (is_forward (m t).mode && is_final p (m t).state) ≡ true)
    unfolding is_closing
    parts =
        let (o, q) = and_holds (is_open p m s) _ c in
        (o, λ t b e. every_in_at p s (λ t. is_forward (m t).mode && is_final p (m t).state) q t b (host_in p s t e))

    closing_host : (is_awake (m (owner p s)).mode ≡ true) × ((m (owner p s)).state ≡ s)
    closing_host = let (t, b, e, a) = open_find p m s parts.0 in moved_up t s e a

    was_open : is_open p l s ≡ true
    unfolding fresh
    was_open =
        elim (look (is_open p l s)) [
          | inl o ↦ o
          | inr n ↦
              let (t, b, e, a) = open_find p m s parts.0 in
              let f = (and_holds (is_forward (m t).mode) (is_final p (m t).state) (parts.1 t b e)).1 in
              elim (moved_sleeper t (shut_at p l s t n b e)) [
                | inl z ↦ clash a z
                | inr z ↦ clash f (ap (λ (c : Configuration). is_final p c.state) z.1 ∙ ok.first_open t b)
              ]
        ]

  -- Closing, track by track, on the ledger before the call.
  abbrev settled : ℕ → ℕ → Bool
  settled t u = not (is_hosted_by p t u && is_awake (l u).mode) || ends_next p l (move p l event) u

  closes_was : (t : ℕ) → t < track_count p → closes_scope p m t ≡ true → closes_next p l (move p l event) t ≡ true
  unfolding closes_scope closes_next
  closes_was t b k =
      let (a, c) = and_holds (is_awake (m t).mode) (is_closing p m (m t).state) k in
      let (u, d, e, x) = open_find p l (m t).state (was_open (m t).state c) in
      let o = is_owner p t (m t).state (moved_own t b a) in
      and_both (has_open_scope p l t) (every_below (track_count p) (settled t)) (subst (λ z. has_open_scope p l z ≡ true) o (busy_at p l u (m t).state d e x))
      (every_of (track_count p) (settled t)
      (λ v bv.
      implied (is_hosted_by p t v && is_awake (l v).mode) (ends_next p l (move p l event) v)
      (λ j.
      let (i, w) = and_holds (is_hosted_by p t v) (is_awake (l v).mode) j in
      let (h, g, q) = by_host p t v i in
      let hs : host p v ≡ some (m t).state = g ∙ ap some (sym (live.up v h g w).0 ∙ ap (λ z. (l z).state) (q ∙ sym o) ∙ (live.up u (m t).state e x).0) in
      sym (ends v w) ∙ (parts (m t).state c).1 v bv hs)))

  closes_is : (t : ℕ) → closes_next p l (move p l event) t ≡ true → closes_scope p m t ≡ true
  unfolding closes_scope closes_next is_closing
  closes_is t k =
      let (o, all) = and_holds (has_open_scope p l t) (every_below (track_count p) (settled t)) k in
      let (u, h, d, e, w, x) = busy_find p l t o in
      let (a, r) = open_still t o in
      let st : (m t).state ≡ h = ap (λ (c : Configuration). c.state) r ∙ ap (λ z. (l z).state) (sym w) ∙ (live.up u h e x).0 in
      and_both (is_awake (m t).mode) (is_closing p m (m t).state) (ap (λ (c : Configuration). is_awake c.mode) r ∙ a)
      (ap (is_closing p m) st
      ∙ and_both (is_open p m h) (every_in p h (λ t. is_forward (m t).mode && is_final p (m t).state)) (open_at p m h u d e (ap is_awake (moved_awake u x).0 ∙ x))
      (every_in_of p h (λ t. is_forward (m t).mode && is_final p (m t).state)
      (λ v bv i.
      let hs = in_host p h v i in
      let wv = live.whole h u v e hs x in
      ends v wv
      ∙ implies (is_hosted_by p t v && is_awake (l v).mode) (ends_next p l (move p l event) v) (every_at (track_count p) (settled t) all v bv)
      (and_both (is_hosted_by p t v) (is_awake (l v).mode) (subst (λ z. is_hosted_by p z v ≡ true) w (host_by p v h hs)) wv))))

  pub closes_before : (t : ℕ) → t < track_count p → closes_scope p m t ≡ closes_next p l (move p l event) t
  closes_before t b = same_test (closes_scope p m t) (closes_next p l (move p l event) t) (closes_was t b) (closes_is t)

  -- a host whose scope closes stays as it is
  pub closing_still : (t : ℕ) → closes_next p l (move p l event) t ≡ true → m t ≡ l t
  unfolding closes_next
  closing_still t c = (open_still t (and_holds (has_open_scope p l t) _ c).0).1

  -- each closing scope has one host
  pub closings_before : closings p m ≡ count_below (track_count p) (closes_next p l (move p l event))
  unfolding closings closes_scope
  closings_before =
      count_pairs (state_count p) (track_count p) (is_closing p m) (closes_scope p m) (owner p) (λ t. (m t).state)
      (record {
        below = λ s b c. ok.owned s b;
        passes = λ s b c. let (a, st) = closing_host s c in and_both (is_awake (m (owner p s)).mode) _ a (ap (is_closing p m) st ∙ c);
        own = λ r s b c f g e. sym (closing_host r f).1 ∙ ap (λ t. (m t).state) e ∙ (closing_host s g).1;
      })
      (record {
        below = λ t b c. own_low p t (m t).state (mine t b c);
        passes = λ t b c. (and_holds (is_awake (m t).mode) _ c).1;
        own = λ r s b c f g e. sym (is_owner p r (m r).state (mine r b f)) ∙ ap (owner p) e ∙ is_owner p s (m s).state (mine s c g);
      })
      ∙ count_same (track_count p) _ _ closes_before
    where
      mine : (t : ℕ) → t < track_count p → closes_scope p m t ≡ true → is_state_of p t (m t).state ≡ true
      mine t b c = moved_own t b (and_holds (is_awake (m t).mode) (is_closing p m (m t).state) (unfold closes_scope in c)).0

  -- 21, on the ledger before the call
  given : (t : ℕ) → t < track_count p
      → (has_code p (move p l event t) || is_replaced p m t) ≡ not (eqb (code_by p (l t).state (move p l event t) (closes_next p l (move p l event) t)) 0)
  unfolding is_replaced has_code code_by
  given t b =
      ap (λ z. has_code p (move p l event t) || (z && not (eqb (replacement p (m t).state) 0))) (closes_before t b)
      ∙ elim (look_option (move p l event t)) [
        | inr q ↦ rw (q.1, has_code, code_by, not_mover q.0 q.1) (or-false (not (eqb (transition p q.0).code 0)))
        | inl q ↦
            elim (look (closes_next p l (move p l event) t)) [
              | inl c ↦ rw (q, has_code, code_by, c, ap (λ (x : Configuration). x.state) (closing_still t c))
              | inr c ↦ rw (q, has_code, code_by, c) (sym (ap not (eq-eqb 0 0 refl)))
            ]
      ]
    where
      not_mover : (x : ℕ) → move p l event t ≡ some x → closes_next p l (move p l event) t ≡ false
      not_mover x q = unfold closes_next in rw (mover_facts t x q).free

  pub full_before : (terms : Terms) → is_full p terms l event ≡ some_below (track_count p) (full_next p l (move p l event) terms)
  unfolding is_full full_next
  full_before terms =
      some_same (track_count p) _ _
      (λ t b.
      ap (λ z. z && leb terms.limit (length (l t).held)) (given t b)
      ∙ and_comm (not (eqb (code_by p (l t).state (move p l event t) (closes_next p l (move p l event) t)) 0)) (leb terms.limit (length (l t).held)))
