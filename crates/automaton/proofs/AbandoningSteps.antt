-- Abandoning is one step for each scope abandoned, from the highest host down, NESTFAIL or, where the host is shown turned, NESTCOMP: a host's
-- nested vector has compensated once the scopes inside it are gone, since what it has in it was spent; and what is left is the view of the
-- ledger after abandoning. Assumes nothing.
use mathlib.Core.Path.{◌≡◌, sym, ap, ◌∙◌, subst}
use mathlib.Core.Logic.{inl, inr}
use mathlib.Core.Bool.{true, false}
use mathlib.Core.Option.{Option, none, some}
use Prim.Native.Nat.{ℕ, suc, ◌<◌, ◌≤◌}
use native.Mathlib.Omega.{arith}
use Rattle.rules.specs.declared.Mode.{Mode}
use Rattle.rules.specs.Plan.{Plan, track_count, host, owner, is_hosted_by, every_in}
use Rattle.rules.specs.Ledger.{Configuration, Ledger, is_awake, is_forward, is_undoing, is_empty}
use Rattle.rules.specs.Scope.{is_open, has_open_scope}
use Rattle.rules.specs.Signal.{is_spent, is_left, is_abandoned, abandoned}
use Rattle.rules.proofs.Tests.{look, clash, none-some, refuted, and_holds, and_both, or_right}
use Rattle.rules.proofs.Acceptance.{Accepted}
use Rattle.rules.proofs.Scopes.{in_host, host_in, host_by, by_host, every_in_at, every_in_of, open_find, busy_find}
use Rattle.rules.proofs.Abandoning.{spent_parts, abandoned_host, left_kept}
use Rattle.rules.proofs.Modes.{undoing_forward}
use Rattle.theory.proofs.Nesting.{Awake, Nested, state_of, host_busy}
use Rattle.theory.proofs.SignalNested.{left_awake, left_root}
use Rattle.automaton.specs.Listing.{listed}
use Rattle.automaton.specs.Configuration.{backward, Stack, NConf, Basic, Nest, Conf, Vect, is_backwards, is_compensated, has_terminated, has_compensated}
use Rattle.automaton.specs.Semantics.{FailReading, basic_alone, nested_too, Step, NESTFAIL, NESTCOMP, Run}
use Rattle.automaton.specs.View.{stack_of, direction_of, facing, is_within, basic, nested, shown, view_of, is_on_top, view, leaves_scope, leave_at, abandonings}
use Rattle.automaton.proofs.Listings.{alike, run_same}
use Rattle.automaton.proofs.Frames.{same_conf, frame, frames, instead_none, instead_some, within_parts, within_of, top_parts, top_of, shown_free, shown_busy, view_law, frame_law}
use Rattle.automaton.proofs.Replacing.{unchanged, frames_view, stepped_from, from_some, from_none, from_low, falling_run}
use Rattle.automaton.proofs.Terminated.{busy_open, bare_stack, basic_compensated, within_host, compensated_of}

-- a host in undoing mode whose vector has compensated
leaves_by : (p : Plan) (ρ : FailReading) (m : Mode) (A q : ℕ) (S : Stack) (c : Conf) → is_forward m ≡ false → has_compensated p c ≡ true
    → Step p ρ (Nest A q (facing ρ m) S c) (leave_at ρ A) (Basic A q backward S)
unfolding facing leave_at direction_of
leaves_by p basic_alone m A q S c h k = NESTFAIL A q S c k
leaves_by p nested_too m A q S c h k = rw h (NESTCOMP A q S c (or_right (has_terminated p c) (has_compensated p c) k))

module _ (p : Plan) (ρ : FailReading) (ok : Accepted p) (l : Ledger) (n : Nested p l) where
  abbrev m : Ledger
  m = abandoned p l

  -- a host whose scope is gone
  turned_back : ℕ → NConf
  turned_back t = Basic t (l t).state backward (stack_of (l t).held)

  leaves_parts : (t : ℕ) → leaves_scope p l t ≡ true → Awake l t × (is_left p l (l t).state ≡ true)
  unfolding leaves_scope
  leaves_parts t h = and_holds (is_awake (l t).mode) (is_left p l (l t).state) h

  leaves_of : (t : ℕ) → Awake l t → is_left p l (l t).state ≡ true → leaves_scope p l t ≡ true
  unfolding leaves_scope
  leaves_of t a h = and_both (is_awake (l t).mode) (is_left p l (l t).state) a h

  left_parts : (s : ℕ) → is_left p l s ≡ true → (is_open p l s ≡ true) × ((u : ℕ) → host p u ≡ some s → is_spent p l u ≡ true)
  unfolding is_left
  left_parts s h =
      let (o, q) = and_holds (is_open p l s) (every_in p s (is_spent p l)) h in
      (o, λ u e. every_in_at p s (is_spent p l) q u (ok.hosted u s e) (host_in p s u e))

  left_of_lem : (s : ℕ) → is_open p l s ≡ true → ((u : ℕ) → host p u ≡ some s → is_spent p l u ≡ true) → is_left p l s ≡ true
  unfolding is_left
  left_of_lem s o h = and_both (is_open p l s) (every_in p s (is_spent p l)) o (every_in_of p s (is_spent p l) (λ u b i. h u (in_host p s u i)))

  own : (t : ℕ) → Awake l t → owner p (l t).state ≡ t
  own t a = (state_of p t (l t).state (n.own t a)).1

  leaves_busy : (t : ℕ) → leaves_scope p l t ≡ true → has_open_scope p l t ≡ true
  leaves_busy t h =
      let (a, q) = leaves_parts t h in
      let (o, s) = left_parts (l t).state q in
      let (u, b, e, w) = open_find p l (l t).state o in
      subst (λ x. has_open_scope p l x ≡ true) (own t a) (host_busy p ok l n u (l t).state w e)

  -- a spent track with an open scope leaves it
  spent_leaves : (t : ℕ) → Awake l t → is_spent p l t ≡ true → has_open_scope p l t ≡ true → leaves_scope p l t ≡ true
  spent_leaves t a s b =
      let o = busy_open p ok l n t b in
      let q = spent_parts p ok l t (n.below t a) s in
      let (u, c, e, w) = open_find p l (l t).state o in
      leaves_of t a
      (left_of_lem (l t).state o
      (λ v f. q.hosted v (ok.hosted v (l t).state f) (subst (λ x. is_hosted_by p x v ≡ true) (own t a) (host_by p v (l t).state f)) (n.whole v u (l t).state f e ∙ w)))

  leaves_awake : (t : ℕ) → leaves_scope p l t ≡ true → Awake l t
  leaves_awake t h = (leaves_parts t h).0

  -- the hosts from k on whose scopes are gone
  abbrev gone : ℕ → ℕ → Option NConf
  gone = stepped_from p ρ ok l n (leaves_scope p l) (leave_at ρ) turned_back leaves_awake

  abbrev gone_some : (k t : ℕ) → k ≤ t → leaves_scope p l t ≡ true → gone k t ≡ some (turned_back t)
  gone_some = from_some p ρ ok l n (leaves_scope p l) (leave_at ρ) turned_back leaves_awake

  abbrev gone_none : (k t : ℕ) → leaves_scope p l t ≡ false → gone k t ≡ none
  gone_none = from_none p ρ ok l n (leaves_scope p l) (leave_at ρ) turned_back leaves_awake

  abbrev gone_low : (k t : ℕ) → t < k → gone k t ≡ none
  gone_low = from_low p ρ ok l n (leaves_scope p l) (leave_at ρ) turned_back leaves_awake

  -- spent, and its scope gone if it had one: compensated
  back_compensated : (t : ℕ) → is_empty (l t).held ≡ true → is_compensated p (turned_back t) ≡ true
  unfolding turned_back is_compensated is_backwards
  back_compensated t e = rw (bare_stack (l t).held ∙ e)

  spent_compensated : (k u : ℕ) → k < u → Awake l u → is_spent p l u ≡ true → is_compensated p (frame p ρ l (gone (suc k)) u) ≡ true
  spent_compensated k u b a s =
      let q = spent_parts p ok l u (n.below u a) s in
      ap (is_compensated p) (frame_law p ρ l ok (gone (suc k)) u (n.below u a))
      ∙ elim (look (has_open_scope p l u)) [
        | inl h ↦
            ap (is_compensated p)
            (instead_some (gone (suc k) u) (shown p ρ l u (frame p ρ l (gone (suc k)))) (turned_back u) (gone_some (suc k) u b (spent_leaves u a s h)))
            ∙ back_compensated u q.empty
        | inr h ↦
            ap (is_compensated p)
            (instead_none (gone (suc k) u) (shown p ρ l u (frame p ρ l (gone (suc k))))
            (gone_none (suc k) u (refuted (leaves_scope p l u) (λ z. clash (leaves_busy u z) h)))
            ∙ shown_free p ρ l u (frame p ρ l (gone (suc k))) h)
            ∙ basic_compensated p l u a ∙ and_both (is_undoing (l u).mode) (is_empty (l u).held) q.undoing q.empty
      ]

  undoing_host : (t : ℕ) → leaves_scope p l t ≡ true → is_forward (l t).mode ≡ false
  undoing_host t h =
      let (a, q) = leaves_parts t h in
      let (o, s) = left_parts (l t).state q in
      let (u, b, e, w) = open_find p l (l t).state o in
      let same : (l t).mode ≡ (l u).mode = ap (λ x. (l x).mode) (sym (own t a)) ∙ (n.hosted u (l t).state w e).1 in
      ap is_forward same ∙ undoing_forward (l u).mode (spent_parts p ok l u b (s u e)).undoing

  -- a host's step
  leave_step : (k : ℕ) → k < track_count p → leaves_scope p l k ≡ true → Step p ρ (frame p ρ l (gone (suc k)) k) (leave_at ρ k) (turned_back k)
  unfolding nested turned_back
  leave_step k b h =
      let (a, q) = leaves_parts k h in
      let (o, s) = left_parts (l k).state q in
      let w = own k a in
      let one : frame p ρ l (gone (suc k)) k ≡ nested p ρ l k (Vect (listed (track_count p) (is_within p l k) (frame p ρ l (gone (suc k))))) =
      frame_law p ρ l ok (gone (suc k)) k b
      ∙ instead_none (gone (suc k) k) (shown p ρ l k (frame p ρ l (gone (suc k)))) (gone_low (suc k) k (omega arith))
      ∙ shown_busy p ρ l k (frame p ρ l (gone (suc k))) (leaves_busy k h) in
      subst (λ z. Step p ρ z (leave_at ρ k) (turned_back k)) (sym one)
      (leaves_by p ρ (l k).mode k (l k).state (stack_of (l k).held) _ (undoing_host k h)
      (compensated_of p (is_within p l k) (frame p ρ l (gone (suc k)))
      (λ u c y.
      let (e, v) = within_host p ok l n (l k).state o u (subst (λ x. is_within p l x u ≡ true) (sym w) y) in
      spent_compensated k u (subst (λ x. x < u) w (ok.lower u (l k).state e)) v (s u e))))

  -- and in the end all: the ledger after abandoning
  kept : (t : ℕ) → Awake m t → m t ≡ l t
  kept t a = left_kept p ok l t (left_awake p ok l n t a).0

  gone_free : (t : ℕ) → leaves_scope p l t ≡ true → has_open_scope p m t ≡ false
  gone_free t h =
      refuted (has_open_scope p m t)
      (λ b.
      let (u, k, c, e, o, a) = busy_find p m t b in
      let (d, w) = left_awake p ok l n u a in
      let st : k ≡ (l t).state = sym (n.hosted u k w e).0 ∙ ap (λ x. (l x).state) o in
      clash (abandoned_host p ok l u k e ∙ ap (is_left p l) st ∙ (leaves_parts t h).1) d)

  within_same : (t : ℕ) → Awake l t → leaves_scope p l t ≡ false → (u : ℕ) → u < track_count p → is_within p l t u ≡ is_within p m t u
  within_same t a h u b =
      alike (is_within p l t u) (is_within p m t u)
      (λ y.
      let (i, w) = within_parts p l t u y in
      let (k, e, o) = by_host p t u i in
      let st : k ≡ (l t).state = sym (n.hosted u k w e).0 ∙ ap (λ x. (l x).state) o in
      let z : is_abandoned p l u ≡ false =
      refuted (is_abandoned p l u) (λ c. clash (leaves_of t a (ap (is_left p l) (sym st) ∙ sym (abandoned_host p ok l u k e) ∙ c)) h) in
      within_of p m t u i (ap (λ (c : Configuration). is_awake c.mode) (left_kept p ok l u z) ∙ w))
      (λ y. let (i, w) = within_parts p m t u y in within_of p l t u i (left_awake p ok l n u w).1)

  back_view : (t : ℕ) → t < track_count p → Awake m t → leaves_scope p l t ≡ true → turned_back t ≡ view_of p ρ m t
  unfolding turned_back basic direction_of
  back_view t b a h =
      ap (λ x. Basic t (l t).state (direction_of x) (stack_of (l t).held)) (sym (undoing_host t h))
      ∙ ap (λ (c : Configuration). Basic t c.state (direction_of (is_forward c.mode)) (stack_of c.held)) (sym (kept t a))
      ∙ sym (shown_free p ρ m t (view_of p ρ m) (gone_free t h))
      ∙ sym (view_law p ρ m ok t b)

  root_awake : (t : ℕ) → host p t ≡ none → is_awake (m t).mode ≡ is_awake (l t).mode
  root_awake t e = ap (λ (c : Configuration). is_awake c.mode) (left_root p ok l n t e)

  at_last : frames p ρ l (gone 0) ≡ view p ρ m
  at_last =
      frames_view p ρ ok l (gone 0) m
      (λ t b.
      alike (is_on_top p l t) (is_on_top p m t)
      (λ y. let (e, a) = top_parts p l t y in top_of p m t e (root_awake t e ∙ a))
      (λ y. let (e, a) = top_parts p m t y in top_of p l t e (sym (root_awake t e) ∙ a)))
      (λ t d b a w e.
      elim (look (leaves_scope p l t)) [
        | inl h ↦ same_conf d (turned_back t) (sym e ∙ gone_some 0 t (omega arith) h) ∙ back_view t b w h
        | inr h ↦ none-some (gone_none 0 t h) e
      ])
      (λ t b a w e.
      elim (look (leaves_scope p l t)) [
        | inl h ↦ none-some e (gone_some 0 t (omega arith) h)
        | inr h ↦
            unchanged p ρ ok l m t (within_same t a h) (kept t w)
      ])

  -- NESTFAIL, or NESTCOMP, once for each abandoned scope
  pub abandoning_run : Run p ρ (view p ρ l) (abandonings p ρ l) (view p ρ m)
  unfolding abandonings
  abandoning_run = run_same p ρ (falling_run p ρ ok l n (leaves_scope p l) (leave_at ρ) turned_back leaves_awake leave_step) at_last
