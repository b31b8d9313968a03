-- Closing is NESTSUC once for each scope that closes: its vector has terminated, and no scope inside it closes, since its tracks are in
-- final states, which host nothing. Assumes nothing.
use mathlib.Core.Path.{◌≡◌, refl, sym, ap, ap₂, ◌∙◌, subst}
use mathlib.Core.Logic.{inl, inr}
use mathlib.Core.Bool.{true, false}
use mathlib.Core.Option.{Option, none}
use Prim.Native.Nat.{ℕ, ◌<◌}
use lib.ListN.{length}
use borrow.Author.Tests.{eq-eqb}
use Rattle.rules.specs.Plan.{Plan, track_count, state_count, no_state, optional, host, owner, replacement, is_hosted_by, is_above}
use Rattle.rules.specs.Ledger.{Configuration, Ledger, is_awake, is_forward}
use Rattle.rules.specs.Scope.{has_open_scope}
use Rattle.rules.specs.Event.{installed, is_closing, is_closed, closes_scope, closed, closings}
use Rattle.rules.proofs.Tests.{look, clash, none-some, refuted}
use Rattle.rules.proofs.Counting.{count_pairs}
use Rattle.rules.proofs.Acceptance.{Accepted}
use Rattle.rules.proofs.Scopes.{host_by, by_host, open_find, busy_find}
use Rattle.rules.proofs.Closing.{closing_final, closed_host, closed_root, closed_kept, closed_replaced, closed_alike}
use Rattle.theory.proofs.Nesting.{Awake, Nested, state_of, open_host}
use Rattle.theory.proofs.ClosingNested.{closing_open, closes_known, closes_of, closing_busy, closing_open_track, closing_direct}
use Rattle.restoration.proofs.Theorems01.{installed_mode, installed_state, installed_held, closed_awake}
use Rattle.automaton.specs.Configuration.{forward, NConf, Basic, Nest, push, has_terminated}
use Rattle.automaton.specs.Semantics.{FailReading, nestsuc_at, Step, NESTSUC, Run}
use Rattle.automaton.specs.View.{stack_of, direction_of, is_within, basic, nested, view_of, is_on_top, view, scope_view, closers}
use Rattle.automaton.proofs.Listings.{alike, listed_length, run_same}
use Rattle.automaton.proofs.Frames.{same_conf, within_parts, within_of, top_parts, top_of, hosted_above, shown_free, shown_busy, view_law}
use Rattle.automaton.proofs.Entered.{facing_forward}
use Rattle.automaton.proofs.Terminated.{closing_terminated}
use Rattle.automaton.proofs.Replacing.{unchanged, frames_view, all_stepped, stepped_all, stepped_not, steps_run}
use Rattle.automaton.proofs.MovingSteps.{stack_install}

no_state_lem : optional no_state ≡ none
unfolding optional
no_state_lem = rw (eq-eqb no_state no_state refl)

module _ (p : Plan) (ρ : FailReading) (ok : Accepted p) (l : Ledger) (n : Nested p l) where
  abbrev m : Ledger
  m = closed p l

  -- a host whose scope has closed
  replaced_by : ℕ → NConf
  replaced_by t = Basic t (l t).state forward (push (replacement p (l t).state) none (stack_of (l t).held))

  awake : (t : ℕ) → closes_scope p l t ≡ true → Awake l t
  awake t h = (closes_known p l t h).0

  own : (t : ℕ) → Awake l t → owner p (l t).state ≡ t
  own t a = (state_of p t (l t).state (n.own t a)).1

  apart : (t u : ℕ) → closes_scope p l t ≡ true → closes_scope p l u ≡ true → is_above p t u ≡ true → ⊥
  apart t u h k a = clash (closing_direct p ok l n t h u a (awake u k)) (closing_open_track p ok l n u k)

  going : (t : ℕ) → closes_scope p l t ≡ true → is_forward (l t).mode ≡ true
  going t h =
      let (a, c) = closes_known p l t h in
      let (u, b, e, w) = open_find p l (l t).state (closing_open p l (l t).state c) in
      let same : (l t).mode ≡ (l u).mode = ap (λ x. (l x).mode) (sym (own t a)) ∙ (n.hosted u (l t).state w e).1 in
      ap is_forward same ∙ (closing_final p l (l t).state u c b e).0

  ends : (t : ℕ) → closes_scope p l t ≡ true → Step p ρ (view_of p ρ l t) (nestsuc_at t) (replaced_by t)
  unfolding nested replaced_by scope_view
  ends t h =
      let (a, c) = closes_known p l t h in
      let o = closing_open p l (l t).state c in
      let one : view_of p ρ l t ≡ nested p ρ l t (scope_view p ρ l t) =
      view_law p ρ l ok t (n.below t a) ∙ shown_busy p ρ l t (view_of p ρ l) (closing_busy p ok l n t h) in
      let done : has_terminated p (scope_view p ρ l t) ≡ true =
      ap (λ x. has_terminated p (scope_view p ρ l x)) (sym (own t a)) ∙ sym (closing_terminated p ρ ok l n (l t).state o) ∙ c in
      subst (λ z. Step p ρ z (nestsuc_at t) (replaced_by t))
      (sym (one ∙ ap (λ d. Nest t (l t).state d (stack_of (l t).held) (scope_view p ρ l t)) (facing_forward ρ (l t).mode (going t h))))
      (NESTSUC t (l t).state (stack_of (l t).held) (scope_view p ρ l t) done)

  closed_free : (t : ℕ) → closes_scope p l t ≡ true → has_open_scope p m t ≡ false
  closed_free t h =
      refuted (has_open_scope p m t)
      (λ b.
      let (u, k, c, e, o, a) = busy_find p m t b in
      let (d, w) = closed_awake p l u a in
      clash (closing_direct p ok l n t h u (hosted_above p ok t u (subst (λ x. is_hosted_by p x u ≡ true) o (host_by p u k e))) w) d)

  replaced_view : (t : ℕ) → t < track_count p → closes_scope p l t ≡ true → replaced_by t ≡ view_of p ρ m t
  unfolding replaced_by basic direction_of
  replaced_view t b h =
      let r = replacement p (l t).state in
      let k : m t ≡ installed r no_state (l t) = closed_replaced p l t (closing_open_track p ok l n t h) h in
      let st : (m t).state ≡ (l t).state = ap (λ (c : Configuration). c.state) k ∙ installed_state r no_state (l t) in
      let wy : is_forward (m t).mode ≡ true = ap is_forward (ap (λ (c : Configuration). c.mode) k ∙ installed_mode r no_state (l t)) ∙ going t h in
      let hd : stack_of (m t).held ≡ push r none (stack_of (l t).held) =
      ap (λ (c : Configuration). stack_of c.held) k ∙ ap stack_of (installed_held r no_state (l t)) ∙ stack_install r no_state (l t).held
      ∙ ap (λ d. push r d (stack_of (l t).held)) no_state_lem in
      ap₂ (λ q S. Basic t q forward S) (sym st) (sym hd)
      ∙ ap (λ x. Basic t (m t).state (direction_of x) (stack_of (m t).held)) (sym wy)
      ∙ sym (shown_free p ρ m t (view_of p ρ m) (closed_free t h))
      ∙ sym (view_law p ρ m ok t b)

  stays_awake : (t : ℕ) → is_closed p l t ≡ false → is_awake (m t).mode ≡ is_awake (l t).mode
  stays_awake t c = ap is_awake (closed_alike p l t c).0

  same_within : (t : ℕ) → Awake l t → closes_scope p l t ≡ false → (u : ℕ) → is_within p l t u ≡ is_within p m t u
  same_within t a h u =
      alike (is_within p l t u) (is_within p m t u)
      (λ y.
      let (i, w) = within_parts p l t u y in
      let (k, e, o) = by_host p t u i in
      let st : k ≡ (l t).state = sym (n.hosted u k w e).0 ∙ ap (λ x. (l x).state) o in
      let z : is_closed p l u ≡ false =
      refuted (is_closed p l u) (λ c. clash (closes_of p l t a (ap (is_closing p l) (sym st) ∙ sym (closed_host p l u k e) ∙ c)) h) in
      within_of p m t u i (stays_awake u z ∙ w))
      (λ y. let (i, w) = within_parts p m t u y in within_of p l t u i (closed_awake p l u w).1)

  root_awake : (t : ℕ) → host p t ≡ none → is_awake (m t).mode ≡ is_awake (l t).mode
  root_awake t e = stays_awake t (closed_root p l t e)

  abbrev all : ℕ → Option NConf
  all = all_stepped p ρ ok l n (closes_scope p l) nestsuc_at replaced_by awake apart ends

  -- one NESTSUC for each scope that closes
  pub closing_run : Run p ρ (view p ρ l) (closers p l) (view p ρ m)
  unfolding closers
  closing_run =
      run_same p ρ (steps_run p ρ ok l n (closes_scope p l) nestsuc_at replaced_by awake apart ends)
      (frames_view p ρ ok l all m
      (λ t b.
      alike (is_on_top p l t) (is_on_top p m t)
      (λ y. let (h, a) = top_parts p l t y in top_of p m t h (root_awake t h ∙ a))
      (λ y. let (h, a) = top_parts p m t y in top_of p l t h (sym (root_awake t h) ∙ a)))
      (λ t d b a w q.
      elim (look (closes_scope p l t)) [
        | inl h ↦
            same_conf d (replaced_by t) (sym q ∙ stepped_all p ρ ok l n (closes_scope p l) nestsuc_at replaced_by awake apart ends t h) ∙ replaced_view t b h
        | inr h ↦ none-some (stepped_not p ρ ok l n (closes_scope p l) nestsuc_at replaced_by awake apart ends t h) q
      ])
      (λ t b a w q.
      elim (look (closes_scope p l t)) [
        | inl h ↦ none-some q (stepped_all p ρ ok l n (closes_scope p l) nestsuc_at replaced_by awake apart ends t h)
        | inr h ↦
            unchanged p ρ ok l m t (λ u c. same_within t a h u) (closed_kept p l t (closed_awake p l t w).0 h)
      ]))

  -- each scope has one host: so many close as hosts have their scope closed
  pub closings_counted : closings p l ≡ length (closers p l)
  unfolding closings closers
  closings_counted =
      count_pairs (state_count p) (track_count p) (is_closing p l) (closes_scope p l) (owner p) (λ t. (l t).state)
      (record {
        below = λ s b c. ok.owned s b;
        passes =
            λ s b c.
            let (a, o, q) = open_host p ok l n s (closing_open p l s c) in
            closes_of p l (owner p s) a (ap (is_closing p l) q ∙ c);
        own =
            λ r s b c f g e.
            sym (open_host p ok l n r (closing_open p l r f)).2 ∙ ap (λ t. (l t).state) e ∙ (open_host p ok l n s (closing_open p l s g)).2;
      })
      (record {
        below = λ t b h. (state_of p t (l t).state (n.own t (awake t h))).0;
        passes = λ t b h. (closes_known p l t h).1;
        own = λ r s b c f g e. sym (own r (awake r f)) ∙ ap (owner p) e ∙ own s (awake s g);
      })
      ∙ sym (listed_length (track_count p) (closes_scope p l) nestsuc_at)
