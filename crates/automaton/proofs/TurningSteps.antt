-- A signal is FAIL at every configuration that the reading lets it turn and its society may turn, the inner ones first, then one step for each scope
-- abandoned. Where FAIL turns basic configurations alone, the hosts of open scopes, which document 01 turns in the same call, are shown forward until their
-- scopes are gone. Assumes nothing.
use mathlib.Core.Path.{◌≡◌, refl, sym, ap, ap₂, ◌∙◌, subst}
use mathlib.Core.Logic.{inl, inr}
use mathlib.Core.Bool.{Bool, true, false, not, ◌&&◌}
use mathlib.Core.List.{◌++◌}
use mathlib.Core.Option.{Option, none, some}
use Prim.Native.Nat.{ℕ, suc, ◌<◌}
use native.Mathlib.Omega.{arith}
use borrow.Author.Tests.{not-true}
use Rattle.rules.specs.declared.Mode.{Mode}
use Rattle.rules.specs.Plan.{Plan, track_count, is_root, is_hosted_by}
use Rattle.rules.specs.Rights.{signal_right, is_permitted}
use Rattle.rules.specs.Ledger.{Configuration, Ledger, is_awake, is_forward}
use Rattle.rules.specs.Scope.{has_open_scope}
use Rattle.rules.specs.Signal.{turned, abandoned}
use Rattle.rules.specs.Call.{SignalArguments}
use Rattle.rules.proofs.Tests.{look, clash, none-some, refuted, and_holds}
use Rattle.rules.proofs.Acceptance.{Accepted}
use Rattle.rules.proofs.Abandoning.{hosts_higher}
use Rattle.rules.proofs.Modes.{forward_awake}
use Rattle.theory.proofs.Nesting.{Awake, Nested, busy_same}
use Rattle.restoration.proofs.Theorems01.{turned_awake, turned_state, turned_held, turned_forward, turned_kept, turned_nested}
use Rattle.automaton.specs.Listing.{listed}
use Rattle.automaton.specs.Configuration.{backward, NConf, Basic, Nest, Conf, Vect}
use Rattle.automaton.specs.Semantics.{FailReading, basic_alone, nested_too, fail_at, Step, FAIL, FAILNEST, Run}
use Rattle.automaton.specs.View.{stack_of, direction_of, facing, is_within, basic, nested, shown, view_of, is_on_top, view, is_going, is_turning, abandonings, turners}
use Rattle.automaton.proofs.Listings.{listed_same, run_then, run_same}
use Rattle.automaton.proofs.Frames.{down, same_conf, instead_none, instead_some, within_parts, frame, shown_free, shown_busy, shown_alike, view_law, frame_law}
use Rattle.automaton.proofs.Entered.{facing_forward}
use Rattle.automaton.proofs.Replacing.{Alike, frames_view, stepped_from, from_some, from_none, from_low, falling_run}
use Rattle.automaton.proofs.AbandoningSteps.{abandoning_run}

-- Whom FAIL turns, by the reading.
module _ (p : Plan) (l : Ledger) where
  pub going_forward : (ρ : FailReading) (t : ℕ) → is_going p ρ l t ≡ true → is_forward (l t).mode ≡ true
  unfolding is_going
  going_forward basic_alone t h = (and_holds (is_forward (l t).mode) (not (has_open_scope p l t)) h).0
  going_forward nested_too t h = h

  pub going_of : (ρ : FailReading) (t : ℕ) → is_forward (l t).mode ≡ true → has_open_scope p l t ≡ false → is_going p ρ l t ≡ true
  unfolding is_going
  going_of basic_alone t f b = rw (f, b)
  going_of nested_too t f b = f

  -- a host only where nested configurations are turned too
  going_host : (ρ : FailReading) (t : ℕ) → is_going p ρ l t ≡ true → has_open_scope p l t ≡ true → ρ ≡ nested_too
  unfolding is_going
  going_host basic_alone t h b = clash b (not-true (has_open_scope p l t) (and_holds (is_forward (l t).mode) (not (has_open_scope p l t)) h).1)
  going_host nested_too t h b = refl

  still_facing : (ρ : FailReading) (t : ℕ) (m : Mode) → is_going p ρ l t ≡ false → is_forward m ≡ false → facing ρ (l t).mode ≡ facing ρ m
  unfolding is_going facing
  still_facing basic_alone t m h f = refl
  still_facing nested_too t m h f = rw (h, f)

facing_turned : (ρ : FailReading) (m : Mode) → ρ ≡ nested_too → is_forward m ≡ false → facing ρ m ≡ backward
unfolding facing direction_of
facing_turned ρ m e f = ap (λ x. facing x m) e ∙ rw f

module _ (p : Plan) (ρ : FailReading) (ok : Accepted p) (l : Ledger) (n : Nested p l) where
  awake : (t : ℕ) → is_going p ρ l t ≡ true → Awake l t
  awake t h = forward_awake (l t).mode (going_forward p l ρ t h)

  -- FAIL at one track, whatever is nested in it
  fails_free : (t : ℕ) (c : NConf) → is_going p ρ l t ≡ true → c ≡ basic p l t → Step p ρ c (fail_at t) (Basic t (l t).state backward (stack_of (l t).held))
  unfolding basic direction_of
  fails_free t c h e =
      subst (λ z. Step p ρ z (fail_at t) (Basic t (l t).state backward (stack_of (l t).held)))
      (sym (e ∙ ap (λ x. Basic t (l t).state (direction_of x) (stack_of (l t).held)) (going_forward p l ρ t h))) (FAIL t (l t).state (stack_of (l t).held))

  fails_host : (t : ℕ) (c : NConf) (d : Conf) → is_going p ρ l t ≡ true → has_open_scope p l t ≡ true → c ≡ nested p ρ l t d
      → Step p ρ c (fail_at t) (Nest t (l t).state backward (stack_of (l t).held) d)
  unfolding nested
  fails_host t c d h b e =
      let w : ρ ≡ nested_too = going_host p l ρ t h b in
      subst (λ z. Step p ρ z (fail_at t) (Nest t (l t).state backward (stack_of (l t).held) d))
      (sym (e ∙ ap (λ x. Nest t (l t).state x (stack_of (l t).held) d) (facing_forward ρ (l t).mode (going_forward p l ρ t h))))
      (FAILNEST t (l t).state (stack_of (l t).held) d (cc))

  pub fails : (t : ℕ) → is_going p ρ l t ≡ true → (c : NConf) × Step p ρ (view_of p ρ l t) (fail_at t) c
  fails t h =
      let q = view_law p ρ l ok t (n.below t (awake t h)) in
      elim (look (has_open_scope p l t)) [
        | inr b ↦ (_, fails_free t (view_of p ρ l t) h (q ∙ shown_free p ρ l t (view_of p ρ l) b))
        | inl b ↦ (_, fails_host t (view_of p ρ l t) _ h b (q ∙ shown_busy p ρ l t (view_of p ρ l) b))
      ]

-- A society's signal.
module _ (p : Plan) (ρ : FailReading) (ok : Accepted p) (l : Ledger) (n : Nested p l) (a : SignalArguments) where
  abbrev m : Ledger
  m = turned p a.society l

  abbrev may : ℕ → Bool
  may = is_permitted p signal_right a.society

  abbrev going : ℕ → Bool
  going = is_turning p ρ a.society l

  pub turning_going : (t : ℕ) → is_turning p ρ a.society l t ≡ true → (is_permitted p signal_right a.society t ≡ true) × (is_going p ρ l t ≡ true)
  unfolding is_turning
  turning_going t h = and_holds (may t) (is_going p ρ l t) h

  going_awake : (t : ℕ) → going t ≡ true → Awake l t
  going_awake t h = awake p ρ ok l n t (turning_going t h).1

  same_awake : (t : ℕ) → is_awake (l t).mode ≡ is_awake (m t).mode
  same_awake t = sym (turned_awake p ok a l t)

  same_within : (t u : ℕ) → is_within p l t u ≡ is_within p m t u
  unfolding is_within
  same_within t u = ap (λ x. is_hosted_by p t u && x) (same_awake u)

  same_top : (t : ℕ) → is_on_top p l t ≡ is_on_top p m t
  unfolding is_on_top
  same_top t = ap (λ x. is_root p t && x) (same_awake t)

  -- what the society may turn is not forward afterwards
  all_turned : (t : ℕ) → may t ≡ true → is_forward (m t).mode ≡ false
  all_turned t y = turned_forward p ok a l t y

  -- what FAIL does not turn is shown afterwards as before
  others : (t : ℕ) → going t ≡ false → Alike p ρ ok l m t
  unfolding is_turning
  others t h =
      elim (look (may t)) [
        | inr y ↦
            let q = ap (λ (c : Configuration). c.mode) (sym (turned_kept p ok a l t y)) in
            like (λ f. ap is_forward q) (λ f. ap (facing ρ) q)
        | inl y ↦
            let g : is_going p ρ l t ≡ false = rw y at h in
            like (λ f. refuted (is_forward (l t).mode) (λ w. clash (going_of p l ρ t w f) g) ∙ sym (all_turned t y))
            (λ f. still_facing p l ρ t (m t).mode g (all_turned t y))
      ]
    where
      like : (has_open_scope p l t ≡ false → is_forward (l t).mode ≡ is_forward (m t).mode)
          → (has_open_scope p l t ≡ true → facing ρ (l t).mode ≡ facing ρ (m t).mode) → Alike p ρ ok l m t
      like way host =
          record {
            within = λ u c. same_within t u;
            state = sym (turned_state p ok a l t);
            held = sym (turned_held p ok a l t);
            way = way;
            host = host;
          }

  -- those from k on are turned
  abbrev gone : ℕ → ℕ → Option NConf
  gone = stepped_from p ρ ok l n going fail_at (view_of p ρ m) going_awake

  abbrev gone_some : (k t : ℕ) → k < suc t → going t ≡ true → gone k t ≡ some (view_of p ρ m t)
  gone_some k t b = from_some p ρ ok l n going fail_at (view_of p ρ m) going_awake k t (omega arith)

  abbrev gone_none : (k t : ℕ) → going t ≡ false → gone k t ≡ none
  gone_none = from_none p ρ ok l n going fail_at (view_of p ρ m) going_awake

  abbrev gone_low : (k t : ℕ) → t < k → gone k t ≡ none
  gone_low = from_low p ρ ok l n going fail_at (view_of p ρ m) going_awake

  inner : (k u : ℕ) → u < track_count p → k < u → frame p ρ l (gone (suc k)) u ≡ view_of p ρ m u
  inner k =
      down (track_count p) (λ u. k < u → frame p ρ l (gone (suc k)) u ≡ view_of p ρ m u)
      (λ u b ih c.
      frame_law p ρ l ok (gone (suc k)) u b
      ∙ elim (look (going u)) [
        | inl h ↦ instead_some (gone (suc k) u) (shown p ρ l u (frame p ρ l (gone (suc k)))) (view_of p ρ m u) (gone_some (suc k) u (omega arith) h)
        | inr h ↦
            let o = others u h in
            instead_none (gone (suc k) u) (shown p ρ l u (frame p ρ l (gone (suc k)))) (gone_none (suc k) u h)
            ∙ shown_alike p l m u o.within ρ (frame p ρ l (gone (suc k))) (view_of p ρ m) o.state o.held o.way o.host
            (λ v d y. let (i, w) = within_parts p l u v y in let e = hosts_higher p ok u v i in ih v d e (omega arith))
            ∙ sym (view_law p ρ m ok u b)
      ])

  turned_free : (t : ℕ) → t < track_count p → may t ≡ true → has_open_scope p l t ≡ false → Basic t (l t).state backward (stack_of (l t).held) ≡ view_of p ρ m t
  unfolding basic direction_of
  turned_free t b y f =
      ap₂ (λ q S. Basic t q backward (stack_of S)) (sym (turned_state p ok a l t)) (sym (turned_held p ok a l t))
      ∙ ap (λ x. Basic t (m t).state (direction_of x) (stack_of (m t).held)) (sym (all_turned t y))
      ∙ sym (shown_free p ρ m t (view_of p ρ m) (sym (busy_same p l m same_awake t) ∙ f))
      ∙ sym (view_law p ρ m ok t b)

  turned_host : (t : ℕ) (d : Conf) → t < track_count p → may t ≡ true → ρ ≡ nested_too → has_open_scope p l t ≡ true
      → d ≡ Vect (listed (track_count p) (is_within p m t) (view_of p ρ m)) → Nest t (l t).state backward (stack_of (l t).held) d ≡ view_of p ρ m t
  unfolding nested
  turned_host t d b y w f e =
      ap₂ (λ q S. Nest t q backward (stack_of S) d) (sym (turned_state p ok a l t)) (sym (turned_held p ok a l t))
      ∙ ap₂ (λ x y. Nest t (m t).state x (stack_of (m t).held) y) (sym (facing_turned ρ (m t).mode w (all_turned t y))) e
      ∙ sym (shown_busy p ρ m t (view_of p ρ m) (sym (busy_same p l m same_awake t) ∙ f))
      ∙ sym (view_law p ρ m ok t b)

  turn_step : (k : ℕ) → k < track_count p → going k ≡ true → Step p ρ (frame p ρ l (gone (suc k)) k) (fail_at k) (view_of p ρ m k)
  turn_step k b h =
      let (y, i) = turning_going k h in
      let g : ℕ → NConf = frame p ρ l (gone (suc k)) in
      let q : g k ≡ shown p ρ l k g = frame_law p ρ l ok (gone (suc k)) k b ∙ instead_none (gone (suc k) k) (shown p ρ l k g) (gone_low (suc k) k (omega arith)) in
      elim (look (has_open_scope p l k)) [
        | inr f ↦ subst (λ z. Step p ρ (g k) (fail_at k) z) (turned_free k b y f) (fails_free p ρ ok l n k (g k) i (q ∙ shown_free p ρ l k g f))
        | inl f ↦
            subst (λ z. Step p ρ (g k) (fail_at k) z)
            (turned_host k _ b y (going_host p l ρ k i f) f
            (ap Vect
            (listed_same (track_count p) (is_within p l k) (is_within p m k) g (view_of p ρ m) (λ u c. same_within k u)
            (λ u c y. inner k u c (hosts_higher p ok k u (within_parts p l k u y).0)))))
            (fails_host p ρ ok l n k (g k) _ i f (q ∙ shown_busy p ρ l k g f))
      ]

  -- FAIL at every track that it turns
  pub turning_run : Run p ρ (view p ρ l) (turners p ρ a.society l) (view p ρ m)
  unfolding turners
  turning_run =
      run_same p ρ (falling_run p ρ ok l n going fail_at (view_of p ρ m) going_awake turn_step)
      (frames_view p ρ ok l (gone 0) m (λ t b. same_top t)
      (λ t d b v w e.
      elim (look (going t)) [
        | inl h ↦ same_conf d (view_of p ρ m t) (sym e ∙ gone_some 0 t (omega arith) h)
        | inr h ↦ none-some (gone_none 0 t h) e
      ])
      (λ t b v w e.
      elim (look (going t)) [
        | inl h ↦ none-some e (gone_some 0 t (omega arith) h)
        | inr h ↦ others t h
      ]))

  -- and then the abandonings
  pub signal_run : Run p ρ (view p ρ l) (turners p ρ a.society l ++ abandonings p ρ m) (view p ρ (abandoned p m))
  signal_run = run_then p ρ turning_run (abandoning_run p ρ ok m (turned_nested p ok l n a))
