-- Where no settling is due nothing is left to settle: no rule applies to the view whose label is τ. A calm configuration has no deviation on top
-- of its stack, and where it is nested its vector is neither terminated nor compensated, and calm itself; by the rules one
-- after the other it takes no silent step; and such a view is calm. Assumes nothing.
use mathlib.Core.Path.{◌≡◌, refl, sym, ap, ◌∙◌}
use mathlib.Core.Logic.{inl, inr}
use mathlib.Core.Bool.{Bool, true, false, not, ◌&&◌, ◌||◌}
use mathlib.Core.List.{List, [], ◌∷◌, ◌++◌}
use Prim.Native.Nat.{ℕ, ◌<◌}
use borrow.Author.Tests.{not-true}
use Rattle.rules.specs.Plan.{Plan, track_count, owner}
use Rattle.rules.specs.Ledger.{Entry, Ledger}
use Rattle.rules.specs.Scope.{has_open_scope}
use Rattle.rules.specs.Event.{is_closing}
use Rattle.rules.specs.Signal.{is_abandoning}
use Rattle.rules.proofs.Tests.{look, clash, and_holds}
use Rattle.rules.proofs.Acceptance.{Accepted}
use Rattle.rules.proofs.Abandoning.{hosts_higher}
use Rattle.theory.proofs.Nesting.{Awake, Nested, state_of}
use Rattle.automaton.specs.Listing.{listed, every_of}
use Rattle.automaton.specs.Configuration.{Direction, forward, backward, Comp, Dev, Stack, NConf, Basic, Nest, Conf, end, next, Vect, has_terminated, has_compensated, push_comp}
use Rattle.automaton.specs.Semantics.{FailReading, τ, Act, trace, SUC, FAIL, FAILNEST, COMP, DEV, NESTSUC, NESTFAIL, NESTCOMP, NEST, VStep, VECT, Settled}
use Rattle.automaton.specs.StepTests.{is_mute}
use Rattle.automaton.specs.View.{stack_of, is_within, basic, nested, view_of, is_on_top, view, scope_view}
use Rattle.automaton.proofs.Listings.{listed_every}
use Rattle.automaton.proofs.Frames.{down, within_parts, top_parts, shown_free, shown_busy, view_law}
use Rattle.automaton.proofs.Terminated.{busy_open, closing_terminated, abandoning_compensated}

deviates : Stack → Bool
deviates [] = false
deviates (Comp c ∷ S) = false
deviates (Dev d ∷ S) = true

module _ (p : Plan) (ρ : FailReading) where
  mutual
    calm : NConf → Bool
    calm (Basic A q r S) = not (deviates S)
    calm (Nest A q r S c) = not (has_terminated p c) && not (has_compensated p c) && calms c

    calms : Conf → Bool
    calms end = true
    calms (next n c) = calm n && calms c

  calms_of : (xs : List NConf) → calms (Vect xs) ≡ every_of calm xs
  unfolding calms Vect every_of
  calms_of [] = refl
  calms_of (x ∷ xs) = ap (λ b. calm x && b) (calms_of xs)

  member_calm : (α β : List NConf) (n : NConf) → calms (Vect (α ++ (n ∷ β))) ≡ true → calm n ≡ true
  unfolding calms Vect
  member_calm [] β n h = (and_holds (calm n) (calms (Vect β)) h).0
  member_calm (x ∷ α) β n h = member_calm α β n (and_holds (calm x) (calms (Vect (α ++ (n ∷ β)))) h).1

  record Waits (c : Conf) : Type 0 where
    unterminated : has_terminated p c ≡ false
    uncompensated : has_compensated p c ≡ false
    inner : calms c ≡ true

  calm_nest : (A q : ℕ) (r : Direction) (S : Stack) (c : Conf) → calm (Nest A q r S c) ≡ true → Waits c
  unfolding calm
  calm_nest A q r S c h =
      let (x, d) = and_holds (not (has_terminated p c) && not (has_compensated p c)) (calms c) h in
      let (t, u) = and_holds (not (has_terminated p c)) (not (has_compensated p c)) x in
      record { unterminated = not-true (has_terminated p c) t; uncompensated = not-true (has_compensated p c) u; inner = d }

  neither : (a b : Bool) → a ≡ false → b ≡ false → (a || b) ≡ false
  neither a b h k = rw (h, k)

  no_step : {c d : Conf} {a : Act} → VStep p ρ c a d → calms c ≡ true → trace a ≡ τ → ⊥
  unfolding calm deviates trace is_mute
  no_step s =
      elim s as (λ n a m x. calm n ≡ true → trace a ≡ τ → ⊥) (λ c a d x. calms c ≡ true → trace a ≡ τ → ⊥) [
        | SUC A q i x S b e f g m y ↦ λ k h. clash (ap is_mute h) refl
        | FAIL A q S ↦ λ k h. clash (ap is_mute h) refl
        | FAILNEST A q S c w ↦ λ k h. clash (ap is_mute h) refl
        | COMP A q c S ↦ λ k h. clash (ap is_mute h) refl
        | DEV A q d S ↦ λ k h. clash k refl
        | NESTSUC A q S c t ↦ λ k h. clash t (calm_nest A q forward S c k).unterminated
        | NESTFAIL A q S c t ↦ λ k h. clash t (calm_nest A q forward S c k).uncompensated
        | NESTCOMP A q S c t ↦ λ k h. let w = calm_nest A q backward S c k in clash t (neither (has_terminated p c) (has_compensated p c) w.unterminated w.uncompensated)
        | NEST A q r S {c = c} (s → ih) ↦ λ k h. ih (calm_nest A q r S c k).inner h
        | VECT α β {n = n} (s → ih) ↦ λ k h. ih (member_calm α β n k) h
      ]

  calm_settled : (c : Conf) → calms c ≡ true → Settled p ρ c
  calm_settled c k a d s h = no_step s k h

  stack_calm : (es : List Entry) → deviates (stack_of es) ≡ false
  unfolding deviates stack_of push_comp
  stack_calm [] = refl
  stack_calm (e ∷ es) = refl

  basic_calm : (l : Ledger) (t : ℕ) → calm (basic p l t) ≡ true
  unfolding calm basic
  basic_calm l t = ap not (stack_calm (l t).held)

  nested_calm : (l : Ledger) (t : ℕ) (c : Conf) → has_terminated p c ≡ false → has_compensated p c ≡ false → calms c ≡ true → calm (nested p ρ l t c) ≡ true
  unfolding calm nested
  nested_calm l t c h k i = rw (h, k, i)

  module _ (ok : Accepted p) (l : Ledger) (n : Nested p l) (closing : (s : ℕ) → is_closing p l s ≡ false) (abandoning : (s : ℕ) → is_abandoning p l s ≡ false) where
    view_calm : (t : ℕ) → t < track_count p → Awake l t → calm (view_of p ρ l t) ≡ true
    unfolding scope_view
    view_calm =
        down (track_count p) (λ t. Awake l t → calm (view_of p ρ l t) ≡ true)
        (λ t b ih a.
        ap calm (view_law p ρ l ok t b)
        ∙ elim (look (has_open_scope p l t)) [
          | inr f ↦ ap calm (shown_free p ρ l t (view_of p ρ l) f) ∙ basic_calm l t
          | inl f ↦
              let o = busy_open p ok l n t f in
              let w : owner p (l t).state ≡ t = (state_of p t (l t).state (n.own t a)).1 in
              ap calm (shown_busy p ρ l t (view_of p ρ l) f)
              ∙ nested_calm l t (scope_view p ρ l t)
              (ap (λ x. has_terminated p (scope_view p ρ l x)) (sym w) ∙ sym (closing_terminated p ρ ok l n (l t).state o) ∙ closing (l t).state)
              (ap (λ x. has_compensated p (scope_view p ρ l x)) (sym w) ∙ sym (abandoning_compensated p ρ ok l n (l t).state o) ∙ abandoning (l t).state)
              (calms_of (listed (track_count p) (is_within p l t) (view_of p ρ l))
              ∙ listed_every calm (track_count p) (is_within p l t) (view_of p ρ l)
              (λ u c y. let (i, v) = within_parts p l t u y in ih u c (hosts_higher p ok t u i) v))
        ])

    view_calms : calms (view p ρ l) ≡ true
    unfolding view
    view_calms =
        calms_of (listed (track_count p) (is_on_top p l) (view_of p ρ l))
        ∙ listed_every calm (track_count p) (is_on_top p l) (view_of p ρ l) (λ t b y. view_calm t b (top_parts p l t y).1)

    -- no silent rule applies
    pub view_settled : Settled p ρ (view p ρ l)
    view_settled = calm_settled (view p ρ l) view_calms
