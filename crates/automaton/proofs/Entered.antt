-- Entering a state is the report's goto: the track is forward in it, and the tracks that wake with it are those of its scope, each by goto
-- on its first state. From the highest track down. So begin is init. Assumes nothing.
use mathlib.Core.Path.{◌≡◌, refl, sym, ap, ap₂, ◌∙◌, subst}
use mathlib.Core.Logic.{inl, inr}
use mathlib.Core.Bool.{true, false, cond, or-false, ◌&&◌, ◌||◌}
use mathlib.Core.List.{List, []}
use mathlib.Core.Option.{Option, none, some}
use Prim.Native.Nat.{ℕ, zero, suc, ◌+◌, ◌<◌, ◌≤◌}
use native.Mathlib.Omega.{arith}
use lib.Dec.{eqb}
use borrow.Author.Tests.{eq-eqb}
use Rattle.rules.specs.Setting.{main_terms}
use Rattle.rules.specs.declared.Mode.{Mode}
use Rattle.rules.specs.declared.Mode.TheVariants.{Forward}
use Rattle.rules.specs.Plan.{Plan, track_count, host, owner, is_root, is_state_of, is_in, is_hosted_by, is_hosting, first_state}
use Rattle.rules.specs.Ledger.{Entry, Configuration, Ledger, is_awake, is_forward, sleeping}
use Rattle.rules.specs.Scope.{has_open_scope}
use Rattle.rules.specs.Opening.{fresh, wakes, enter, roots_first, begun}
use Rattle.rules.proofs.Tests.{look, look_option, clash, refuted, and_holds, and_both}
use Rattle.rules.proofs.Folds.{some_same}
use Rattle.rules.proofs.Acceptance.{Accepted}
use Rattle.rules.proofs.Scopes.{in_host, host_in, by_host, host_by, root_none}
use Rattle.rules.proofs.Opening.{wakes_entered, wakes_woken, enter_to, enter_woken, roots_to, begun_root}
use Rattle.rules.proofs.Modes.{forward_awake, is_forward_lem}
use Rattle.theory.proofs.Nesting.{Awake, Nested, state_of}
use Rattle.theory.proofs.EnteringNested.{Enterable, fresh_awake, woken_asleep, awake_or, enter_nested}
use Rattle.theory.proofs.SoundBegin.{all_asleep_lem, asleep_formed, roots_free}
use Rattle.automaton.specs.Listing.{listed}
use Rattle.automaton.specs.Configuration.{forward, Stack, Basic, Nest, Vect, init_by, goto_to, goto, init}
use Rattle.automaton.specs.Semantics.{FailReading, basic_alone, nested_too}
use Rattle.automaton.specs.View.{stack_of, direction_of, facing, is_within, basic, nested, shown, view_of, is_on_top, view}
use Rattle.automaton.proofs.Listings.{alike, listed_same}
use Rattle.automaton.proofs.Frames.{down, within_parts, within_of, view_law}

-- a forward host is shown forward in either reading
pub facing_forward : (ρ : FailReading) (m : Mode) → is_forward m ≡ true → facing ρ m ≡ forward
unfolding facing direction_of
facing_forward basic_alone m h = refl
facing_forward nested_too m h = rw h

module _ (p : Plan) (ok : Accepted p) where
  in_owner : (q u : ℕ) → is_in p q u ≡ true → is_hosted_by p (owner p q) u ≡ true
  in_owner q u i = host_by p u q (in_host p q u i)

  -- one more level changes nothing once all are looked at
  goto_more : (n A q : ℕ) (S : Stack) → A < track_count p → track_count p ≤ n + A → owner p q ≡ A → goto_to p n A q S ≡ goto_to p (suc n) A q S
  unfolding goto_to init_by
  goto_more zero A q S b h e = absurd (omega arith)
  goto_more (suc n) A q S b h e =
      ap (λ x. cond (is_hosting p q) (Nest A q forward S (Vect x)) (Basic A q forward S))
      (listed_same (track_count p) (is_in p q) (is_in p q) (λ B. goto_to p n B (first_state p B) []) (λ B. goto_to p (suc n) B (first_state p B) []) (λ k c. refl)
      (λ B c i.
      let d = ok.lower B q (in_host p q B i) in
      goto_more n B (first_state p B) [] c (let z : owner p q ≡ A = e in omega arith) (state_of p B (first_state p B) (ok.first_own B c)).1))

  goto_law : (A q : ℕ) (S : Stack) → is_state_of p A q ≡ true → A < track_count p
      → goto p A q S ≡ cond (is_hosting p q) (Nest A q forward S (init p (is_in p q))) (Basic A q forward S)
  unfolding goto init goto_to
  goto_law A q S h b = goto_more (track_count p) A q S b (omega arith) (state_of p A q h).1

  -- a track forward in a state, with that state's scope open and all in it at the start
  module _ (ρ : FailReading) (m : Ledger) (t q : ℕ) (es : List Entry) (b : t < track_count p) (own : is_state_of p t q ≡ true)
      (at : m t ≡ record { mode = Forward; state = q; held = es })
      (same : (u : ℕ) → u < track_count p → is_within p m t u ≡ is_in p q u)
      (inner : (u : ℕ) → u < track_count p → is_in p q u ≡ true → view_of p ρ m u ≡ goto p u (first_state p u) []) where
    pub opened : view_of p ρ m t ≡ goto p t q (stack_of es)
    unfolding shown nested basic init init_by direction_of is_forward
    opened =
        view_law p ρ m ok t b
        ∙ ap (λ (c : Configuration). cond (has_open_scope p m t) (Nest t c.state (facing ρ c.mode) (stack_of c.held) (Vect (listed (track_count p) (is_within p m t) (view_of p ρ m))))
        (Basic t c.state (direction_of (is_forward c.mode)) (stack_of c.held))) at
        ∙ ap (λ d. cond (has_open_scope p m t) (Nest t q d (stack_of es) (Vect (listed (track_count p) (is_within p m t) (view_of p ρ m)))) (Basic t q forward (stack_of es))) (facing_forward ρ Forward refl)
        ∙ ap₂ (λ x y. cond x (Nest t q forward (stack_of es) (Vect y)) (Basic t q forward (stack_of es))) busy
        (listed_same (track_count p) (is_within p m t) (is_in p q) (view_of p ρ m) (λ A. goto p A (first_state p A) []) same (λ k c y. inner k c (sym (same k c) ∙ y)))
        ∙ sym (goto_law t q (stack_of es) own b)
      where
        busy : has_open_scope p m t ≡ is_hosting p q
        busy = unfold has_open_scope is_hosting in some_same (track_count p) (λ u. is_hosted_by p t u && is_awake (m u).mode) (is_in p q) (λ u c. within u c)
          where
            within : (u : ℕ) → u < track_count p → (is_hosted_by p t u && is_awake (m u).mode) ≡ is_in p q u
            within u c = unfold is_within in same u c

  module _ (l : Ledger) (n : Nested p l) (to : ℕ → Option ℕ) (g : Enterable p l to) where
    abbrev m : Ledger
    m = enter p to l

    nm : Nested p m
    nm = enter_nested p ok l to n g

    -- what wakes enters nothing else
    woken_none : (u : ℕ) → wakes p to u ≡ true → (h : ℕ) → host p u ≡ some h → to u ≡ none
    woken_none u w h e =
        elim (look_option (to u)) [
          | inl k ↦ k
          | inr k ↦ clash (forward_awake (l u).mode (is_forward_lem (l u).mode (g.forward u k.0 h k.1 e))) (woken_asleep p ok l to n g u w)
        ]

    woken_awake : (u h : ℕ) → wakes p to u ≡ true → host p u ≡ some h → Awake m u
    woken_awake u h w e = ap (λ (c : Configuration). is_awake c.mode) (enter_woken p ok to l u (woken_none u w h e) w) ∙ fresh_awake p u

    same_scope : (t q : ℕ) → is_state_of p t q ≡ true → (m t).state ≡ q → ((u : ℕ) → is_in p q u ≡ true → wakes p to u ≡ true)
        → (u : ℕ) → u < track_count p → is_within p m t u ≡ is_in p q u
    same_scope t q own st w u b =
        alike (is_within p m t u) (is_in p q u)
        (λ h.
        let (i, a) = within_parts p m t u h in
        let (k, e, o) = by_host p t u i in
        let z : k ≡ q = sym (nm.hosted u k a e).0 ∙ ap (λ x. (m x).state) o ∙ st in
        host_in p q u (e ∙ ap some z))
        (λ i.
        let e = in_host p q u i in
        within_of p m t u (subst (λ x. is_hosted_by p x u ≡ true) (state_of p t q own).1 (in_owner q u i)) (woken_awake u q (w u i) e))

    pub record Goes (ρ : FailReading) (t : ℕ) : Type 0 where
      pub enters : (q : ℕ) → to t ≡ some q → view_of p ρ m t ≡ goto p t q (stack_of (l t).held)
      pub wakens : to t ≡ none → wakes p to t ≡ true → view_of p ρ m t ≡ goto p t (first_state p t) []

    pub goes : (ρ : FailReading) (t : ℕ) → t < track_count p → Goes ρ t
    unfolding fresh stack_of
    goes ρ =
        down (track_count p) (Goes ρ)
        (λ t b ih.
        record {
          enters =
              λ q e.
              let at = enter_to p ok to l t q e in
              let own = g.own t q e in
              let ow = (state_of p t q own).1 in
              let wake : (u : ℕ) → is_in p q u ≡ true → wakes p to u ≡ true =
              λ u i. wakes_entered p ok to u q q (in_host p q u i) (ap to ow ∙ e) ∙ eq-eqb q q refl in
              opened ρ m t q (l t).held b own at (same_scope t q own (ap (λ (c : Configuration). c.state) at) wake)
              (λ u c i. let f = in_host p q u i in (ih u c (subst (λ x. x < u) ow (ok.lower u q f))).wakens (woken_none u (wake u i) q f) (wake u i));
          wakens =
              λ e w.
              let q = first_state p t in
              let at = enter_woken p ok to l t e w in
              let own = ok.first_own t b in
              let ow : owner p q ≡ t = (state_of p t q own).1 in
              let wake : (u : ℕ) → is_in p q u ≡ true → wakes p to u ≡ true =
              λ u i.
              wakes_woken p ok to u q (in_host p q u i) (ap to ow ∙ e)
              ∙ and_both (wakes p to (owner p q)) (eqb q (first_state p (owner p q))) (ap (wakes p to) ow ∙ w) (eq-eqb q (first_state p (owner p q)) (ap (first_state p) (sym ow))) in
              opened ρ m t q [] b own at (same_scope t q own (ap (λ (c : Configuration). c.state) at) wake)
              (λ u c i. let f = in_host p q u i in (ih u c (subst (λ x. x < u) ow (ok.lower u q f))).wakens (woken_none u (wake u i) q f) (wake u i));
        })

    -- a track that neither enters a state nor wakes keeps the tracks within its open scope
    pub stays_within : (t : ℕ) → Awake l t → to t ≡ none → (u : ℕ) → is_within p l t u ≡ is_within p m t u
    unfolding is_within
    stays_within t a e u =
        elim (look (is_hosted_by p t u)) [
          | inr i ↦ rw i
          | inl i ↦
              let (h, f, o) = by_host p t u i in
              let still : wakes p to u ≡ false =
              wakes_woken p ok to u h f (ap to o ∙ e)
              ∙ ap (λ x. x && eqb h (first_state p (owner p h)))
              (ap (wakes p to) o ∙ refuted (wakes p to t) (λ w. clash a (woken_asleep p ok l to n g t w))) in
              ap (λ x. is_hosted_by p t u && x) (sym (awake_or p ok l to n g u h f ∙ ap (λ x. is_awake (l u).mode || x) still ∙ or-false (is_awake (l u).mode)))
        ]

  -- the view of begin's ledger is the initial configuration of the vector of roots
  pub begin_init : (ρ : FailReading) → view p ρ (begun p) ≡ init p (is_root p)
  unfolding view init init_by is_on_top sleeping
  begin_init ρ =
      ap Vect
      (listed_same (track_count p) (is_on_top p (begun p)) (is_root p) (view_of p ρ (begun p)) (λ A. goto p A (first_state p A) [])
      (λ t b.
      alike (is_on_top p (begun p) t) (is_root p t) (λ h. (and_holds (is_root p t) (is_awake (begun p t).mode) h).0)
      (λ r. and_both (is_root p t) (is_awake (begun p t).mode) r (ap (λ (c : Configuration). is_awake c.mode) (begun_root p ok t b (root_none p t r)) ∙ fresh_awake p t)))
      (λ t b h.
      let e = root_none p t (and_holds (is_root p t) (is_awake (begun p t).mode) h).0 in
      (unfold begun stack_of in (goes (all_asleep_lem main_terms p ok) (asleep_formed main_terms p ok).nested (roots_first p) (roots_free main_terms p ok) ρ t b).enters (first_state p t) (roots_to p ok t b e))))
