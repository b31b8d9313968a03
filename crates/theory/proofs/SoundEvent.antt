-- An event that is not refused keeps a ledger sound, finish apart: 21 leaves room for each entry, closing leaves none due, and undoing
-- tracks, which alone may be abandoned, are left as they were. Assumes nothing.
use mathlib.Core.Path.{◌≡◌, sym, ap, ◌∙◌, subst}
use mathlib.Core.Logic.{inl, inr}
use mathlib.Core.Bool.{true, false, not, ◌||◌}
use mathlib.Core.Option.{some}
use Prim.Native.Nat.{ℕ, ◌<◌, ◌≤◌}
use lib.ListN.{length}
use lib.Dec.{eqb}
use Rattle.rules.specs.Plan.{Plan, no_state, host, owner, transition, replacement, is_final, every_in}
use Rattle.rules.specs.Ledger.{Configuration, Ledger, is_awake, is_undoing, is_empty}
use Rattle.rules.specs.Scope.{is_open, has_open_scope, is_bare}
use Rattle.rules.specs.Opening.{enter}
use Rattle.rules.specs.Event.{has_code, is_closing, is_closed, closes_scope, is_replaced}
use Rattle.rules.specs.Signal.{is_abandoning}
use Rattle.rules.proofs.Tests.{look, look_option, clash, refuted, and_both, or_right}
use Rattle.rules.proofs.Acceptance.{Accepted}
use Rattle.rules.proofs.Scopes.{in_host, every_in_of, open_at, open_find, busy_at, busy_find}
use Rattle.rules.proofs.Closing.{closing_final, closed_root}
use Rattle.rules.proofs.Abandoning.{bare_parts}
use Rattle.theory.specs.Seams.{Seams, installed, recorded, goes}
use Rattle.theory.proofs.Nesting.{Awake, Nested, state_of, open_host}
use Rattle.theory.proofs.EnteringNested.{Fate, enters, wakens, stays, fate, arrived_awake, fresh_awake, fresh_state}
use Rattle.theory.proofs.Entries.{Good, may_none, may_own}
use Rattle.theory.proofs.SoundParts.{Formed, RootsAwake, sleeping_held, sleeping_few, sleeping_good}
use Rattle.theory.proofs.Laws.{Laws, Spare}
use Rattle.theory.proofs.Installing.{installed_held, by_none, by_some, install_fits, good_install}
use Rattle.theory.proofs.MovingNested.{moved_is, recorded_awake, mover_awake, mover_is, recorded_nested, goes_free, moved_nested, moved_busy, moved_undoing, moved_undoing_back, moved_new, has_code_lem}
use Rattle.theory.proofs.ClosingNested.{closing_open, closes_known, closed_nested, closed_undoing, closed_undoing_back, closed_alike}
use Rattle.theory.proofs.Forming.{enter_formed}
use Rattle.theory.proofs.SoundBegin.{abandoning_open, abandoning_bare}
use Rattle.rules.specs.declared.Terms.{Terms}

-- bare, put together
pub bare_of : (p : Plan) (l : Ledger) (t : ℕ) → is_undoing (l t).mode ≡ true → is_empty (l t).held ≡ true → has_open_scope p l t ≡ false → is_bare p l t ≡ true
unfolding is_bare
bare_of p l t u e f = rw (u, e, f)

pub abandoning_of : (p : Plan) (l : Ledger) (s : ℕ) → is_open p l s ≡ true → ((t : ℕ) → host p t ≡ some s → is_bare p l t ≡ true) → is_abandoning p l s ≡ true
unfolding is_abandoning
abandoning_of p l s o f =
    and_both (is_open p l s) (every_in p s (is_bare p l)) o (every_in_of p s (is_bare p l) (λ t b i. f t (in_host p s t i)))

module _ {σ : Seams} (ω : Laws σ) (terms : Terms) (p : Plan) (ok : Accepted p) (l : Ledger) (f : Formed terms p l) (e : σ.Event) where
  open σ use {move, moved, entry, closed}

  abbrev m : Ledger
  m = moved p l e

  abbrev n : Nested p l
  n = f.nested

  m_nested : Nested p m
  m_nested = moved_nested ω p l e ok n

  -- a scope that closes was open before the call: else its tracks would be in their first states
  pub was_open : (s : ℕ) → is_closing p m s ≡ true → is_open p l s ≡ true
  was_open s c =
      let (u, b, h, a) = open_find p m s (closing_open p m s c) in
      elim (look (is_awake (l u).mode)) [
        | inl w ↦ open_at p l s u b h w
        | inr w ↦
            clash (closing_final p m s u c b h).1
            (ap (is_final p) (ap (λ k. k.state) (moved_new ω p l e ok n u w a) ∙ fresh_state p u) ∙ ok.first_open u b)
      ]

  -- so its host's track had an open scope, and did not move
  pub closes_kept : (t : ℕ) → closes_scope p m t ≡ true → Awake l t × (has_open_scope p l t ≡ true) × (m t ≡ l t)
  closes_kept t d =
      let (a, c) = closes_known p m t d in
      let own : owner p (m t).state ≡ t = (state_of p t (m t).state (m_nested.own t a)).1 in
      let (b, o, q) = open_host p ok l n (m t).state (was_open (m t).state c) in
      let b' = subst (Awake l) own b in
      let o' = subst (λ x. has_open_scope p l x ≡ true) own o in
      (b', o', moved_busy ω p l e ok n t b' o')

  module _ (spare : Spare σ terms p l e) where
    recorded_few : (t : ℕ) → length (recorded σ p l e t).held ≤ terms.limit
    recorded_few t =
        elim (look_option (move p l e t)) [
          | inl h ↦ rw (by_none (entry e) p (move p l e t) (l t) h) (f.few t)
          | inr h ↦
              let x = h.0 in
              rw (by_some (entry e) p (move p l e t) (l t) x h.1)
              (install_fits (entry e) terms (transition p x).code (transition p x).deviation (l t).held (f.few t)
              (λ z.
              spare t (n.below t (mover_awake ω p l e t x h.1))
              (ap (λ b. b || is_replaced p m t) (has_code_lem p (move p l e t) x h.1 ∙ ap not z))))
        ]

    recorded_good : (t : ℕ) → Good p t (recorded σ p l e t).held
    recorded_good t =
        elim (look_option (move p l e t)) [
          | inl h ↦ rw (by_none (entry e) p (move p l e t) (l t) h) (f.good t)
          | inr h ↦
              let x = h.0 in
              rw (by_some (entry e) p (move p l e t) (l t) x h.1)
              (good_install ω p e t (transition p x).code (transition p x).deviation (l t).held
              (λ z. may_own p ok x t (ω.move_takes p l e t x h.1).real (mover_is ω p l e ok n t x h.1)) (f.good t))
        ]

    recorded_formed : Formed terms p (recorded σ p l e)
    recorded_formed = record { nested = recorded_nested ω p l e ok n; few = recorded_few; good = recorded_good }

    pub moved_formed : Formed terms p m
    moved_formed =
        subst (Formed terms p) (sym (moved_is ω p l e)) (enter_formed terms p ok (recorded σ p l e) recorded_formed (goes σ p l e) (goes_free ω p l e ok n))

    -- the host's track has room for the replacement
    replaced_few : (t : ℕ) → closes_scope p m t ≡ true → length (installed (entry e) (replacement p (m t).state) no_state (m t)).held ≤ terms.limit
    unfolding is_replaced
    replaced_few t d =
        let (a, o, q) = closes_kept t d in
        rw (installed_held (entry e) (replacement p (m t).state) no_state (m t))
        (install_fits (entry e) terms (replacement p (m t).state) no_state (m t).held (moved_formed.few t)
        (λ z.
        subst (λ (c : Configuration). length c.held < terms.limit) (sym q)
        (spare t (n.below t a)
        (or_right (has_code p (move p l e t)) (is_replaced p m t)
        (and_both (closes_scope p m t) (not (eqb (replacement p (m t).state) 0)) d (ap not z))))))

    replaced_good : (t : ℕ) → Good p t (installed (entry e) (replacement p (m t).state) no_state (m t)).held
    replaced_good t =
        rw (installed_held (entry e) (replacement p (m t).state) no_state (m t))
        (good_install ω p e t (replacement p (m t).state) no_state (m t).held (λ z. may_none p t) (moved_formed.good t))

    pub event_formed : Formed terms p (closed p m e)
    event_formed =
        record {
          nested = closed_nested ω p ok m m_nested e;
          few =
              λ t.
              elim (look (is_closed p m t)) [
                | inl c ↦ sleeping_few terms p (closed p m e t) (ap (λ (k : Configuration). k.held) (ω.closed_asleep p m e t c) ∙ sleeping_held)
                | inr c ↦
                    elim (look (closes_scope p m t)) [
                      | inl d ↦ subst (λ (k : Configuration). length k.held ≤ terms.limit) (sym (ω.closed_replaced p m e t c d)) (replaced_few t d)
                      | inr d ↦ subst (λ (k : Configuration). length k.held ≤ terms.limit) (sym (ω.closed_kept p m e t c d)) (moved_formed.few t)
                    ]
              ];
          good =
              λ t.
              elim (look (is_closed p m t)) [
                | inl c ↦ sleeping_good terms p t (closed p m e t) (ap (λ (k : Configuration). k.held) (ω.closed_asleep p m e t c) ∙ sleeping_held)
                | inr c ↦
                    elim (look (closes_scope p m t)) [
                      | inl d ↦ subst (λ (k : Configuration). Good p t k.held) (sym (ω.closed_replaced p m e t c d)) (replaced_good t)
                      | inr d ↦ subst (λ (k : Configuration). Good p t k.held) (sym (ω.closed_kept p m e t c d)) (moved_formed.good t)
                    ]
              ];
        }

  pub event_roots : RootsAwake p l → RootsAwake p (closed p m e)
  event_roots r t b h = ap is_awake (closed_alike ω p m e t (closed_root p m t h)).0 ∙ ap (λ x. is_awake (x t).mode) (moved_is ω p l e) ∙ go (fate p ok (recorded σ p l e) (goes σ p l e) t)
    where
      go : Fate p ok (recorded σ p l e) (goes σ p l e) t → is_awake (enter p (goes σ p l e) (recorded σ p l e) t).mode ≡ true
      go (enters s k q) = ap (λ c. is_awake c.mode) q ∙ arrived_awake s (recorded σ p l e t)
      go (wakens k w q) = ap (λ c. is_awake c.mode) q ∙ fresh_awake p t
      go (stays k w q) = ap (λ c. is_awake c.mode) q ∙ recorded_awake ω p l e t ∙ r t b h

  -- undoing tracks are left as they were, and no others are undoing
  pub event_undoing : (t : ℕ) → is_undoing (l t).mode ≡ true → closed p m e t ≡ l t
  event_undoing t u =
      let q = moved_undoing ω p l e ok n t u in
      closed_undoing ω p ok m m_nested e t (ap (λ (c : Configuration). is_undoing c.mode) q ∙ u) ∙ q

  pub event_undoing_back : (t : ℕ) → is_undoing (closed p m e t).mode ≡ true → closed p m e t ≡ l t
  event_undoing_back t u =
      let q = closed_undoing_back ω p ok m m_nested e t u in
      q ∙ moved_undoing_back ω p l e ok n t (ap (λ (c : Configuration). is_undoing c.mode) (sym q) ∙ u)

  -- so abandoning is due afterwards only where it was before
  pub event_abandoning : ((s : ℕ) → is_abandoning p l s ≡ false) → (s : ℕ) → is_abandoning p (closed p m e) s ≡ false
  event_abandoning settled s =
      refuted (is_abandoning p (closed p m e) s)
      (λ h.
      let bare : (t : ℕ) → host p t ≡ some s → (is_undoing (closed p m e t).mode ≡ true) × (is_empty (closed p m e t).held ≡ true) × (has_open_scope p (closed p m e) t ≡ false) =
      λ t k. bare_parts p ok (closed p m e) t (abandoning_bare p ok (closed p m e) s t h k) in
      let (u, b, k, a) = open_find p (closed p m e) s (abandoning_open p (closed p m e) s h) in
      let q = event_undoing_back u (bare u k).0 in
      clash (abandoning_of p l s (open_at p l s u b k (ap (λ (c : Configuration). is_awake c.mode) (sym q) ∙ a)) (λ t g. was_bare t (bare t g))) (settled s))
    where
      was_bare : (t : ℕ) → (is_undoing (closed p m e t).mode ≡ true) × (is_empty (closed p m e t).held ≡ true) × (has_open_scope p (closed p m e) t ≡ false) → is_bare p l t ≡ true
      was_bare t r =
          let q = event_undoing_back t r.0 in
          let u : is_undoing (l t).mode ≡ true = ap (λ (c : Configuration). is_undoing c.mode) (sym q) ∙ r.0 in
          bare_of p l t u (ap (λ (c : Configuration). is_empty c.held) (sym q) ∙ r.1)
          (refuted (has_open_scope p l t)
          (λ o.
          let (v, h, b, k, w, a) = busy_find p l t o in
          let y : is_undoing (l v).mode ≡ true = ap is_undoing (sym (n.hosted v h a k).1 ∙ ap (λ x. (l x).mode) w) ∙ u in
          let z = event_undoing v y in
          clash
          (subst (λ x. has_open_scope p (closed p m e) x ≡ true) w
          (busy_at p (closed p m e) v h b k (ap (λ (c : Configuration). is_awake c.mode) z ∙ a)))
          r.2))
