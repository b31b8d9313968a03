-- A signal and a firing keep a ledger sound, finish apart: abandoning leaves none due, what is forward after a signal is as it was, and
-- what wakes at a deviation is in a first state, which is not final. Assumes nothing.
use mathlib.Core.Path.{◌≡◌, sym, ap, ◌∙◌, subst}
use mathlib.Core.Logic.{inl, inr}
use mathlib.Core.Bool.{true, false}
use mathlib.Core.Option.{none, some}
use Prim.Native.Nat.{ℕ, ◌≤◌}
use native.Mathlib.Omega.{arith}
use lib.ListN.{length}
use lib.Dec.{eqb}
use Rattle.rules.specs.Plan.{Plan, host, is_final}
use Rattle.rules.specs.Ledger.{Configuration, Ledger, is_awake, is_forward, is_undoing}
use Rattle.rules.specs.Scope.{has_open_scope}
use Rattle.rules.specs.Opening.{enter}
use Rattle.rules.specs.Event.{is_closing}
use Rattle.rules.specs.Signal.{abandoned}
use Rattle.rules.specs.Fire.{may_fire, removed, deviates_to, fired}
use Rattle.rules.proofs.Tests.{look, clash, refuted}
use Rattle.rules.proofs.Modes.{forward_awake}
use Rattle.rules.proofs.Acceptance.{Accepted}
use Rattle.rules.proofs.Scopes.{open_at, open_find}
use Rattle.rules.proofs.Closing.{closing_final}
use Rattle.rules.proofs.Abandoning.{undoing_awake, awake_kept, left_kept, abandoned_done}
use Rattle.rules.proofs.Ready.{may_fire_lem}
use Rattle.theory.specs.Seams.{Seams, turned}
use Rattle.theory.proofs.Nesting.{Awake, Nested}
use Rattle.theory.proofs.EnteringNested.{Fate, enters, wakens, stays, fate, arrived_awake, fresh_awake, fresh_state}
use Rattle.theory.proofs.Entries.{Good, good_older, older_length}
use Rattle.theory.proofs.FiringNested.{fired_is, removed_mode, removed_state, removed_here, removed_other, removed_awake, deviates_hosted, deviates_free, removed_nested, fired_still, fired_new}
use Rattle.theory.proofs.SoundParts.{Formed, RootsAwake, Sound}
use Rattle.theory.proofs.Laws.{Laws}
use Rattle.theory.proofs.Turning.{turned_awake, unturned}
use Rattle.theory.proofs.ClosingNested.{closing_open, closing_of}
use Rattle.theory.proofs.SignalNested.{left_together, left_awake, left_root}
use Rattle.theory.proofs.Forming.{enter_formed, turned_formed, abandoned_formed}
use Rattle.rules.specs.declared.Terms.{Terms}

module _ {σ : Seams} (ω : Laws σ) (terms : Terms) (p : Plan) (ok : Accepted p) (l : Ledger) (s : Sound σ terms p l) where
  open σ use {is_finishing}

  abbrev n : Nested p l
  n = s.formed.nested

  module _ (a : σ.Signal) where
    abbrev T : Ledger
    T = turned σ p l a

    pub signal_formed : Formed terms p T
    signal_formed = turned_formed ω terms p ok l s.formed a

    pub signal_root : (t : ℕ) → host p t ≡ none → abandoned p T t ≡ T t
    signal_root t e = left_root p ok T signal_formed.nested t e

    pub signal_roots : RootsAwake p (abandoned p T)
    signal_roots t b e = ap (λ (c : Configuration). is_awake c.mode) (signal_root t e) ∙ turned_awake ω p l a t ∙ s.roots t b e

    -- what is forward after a signal is as it was
    pub track_untouched : (t : ℕ) → is_forward (abandoned p T t).mode ≡ true → abandoned p T t ≡ l t
    track_untouched t f =
        let q = (awake_kept p ok T t (forward_awake (abandoned p T t).mode f)).1 in
        q ∙ unturned ω p l a t (ap (λ (c : Configuration). is_forward c.mode) (sym q) ∙ f)

    pub signal_closing : (z : ℕ) → is_closing p (abandoned p T) z ≡ false
    signal_closing z =
        refuted (is_closing p (abandoned p T) z)
        (λ c.
        let final : (v : ℕ) → host p v ≡ some z → (is_forward (l v).mode ≡ true) × (is_final p (l v).state ≡ true) =
        λ v g.
        let h = closing_final p (abandoned p T) z v c (ok.hosted v z g) g in
        subst (λ (k : Configuration). (is_forward k.mode ≡ true) × (is_final p k.state ≡ true)) (track_untouched v h.0) h in
        let (u, b, e, w) = open_find p (abandoned p T) z (closing_open p (abandoned p T) z c) in
        clash (closing_of p l z (open_at p l z u b e (forward_awake (l u).mode (final u e).0)) final) (s.closing z))

    pub signal_sound : is_finishing p (abandoned p T) ≡ false → Sound σ terms p (abandoned p T)
    signal_sound unfinished =
        record {
          formed = abandoned_formed terms p ok T signal_formed;
          roots = signal_roots;
          closing = signal_closing;
          finish = unfinished;
          abandoning = abandoned_done p ok T;
        }

  module _ (t : ℕ) (may : may_fire p l t ≡ true) where
    undoing : is_undoing (l t).mode ≡ true
    undoing = (may_fire_lem p l t may).1

    free : has_open_scope p l t ≡ false
    free = (may_fire_lem p l t may).3

    pub fired_awake : Awake l t
    fired_awake = undoing_awake (l t).mode undoing

    good : Good p t (l t).held
    good = s.formed.good t

    removed_few : (u : ℕ) → length (removed l t u).held ≤ terms.limit
    removed_few u =
        elim (look (eqb u t)) [
          | inl e ↦ rw (removed_here p l t u e) (let a = older_length (l u).held in let b = s.formed.few u in omega arith)
          | inr e ↦ subst (λ (c : Configuration). length c.held ≤ terms.limit) (sym (removed_other p l t u e)) (s.formed.few u)
        ]

    removed_good : (u : ℕ) → Good p u (removed l t u).held
    removed_good u =
        elim (look (eqb u t)) [
          | inl e ↦ rw (removed_here p l t u e) (good_older p u (l u).held (s.formed.good u))
          | inr e ↦ subst (λ (c : Configuration). Good p u c.held) (sym (removed_other p l t u e)) (s.formed.good u)
        ]

    pub fired_formed : Formed terms p (fired p l t)
    fired_formed =
        subst (Formed terms p) (sym (fired_is p l t))
        (enter_formed terms p ok (removed l t)
        (record { nested = removed_nested p l t ok n good free fired_awake; few = removed_few; good = removed_good }) (deviates_to l t)
        (deviates_free p l t ok n good free fired_awake))

    abbrev X : Ledger
    X = fired p l t

    after : Formed terms p (abandoned p X)
    after = abandoned_formed terms p ok X fired_formed

    pub fired_root : (u : ℕ) → host p u ≡ none → abandoned p X u ≡ X u
    fired_root u e = left_root p ok X fired_formed.nested u e

    pub fired_roots : (u : ℕ) → Awake l u → Awake X u
    fired_roots u a = ap (λ m. is_awake (m u).mode) (fired_is p l t) ∙ go (fate p ok (removed l t) (deviates_to l t) u)
      where
        go : Fate p ok (removed l t) (deviates_to l t) u → is_awake (enter p (deviates_to l t) (removed l t) u).mode ≡ true
        go (enters d k q) = ap (λ c. is_awake c.mode) q ∙ arrived_awake d (removed l t u)
        go (wakens k w q) = ap (λ c. is_awake c.mode) q ∙ fresh_awake p u
        go (stays k w q) = ap (λ c. is_awake c.mode) q ∙ removed_awake p l t u ∙ a

    -- a hosted track that was awake keeps mode and state
    pub hosted_kept : (u h : ℕ) → host p u ≡ some h → Awake l u → ((X u).mode ≡ (l u).mode) × ((X u).state ≡ (l u).state)
    hosted_kept u h e a =
        let q = fired_still p l t ok n good free fired_awake u a (deviates_hosted p l t ok n good free fired_awake u h e) in
        (ap (λ (c : Configuration). c.mode) q ∙ removed_mode p l t u, ap (λ (c : Configuration). c.state) q ∙ removed_state p l t u)

    pub fire_closing : (z : ℕ) → is_closing p (abandoned p X) z ≡ false
    fire_closing z =
        refuted (is_closing p (abandoned p X) z)
        (λ c.
        let (u, b, e, a) = open_find p (abandoned p X) z (closing_open p (abandoned p X) z c) in
        let (k, w) = left_awake p ok X fired_formed.nested u a in
        let final : (v : ℕ) → host p v ≡ some z → (is_forward (X v).mode ≡ true) × (is_final p (X v).state ≡ true) =
        λ v g.
        subst (λ (c : Configuration). (is_forward c.mode ≡ true) × (is_final p c.state ≡ true))
        (left_kept p ok X v (left_together p ok X fired_formed.nested v u z g e ∙ k))
        (closing_final p (abandoned p X) z v c (ok.hosted v z g) g) in
        elim (look (is_awake (l u).mode)) [
          | inr y ↦
              clash (final u e).1
              (ap (is_final p) (ap (λ (c : Configuration). c.state) (fired_new p l t ok n good free fired_awake u y w) ∙ fresh_state p u)
              ∙ ok.first_open u b)
          | inl y ↦
              clash
              (closing_of p l z (open_at p l z u b e y)
              (λ v g.
              let (i, j) = hosted_kept v z g (n.whole v u z g e ∙ y) in
              let (x, r) = final v g in
              (ap is_forward (sym i) ∙ x, ap (is_final p) (sym j) ∙ r)))
              (s.closing z)
        ])

    pub fire_sound : is_finishing p (abandoned p X) ≡ false → Sound σ terms p (abandoned p X)
    fire_sound unfinished =
        record {
          formed = after;
          roots = λ u b e. ap (λ (c : Configuration). is_awake c.mode) (fired_root u e) ∙ fired_roots u (s.roots u b e);
          closing = fire_closing;
          finish = unfinished;
          abandoning = abandoned_done p ok X;
        }
