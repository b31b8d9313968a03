-- Progress: a track that is undoing and holds an entry, or has an open scope, may be fired, or its scope, to which abandoning is not due,
-- has a track of which the same holds; and that track's number is higher. Assumes nothing.
use mathlib.Core.Path.{◌≡◌, sym, ap, ◌∙◌, subst}
use mathlib.Core.Logic.{◌⊎◌, inl, inr}
use mathlib.Core.Bool.{true, false, not}
use Prim.Native.Nat.{ℕ, zero, suc, ◌+◌, ◌<◌, ◌≤◌}
use native.Mathlib.Omega.{arith}
use borrow.Author.Tests.{not-true}
use Rattle.rules.specs.declared.Mode.TheVariants.{Undoing}
use Rattle.rules.specs.declared.Terms.{Terms}
use Rattle.rules.specs.Plan.{Plan, track_count, some_in}
use Rattle.rules.specs.Ledger.{Ledger, is_undoing, is_empty}
use Rattle.rules.specs.Scope.{has_open_scope, is_bare}
use Rattle.rules.specs.Fire.{may_fire}
use Rattle.rules.proofs.Tests.{look, clash}
use Rattle.rules.proofs.Modes.{is_undoing_lem}
use Rattle.rules.proofs.Acceptance.{Accepted}
use Rattle.rules.proofs.Scopes.{in_host, host_in, some_in_at, some_in_find, open_at, busy_find}
use Rattle.rules.proofs.Abandoning.{undoing_awake}
use Rattle.rules.proofs.Ready.{fire_may}
use Rattle.theory.specs.Seams.{Seams}
use Rattle.theory.proofs.Nesting.{Awake, Nested}
use Rattle.theory.proofs.SoundParts.{Sound}
use Rattle.theory.proofs.SoundEvent.{bare_of, abandoning_of}

module _ {σ : Seams} (terms : Terms) (p : Plan) (ok : Accepted p) (l : Ledger) (s : Sound σ terms p l) where
  abbrev n : Nested p l
  n = s.formed.nested

  -- the scope below an undoing track has a track that is not bare
  loaded : (t : ℕ) → is_undoing (l t).mode ≡ true → has_open_scope p l t ≡ true
      → (u : ℕ) × (t < u) × (is_undoing (l u).mode ≡ true) × ((is_empty (l u).held ≡ false) ⊎ (has_open_scope p l u ≡ true))
  loaded t d b =
      let (u, h, c, e, o, a) = busy_find p l t b in
      elim (look (some_in p h (λ v. not (is_bare p l v)))) [
        | inr none ↦
            clash
            (abandoning_of p l h (open_at p l h u c e a)
            (λ v f.
            elim (look (is_bare p l v)) [
              | inl y ↦ y
              | inr y ↦ clash (some_in_at p h (λ v. not (is_bare p l v)) v (ok.hosted v h f) (host_in p h v f) (rw y)) none
            ]))
            (s.abandoning h)
        | inl some ↦
            let (v, b, i, k) = some_in_find p h (λ v. not (is_bare p l v)) some in
            let f = in_host p h v i in
            let w : Awake l v = n.whole v u h f e ∙ a in
            let m : is_undoing (l v).mode ≡ true = ap is_undoing (sym (n.hosted v h w f).1 ∙ ap (λ x. (l x).mode) o) ∙ d in (
              v,
              subst (λ x. x < v) o (ok.lower v h f),
              m,
              elim (look (is_empty (l v).held)) [
                | inr y ↦ inl y
                | inl y ↦
                    elim (look (has_open_scope p l v)) [ inl z ↦ inr z | inr z ↦ clash (bare_of p l v m y z) (not-true (is_bare p l v) k) ]
              ],
            )
      ]

  hunt : (k t : ℕ) → track_count p ≤ t + k → is_undoing (l t).mode ≡ true → (is_empty (l t).held ≡ false) ⊎ (has_open_scope p l t ≡ true)
      → (u : ℕ) × (may_fire p l u ≡ true)
  hunt zero t b d h = let c = n.below t (undoing_awake (l t).mode d) in absurd (omega arith)
  hunt (suc k) t b d h =
      elim (look (has_open_scope p l t)) [
        | inr f ↦ elim h [ inl e ↦ (t, fire_may p l t (n.below t (undoing_awake (l t).mode d)) d e f) | inr o ↦ clash o f ]
        | inl o ↦ let (u, c, m, r) = loaded t d o in hunt k u (omega arith) m r
      ]

  -- an undoing track that holds an entry, or has an open scope: some firing is allowed
  pub some_firing : (t : ℕ) → is_undoing (l t).mode ≡ true → (is_empty (l t).held ≡ false) ⊎ (has_open_scope p l t ≡ true) → (u : ℕ) × (may_fire p l u ≡ true)
  some_firing t d h = hunt (track_count p) t (omega arith) d h

  -- "if any track is undoing and holds an entry, some firing is allowed"
  pub progress : (t : ℕ) → (l t).mode ≡ Undoing → is_empty (l t).held ≡ false → (u : ℕ) × (may_fire p l u ≡ true)
  progress t d h = some_firing t (is_undoing_lem (l t).mode d) (inl h)
