-- The forest of tracks: a host's track has a lower number, so going up from a track ends, and every rule that climbs has one law for a
-- root and one for a hosted track. Assumes nothing.
use mathlib.Core.Path.{◌≡◌, refl, sym, ap, ◌∙◌, subst}
use mathlib.Core.Logic.{◌⊎◌, inl, inr}
use mathlib.Core.Bool.{Bool, true, false, ◌||◌}
use mathlib.Core.Option.{Option, none, some}
use Prim.Native.Nat.{ℕ, zero, suc, ◌<◌}
use native.Mathlib.Omega.{arith}
use native.Mathlib.Nat.{not-suc-le-zero}
use lib.Dec.{eqb}
use borrow.Author.Tests.{eqb-true, eq-eqb}
use Rattle.rules.specs.Plan.{Plan, host, owner, climb_to, climb, is_inside, is_above}
use Rattle.rules.specs.Books.{Apart}
use Rattle.rules.proofs.Tests.{look_option, clash, refuted, or_holds, or_right, strong}
use Rattle.rules.proofs.Acceptance.{Accepted}

module _ (p : Plan) (ok : Accepted p) where
  -- how many levels are allowed does not matter once they are more than the track's number
  levels : (step : ℕ → ℕ → Bool → Bool) (k m t : ℕ) → t < k → t < m → climb_to p k step t ≡ climb_to p m step t
  unfolding climb_to
  levels step zero m t l j = absurd (not-suc-le-zero l)
  levels step (suc k) zero t l j = absurd (not-suc-le-zero j)
  levels step (suc k) (suc m) t l j = go (host p t) refl (λ u. levels step k m u)
    where
      go : (o : Option ℕ) → host p t ≡ o → ((u : ℕ) → u < k → u < m → climb_to p k step u ≡ climb_to p m step u)
          → climb_to p (suc k) step t ≡ climb_to p (suc m) step t
      go none e ih = rw (e, climb_to)
      go (some h) e ih = let d = ok.lower t h e in rw (e, climb_to) (ap (step t h) (ih (owner p h) (omega arith) (omega arith)))

  pub climb_root : (step : ℕ → ℕ → Bool → Bool) (t : ℕ) → host p t ≡ none → climb p step t ≡ false
  unfolding climb climb_to
  climb_root step t e = rw (e, climb_to)

  pub climb_host : (step : ℕ → ℕ → Bool → Bool) (t h : ℕ) → host p t ≡ some h → climb p step t ≡ step t h (climb p step (owner p h))
  unfolding climb climb_to
  climb_host step t h e =
      let d = ok.lower t h e in
      rw (e, climb_to) (ap (step t h) (levels step t (suc (owner p h)) (owner p h) d (omega arith)))

  pub inside_root : (s t : ℕ) → host p t ≡ none → is_inside p s t ≡ false
  unfolding is_inside
  inside_root s t e = climb_root (λ t h r. eqb h s || r) t e

  pub inside_host : (s t h : ℕ) → host p t ≡ some h → is_inside p s t ≡ (eqb h s || is_inside p s (owner p h))
  unfolding is_inside
  inside_host s t h e = climb_host (λ t h r. eqb h s || r) t h e

  pub above_root : (u t : ℕ) → host p t ≡ none → is_above p u t ≡ false
  unfolding is_above
  above_root u t e = climb_root (λ t h r. eqb (owner p h) u || r) t e

  pub above_host : (u t h : ℕ) → host p t ≡ some h → is_above p u t ≡ (eqb (owner p h) u || is_above p u (owner p h))
  unfolding is_above
  above_host u t h e = climb_host (λ t h r. eqb (owner p h) u || r) t h e

  -- u is t, or hosts it at some remove
  abbrev pub Reaches : ℕ → ℕ → Type 0
  Reaches u t = (u ≡ t) ⊎ (is_above p u t ≡ true)

  pub above_up : (u t h : ℕ) → host p t ≡ some h → is_above p u t ≡ true → Reaches u (owner p h)
  above_up u t h e k =
      elim (or_holds (eqb (owner p h) u) (is_above p u (owner p h)) (sym (above_host u t h e) ∙ k))
      [ inl f ↦ inl (sym (eqb-true (owner p h) u f)) | inr f ↦ inr f ]

  pub above_down : (u t h : ℕ) → host p t ≡ some h → Reaches u (owner p h) → is_above p u t ≡ true
  above_down u t h e (inl f) = above_host u t h e ∙ (rw (eq-eqb (owner p h) u (sym f)))
  above_down u t h e (inr f) = above_host u t h e ∙ or_right (eqb (owner p h) u) (is_above p u (owner p h)) f

  -- what hosts a track has its host below it
  pub above_hosted : (u t : ℕ) → is_above p u t ≡ true → (h : ℕ) × (host p t ≡ some h) × Reaches u (owner p h)
  above_hosted u t k =
      elim (look_option (host p t))
      [ inl e ↦ clash k (above_root u t e) | inr e ↦ (e.0, e.1, above_up u t e.0 e.1 k) ]

  pub inside_hosted : (s t : ℕ) → is_inside p s t ≡ true → (h : ℕ) × (host p t ≡ some h) × ((h ≡ s) ⊎ (is_inside p s (owner p h) ≡ true))
  inside_hosted s t k =
      elim (look_option (host p t)) [
        | inl e ↦ clash k (inside_root s t e)
        | inr e ↦ (
          e.0,
          e.1,
          elim (or_holds (eqb e.0 s) (is_inside p s (owner p e.0)) (sym (inside_host s t e.0 e.1) ∙ k))
              [ inl f ↦ inl (eqb-true e.0 s f) | inr f ↦ inr f ],
        )
      ]

  pub inside_above : (s t : ℕ) → is_inside p s t ≡ true → is_above p (owner p s) t ≡ true
  inside_above s =
      strong (λ t. is_inside p s t ≡ true → is_above p (owner p s) t ≡ true)
      (λ t ih k.
      let (h, e, q) = inside_hosted s t k in
      above_down (owner p s) t h e
      (elim q [ inl f ↦ inl (ap (owner p) (sym f)) | inr f ↦ inr (ih (owner p h) (ok.lower t h e) f) ]))

  pub above_lower : (u t : ℕ) → is_above p u t ≡ true → u < t
  above_lower u =
      strong (λ t. is_above p u t ≡ true → u < t)
      (λ t ih k.
      let (h, e, q) = above_hosted u t k in
      let d = ok.lower t h e in
      elim q [ inl f ↦ omega arith | inr f ↦ let i = ih (owner p h) d f in omega arith ])

  pub reaches_above : (a u v : ℕ) → Reaches a u → is_above p u v ≡ true → is_above p a v ≡ true
  reaches_above a u v s =
      strong (λ v. is_above p u v ≡ true → is_above p a v ≡ true)
      (λ v ih k.
      let (h, e, q) = above_hosted u v k in
      above_down a v h e
      (elim q [ inl f ↦ subst (Reaches a) f s | inr f ↦ inr (ih (owner p h) (ok.lower v h e) f) ]))
      v

  -- two tracks above one are above one another
  pub in_line : (t k x : ℕ) → t < k → Reaches t x → Reaches k x → is_above p t k ≡ true
  in_line t k x l =
      strong (λ x. Reaches t x → Reaches k x → is_above p t k ≡ true)
      (λ x ih a b.
      elim a [
        | inl e ↦ elim b [ inl f ↦ absurd (omega arith) | inr f ↦ let g = above_lower k x f in absurd (omega arith) ]
        | inr e ↦
            elim b [
              | inl f ↦ subst (λ y. is_above p t y ≡ true) (sym f) e
              | inr f ↦
                  let (h, q, r) = above_hosted t x e in
                  ih (owner p h) (ok.lower x h q) r (above_up k x h q f)
            ]
      ])
      x

  -- what lies below two tracks of which the lower does not host the higher is apart
  pub apart : (t k u v : ℕ) → t < k → is_above p t k ≡ false → Reaches t u → Reaches k v → Apart p u v
  apart t k u v l n a b =
      record {
        two = λ e. clash (in_line t k v l (subst (Reaches t) e a) b) n;
        not_above = refuted (is_above p u v) (λ e. clash (in_line t k v l (inr (reaches_above t u v a e)) b) n);
        not_below = refuted (is_above p v u) (λ e. clash (in_line t k u l a (inr (reaches_above k v u b e))) n);
      }
