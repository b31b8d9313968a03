-- Heights and reaches by the paper's own equations, where refusal 10 passes: a hosted track's number is above that of its host's track, so
-- as many levels as there are tracks show a height whole, fewer show it as far as they go, and no hosted track is as high as its host's.
-- Assumes nothing.
use mathlib.Core.Path.{◌≡◌, refl, sym, ap, ◌∙◌}
use mathlib.Core.Logic.{◌⊎◌, inl, inr}
use mathlib.Core.Bool.{Bool, true, false, cond, ◌&&◌, ◌||◌}
use mathlib.Core.Option.{some}
use Prim.Native.Nat.{ℕ, zero, suc, ◌+◌, ◌<◌, ◌≤◌, min}
use native.Mathlib.Omega.{arith}
use lib.Dec.{eqb, ltb}
use borrow.Author.Tests.{eqb-true, ltb-true, lt-ltb, le-ltb, eq-eqb, not-false}
use Rattle.rules.specs.Fold.{some_below, greatest_below}
use Rattle.rules.specs.Plan.{Plan, track_count, state_count, host_word, host, owner, is_root, is_state_of, is_in, reach_by, height_to, height}
use Rattle.rules.specs.Acceptance.{most_height, bad_host, too_high}
use Rattle.rules.proofs.Tests.{look, look_option, clash, and_holds, and_both, and_not, strong}
use Rattle.rules.proofs.Folds.{some_at, some_find, some_not, some_none, greatest_same, greatest_le, greatest_at, greatest_min}
use Rattle.rules.proofs.Acceptance.{optional_some}

-- a value that counts where the test holds
where_same : (b : Bool) (v w : ℕ) → (b ≡ true → v ≡ w) → cond b v 0 ≡ cond b w 0
where_same true v w h = h refl
where_same false v w h = refl

where_min : (m : ℕ) (b : Bool) (v : ℕ) → cond b (min m v) 0 ≡ min m (cond b v 0)
where_min m true v = refl
where_min m false v = omega arith

where_most : (b : Bool) (v m : ℕ) → v ≤ m → cond b v 0 ≤ m
where_most true v m h = h
where_most false v m h = omega arith

where_here : (b : Bool) (v m : ℕ) → b ≡ true → cond b v 0 ≤ m → v ≤ m
where_here b v m e h = rw e at h

module _ (p : Plan) where
  -- "A state's reach is the greatest height of the tracks it hosts, 0 where it hosts none"
  unfoldable pub reach : ℕ → ℕ
  reach s = reach_by p (height p) s

  pub reach_is : (s : ℕ) → reach s ≡ greatest_below (track_count p) (λ t. cond (is_in p s t) (height p t) 0)
  unfolding reach reach_by
  reach_is s = refl

  -- the greatest reach of a track's states, given heights
  unfoldable pub reaches_by : (ℕ → ℕ) → ℕ → ℕ
  reaches_by heights t = greatest_below (state_count p) (λ s. cond (is_state_of p t s) (reach_by p heights s) 0)

  pub height_suc : (n t : ℕ) → height_to p (suc n) t ≡ suc (reaches_by (height_to p n) t)
  unfolding height_to reaches_by
  height_suc n t = refl

  pub height_most : (n t : ℕ) → height_to p n t ≤ n
  unfolding height_to reaches_by reach_by
  height_most zero t = omega arith
  height_most (suc n) t =
      let q : reaches_by (height_to p n) t ≤ n =
      greatest_le (state_count p) _ n
      (λ s k.
      where_most (is_state_of p t s) _ n
      (greatest_le (track_count p) _ n (λ u j. where_most (is_in p s u) (height_to p n u) n (height_most n u)))) in
      omega (arith, height_suc n t)

  pub in_host : (s u : ℕ) → is_in p s u ≡ true → host p u ≡ some s
  unfolding is_in
  in_host s u i =
      elim (look_option (host p u)) [
        | inl e ↦ let z : false ≡ true = rw (e, is_in) at i in clash z refl
        | inr e ↦ let z : eqb e.0 s ≡ true = rw (e.1, is_in) at i in e.1 ∙ ap some (eqb-true e.0 s z)
      ]

  pub owner_is : (t s : ℕ) → is_state_of p t s ≡ true → owner p s ≡ t
  unfolding is_state_of
  owner_is t s o = eqb-true (owner p s) t (and_holds (ltb s (state_count p)) (eqb (owner p s) t) o).1

  unfoldable pub is_high_root : ℕ → Bool
  is_high_root t = is_root p t && too_high p t

  -- each height bounded bounds the reaches
  reaches_min : (m : ℕ) (f : ℕ → ℕ) (t : ℕ) → reaches_by (λ u. min m (f u)) t ≡ min m (reaches_by f t)
  unfolding reaches_by reach_by
  reaches_min m f t =
      greatest_same (state_count p) _ _
      (λ s k.
      where_same (is_state_of p t s) _ _
      (λ o.
      greatest_same (track_count p) _ _ (λ u j. where_min m (is_in p s u) (f u))
      ∙ greatest_min m (track_count p) (λ u. cond (is_in p s u) (f u) 0))
      ∙ where_min m (is_state_of p t s) (reach_by p f s))
      ∙ greatest_min m (state_count p) (λ s. cond (is_state_of p t s) (reach_by p f s) 0)

  -- what 10 has of a host: it is a state of a lower-numbered track
  pub host_facts : (t h : ℕ) → bad_host p t ≡ false → host p t ≡ some h → (h < state_count p) × (owner p h < t)
  unfolding bad_host is_root host
  host_facts t h b e =
      let w = (optional_some (host_word p t) h e).0 in
      let r : is_root p t ≡ false = rw (e, is_root) in
      let n : (is_root p t || (ltb (host_word p t) (state_count p) && ltb (owner p (host_word p t)) t)) ≡ true = not-false _ b in
      let q : (ltb h (state_count p) && ltb (owner p h) t) ≡ true = rw (r, w) at n in
      let (x, y) = and_holds (ltb h (state_count p)) (ltb (owner p h) t) q in
      (ltb-true h (state_count p) x, ltb-true (owner p h) t y)

  module _ (passed : some_below (track_count p) (bad_host p) ≡ false) where
    pub hosted_by : (t h : ℕ) → t < track_count p → host p t ≡ some h → (h < state_count p) × (owner p h < t)
    hosted_by t h l = host_facts t h (some_not (track_count p) (bad_host p) passed t l)

    -- only the heights of higher-numbered tracks count
    reaches_same : (f g : ℕ → ℕ) (t : ℕ) → ((u : ℕ) → u < track_count p → t < u → f u ≡ g u) → reaches_by f t ≡ reaches_by g t
    unfolding reaches_by reach_by
    reaches_same f g t h =
        greatest_same (state_count p) _ _
        (λ s k.
        where_same (is_state_of p t s) _ _
        (λ o.
        greatest_same (track_count p) _ _
        (λ u j.
        where_same (is_in p s u) _ _
        (λ i. let q = owner_is t s o in let r = (hosted_by u s j (in_host s u i)).1 in h u j (omega arith)))))

    -- levels beyond those that a track's number leaves room for show no more
    levels : (n m t : ℕ) → t < track_count p → track_count p ≤ n + t → track_count p ≤ m + t → height_to p n t ≡ height_to p m t
    levels zero m t l a b = absurd (omega arith)
    levels (suc n) zero t l a b = absurd (omega arith)
    levels (suc n) (suc m) t l a b =
        height_suc n t
        ∙ ap suc (reaches_same (height_to p n) (height_to p m) t (λ u j k. levels n m u j (omega arith) (omega arith)))
        ∙ sym (height_suc m t)

    -- "a track's height is one more than the greatest reach of its states"
    pub height_is : (t : ℕ) → t < track_count p
        → height p t ≡ suc (greatest_below (state_count p) (λ s. cond (is_state_of p t s) (reach s) 0))
    unfolding height reach reaches_by
    height_is t l =
        levels (track_count p) (suc (track_count p)) t l (omega arith) (omega arith) ∙ height_suc (track_count p) t

    -- so many levels show a height as far as they go
    pub height_shown : (n t : ℕ) → t < track_count p → height_to p n t ≡ min n (height p t)
    unfolding height_to
    height_shown zero t l = omega arith
    height_shown (suc n) t l =
        let a = height_suc n t in
        let b = reaches_same (height_to p n) (λ u. min n (height p u)) t (λ u j k. height_shown n u j) in
        let c = reaches_min n (height p) t in
        let d : height p t ≡ suc (reaches_by (height p) t) = unfold reach reaches_by in height_is t l in
        omega arith

    pub nine_levels : (t : ℕ) → t < track_count p → ltb most_height (height_to p 9 t) ≡ too_high p t
    unfolding too_high
    nine_levels t l = go (look (ltb most_height (height p t)))
      where
        go : ((ltb most_height (height p t) ≡ true) ⊎ (ltb most_height (height p t) ≡ false))
            → ltb most_height (height_to p 9 t) ≡ ltb most_height (height p t)
        go (inl e) =
            let h = ltb-true most_height (height p t) e in
            let q = height_shown 9 t l in
            lt-ltb most_height (height_to p 9 t) (omega arith) ∙ sym e
        go (inr e) =
            let h = borrow.Author.Tests.ltb-false most_height (height p t) e in
            let q = height_shown 9 t l in
            le-ltb most_height (height_to p 9 t) (omega arith) ∙ sym e

    -- a hosted track is lower than its host's
    pub hosted_lower : (t h : ℕ) → t < track_count p → host p t ≡ some h → height p t < height p (owner p h)
    unfolding reach reach_by is_state_of is_in
    hosted_lower t h l e =
        let (k, d) = hosted_by t h l e in
        let i : is_in p h t ≡ true = rw (e, is_in) (eq-eqb h h refl) in
        let o : is_state_of p (owner p h) h ≡ true = rw (lt-ltb h (state_count p) k) (eq-eqb (owner p h) (owner p h) refl) in
        let a =
        where_here (is_in p h t) (height p t) _ i (greatest_at (track_count p) (λ u. cond (is_in p h u) (height p u) 0) t l) in
        let b =
        where_here (is_state_of p (owner p h) h) (reach h) _ o
        (greatest_at (state_count p) (λ s. cond (is_state_of p (owner p h) s) (reach s) 0) h k) in
        omega (arith, height_is (owner p h) (omega arith))

    -- above a track that is too high stands a root that is
    high_root : (t : ℕ) → t < track_count p → too_high p t ≡ true → some_below (track_count p) is_high_root ≡ true
    unfolding is_high_root is_root too_high
    high_root =
        strong (λ t. t < track_count p → too_high p t ≡ true → some_below (track_count p) is_high_root ≡ true)
        (λ t up l h.
        elim (look_option (host p t)) [
          | inl e ↦ some_at (track_count p) is_high_root t l (and_both (is_root p t) (too_high p t) (rw (e, is_root)) h)
          | inr e ↦
              let d = (hosted_by t e.0 l e.1).1 in
              let q = hosted_lower t e.0 l e.1 in
              let r = ltb-true most_height (height p t) h in
              up (owner p e.0) d (omega arith) (lt-ltb most_height (height p (owner p e.0)) (omega arith))
        ])

    -- so the roots decide
    pub roots_decide : some_below (track_count p) is_high_root ≡ some_below (track_count p) (too_high p)
    unfolding is_high_root
    roots_decide =
        elim (look (some_below (track_count p) (too_high p))) [
          | inl e ↦ let (t, l, h) = some_find (track_count p) (too_high p) e in high_root t l h ∙ sym e
          | inr e ↦
              some_none (track_count p) is_high_root
              (λ t l. and_not (is_root p t) (too_high p t) (λ r h. clash h (some_not (track_count p) (too_high p) e t l)))
              ∙ sym e
        ]
