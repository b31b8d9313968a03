-- Numbers chained by whose they are: a number more is its owner's last, and a walk along a chain meets every member, so that the greatest value
-- of the members is the greatest met so far and of those left. Assumes nothing.
use Rattle.std.proofs.Common.{◌≡◌, refl, sym, ap, ◌∙◌, subst, inl, inr, ⊎_elim, Bool, true, false, cond, List, ℕ, zero, suc, ◌+◌, ◌-◌, ◌<◌, ◌≤◌, max, not-suc-le-zero, eq-or-lt_of_le, arith, eqb, length, get_or, set, replicate, get_or-set_same, get_or-set_other, eqb-true}
use Rattle.std.proofs.Math.ListN.{get_or-replicate}
use borrow.Author.Tests.{eqb-false}
use Rattle.rules.specs.Fold.{greatest_below}
use Rattle.rules.proofs.Tests.{look, clash, refuted}
use Rattle.plan.specs.Passes.{Last, Chains}

last_none : (f : ℕ → Bool) → Last 0 f 0
last_none f =
    record {
      within = omega arith;
      passes = λ k e. absurd (omega arith);
      none_after = λ k a l. absurd (not-suc-le-zero l);
    }

last_here : (n : ℕ) (f : ℕ → Bool) → f n ≡ true → Last (n + 1) f (n + 1)
last_here n f h =
    record {
      within = omega arith;
      passes = λ k e. let q : k ≡ n = omega arith in ap f q ∙ h;
      none_after = λ k a l. absurd (omega arith);
    }

last_stays : (n : ℕ) (f : ℕ → Bool) (y : ℕ) → f n ≡ false → Last n f y → Last (n + 1) f y
last_stays n f y h w =
    record {
      within = let q = w.within in omega arith;
      passes = w.passes;
      none_after = λ k a l. ⊎_elim (λ (e : k ≡ n). ap f e ∙ h) (λ (m : k < n). w.none_after k a m) (eq-or-lt_of_le (let q : k ≤ n = omega arith in q));
    }

module _ (is_of : ℕ → ℕ → Bool) (owners : ℕ) where
  pub chains_none : (m : ℕ) → Chains is_of owners 0 (replicate owners 0) (replicate m 0)
  chains_none m =
      record {
        ends = record { at = λ a l. rw (get_or-replicate {A = ℕ} owners a 0 0 l) (last_none (is_of a)) };
        links = λ a k l. absurd (not-suc-le-zero l);
      }

  -- a number that is nobody's
  pub chains_pass : (n : ℕ) (last before : List ℕ) → ((a : ℕ) → is_of a n ≡ false) → Chains is_of owners n last before → Chains is_of owners (n + 1) last before
  chains_pass n last before h w =
      record {
        ends = record { at = λ a l. last_stays n (is_of a) (get_or last a 0) (h a) (w.ends.at a l) };
        links = λ a k l i. ⊎_elim (λ (e : k ≡ n). clash i (ap (is_of a) e ∙ h a)) (λ (m : k < n). w.links a k m i) (eq-or-lt_of_le (let q : k ≤ n = omega arith in q));
      }

  -- a number whose owner is a
  pub chains_add : (n a : ℕ) (last before : List ℕ) → length last ≡ owners → a < owners → n < length before → is_of a n ≡ true
      → ((b : ℕ) → is_of b n ≡ true → b ≡ a) → Chains is_of owners n last before
      → Chains is_of owners (n + 1) (set last a (n + 1)) (set before n (get_or last a 0))
  chains_add n a last before e la ln h one w = record { ends = record { at = lasts }; links = befores }
    where
      lasts : (b : ℕ) → b < owners → Last (n + 1) (is_of b) (get_or (set last a (n + 1)) b 0)
      lasts b l =
          elim (look (eqb b a)) [
            | inl q ↦
                let z = eqb-true b a q in
                subst (λ v. Last (n + 1) (is_of v) (get_or (set last a (n + 1)) v 0)) (sym z)
                (rw (get_or-set_same last a (n + 1) 0 (omega arith)) (last_here n (is_of a) h))
            | inr q ↦
                rw (get_or-set_other last a b (n + 1) 0 (eqb-false b a q))
                (last_stays n (is_of b) (get_or last b 0) (refuted (is_of b n) (λ i. eqb-false b a q (one b i))) (w.ends.at b l))
          ]

      befores : (b k : ℕ) → k < n + 1 → is_of b k ≡ true → Last k (is_of b) (get_or (set before n (get_or last a 0)) k 0)
      befores b k l i =
          ⊎_elim
          (λ (q : k ≡ n).
          let z = one b (ap (is_of b) (sym q) ∙ i) in
          subst (λ v. Last v (is_of b) (get_or (set before n (get_or last a 0)) v 0)) (sym q)
          (rw (get_or-set_same before n (get_or last a 0) 0 ln) (subst (λ v. Last n (is_of v) (get_or last a 0)) (sym z) (w.ends.at a la))))
          (λ (m : k < n). rw (get_or-set_other before n k (get_or last a 0) 0 (λ (q : k ≡ n). absurd (omega arith))) (w.links b k m i))
          (eq-or-lt_of_le (let q : k ≤ n = omega arith in q))

-- what a number adds to the greatest value of the members
unfoldable pub of_member : (ℕ → Bool) → (ℕ → ℕ) → ℕ → ℕ
of_member f g k = cond (f k) (g k) 0

module _ (f : ℕ → Bool) (g : ℕ → ℕ) where
  here : (k : ℕ) → f k ≡ true → of_member f g k ≡ g k
  unfolding of_member
  here k h = rw h

  other : (k : ℕ) → f k ≡ false → of_member f g k ≡ 0
  unfolding of_member
  other k h = rw h

  -- no member is left out after the last
  skips : (n y : ℕ) → Last n f y → greatest_below n (of_member f g) ≡ greatest_below y (of_member f g)
  unfolding greatest_below
  skips n y w = go n w.within w.none_after
    where
      go : (n : ℕ) → y ≤ n → ((k : ℕ) → y ≤ k → k < n → f k ≡ false) → greatest_below n (of_member f g) ≡ greatest_below y (of_member f g)
      go zero l h = let q : y ≡ 0 = omega arith in rw q
      go (suc n) l h =
          ⊎_elim (λ (e : y ≡ suc n). rw e)
          (λ (m : y < suc n).
          let a : y ≤ n = omega arith in
          let q = go n a (λ k i j. h k i (omega arith)) in
          let z = other n (h n a (omega arith)) in
          let r : max (greatest_below n (of_member f g)) (of_member f g n) ≡ greatest_below y (of_member f g) = omega arith in
          r)
          (eq-or-lt_of_le l)

  -- a walk along a chain: the greatest met so far, and the members left, which are below y
  pub record Walk (n best y : ℕ) : Type 0 where
    pub within : y ≤ n
    pub member : (k : ℕ) → y ≡ suc k → f k ≡ true
    pub rest : greatest_below n (of_member f g) ≡ max best (greatest_below y (of_member f g))

  pub walk_start : (n y : ℕ) → Last n f y → Walk n 0 y
  walk_start n y w =
      record { within = w.within; member = w.passes; rest = let q = skips n y w in omega arith }

  pub record Step (n best y z : ℕ) : Type 0 where
    pub walk : Walk n best z
    pub lower : z < y

  pub walk_on : (n best y v m z : ℕ) → (y ≡ 0 → ⊥) → Walk n best y → v ≡ g (y - 1) → m ≡ max best v → Last (y - 1) f z → Step n m y z
  unfolding greatest_below
  walk_on n best zero v m z e w a b l = absurd (e refl)
  walk_on n best (suc y) v m z e w a b l =
      let q : suc y - 1 ≡ y = omega arith in
      let r = w.rest in
      let o = here y (w.member y refl) in
      let s = skips y z (rw q at l) in
      let t = l.within in
      let u = w.within in
      let x : v ≡ g y = rw q at a in
      record {
        walk = record { within = omega arith; member = l.passes; rest = omega arith };
        lower = omega arith;
      }

  pub walk_end : (n best y : ℕ) → y ≡ 0 → Walk n best y → best ≡ greatest_below n (of_member f g)
  unfolding greatest_below
  walk_end n best y e w =
      let r : greatest_below n (of_member f g) ≡ max best (greatest_below 0 (of_member f g)) = rw e at w.rest in omega arith

-- from a member to the one before it
pub walk_next : (is_of : ℕ → ℕ → Bool) (owners a n : ℕ) (last before : List ℕ) (g : ℕ → ℕ) (best y v m : ℕ) → Chains is_of owners n last before
    → (y ≡ 0 → ⊥) → Walk (is_of a) g n best y → v ≡ g (y - 1) → m ≡ max best v → Step (is_of a) g n m y (get_or before (y - 1) 0)
walk_next is_of owners a n last before g best zero v m w e k h b = absurd (e refl)
walk_next is_of owners a n last before g best (suc y) v m w e k h b =
    let q : suc y - 1 ≡ y = omega arith in
    let u = k.within in
    walk_on (is_of a) g n best (suc y) v m _ e k h b
    (subst (λ z. Last z (is_of a) (get_or before z 0)) (sym q) (w.links a y (omega arith) (k.member y refl)))

-- the same of a member by its number
pub walk_item : (is_of : ℕ → ℕ → Bool) (owners a n : ℕ) (last before : List ℕ) (g : ℕ → ℕ) (best k v m : ℕ) → Chains is_of owners n last before
    → Walk (is_of a) g n best (suc k) → v ≡ g k → m ≡ max best v → Step (is_of a) g n m (suc k) (get_or before k 0)
walk_item is_of owners a n last before g best k v m w h e b =
    let q : suc k - 1 ≡ k = omega arith in
    rw q at (walk_next is_of owners a n last before g best (suc k) v m w (λ z. absurd (omega (arith, z))) h (e ∙ ap g (sym q)) b)
