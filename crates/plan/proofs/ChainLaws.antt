-- Numbers chained by a key: those that a chain leaves out have another key, and the chains grow by one number. Assumes nothing.
use Rattle.std.proofs.Common.{◌≡◌, refl, sym, ap, ◌∙◌, Bool, true, false, cond, inl, inr, ⊎_elim, List, ℕ, zero, suc, ◌+◌, ◌<◌, ◌≤◌, add-one, not-suc-le-zero, eq-or-lt_of_le, arith, get_or, set, replicate, length-set, get_or-set_same, get_or-set_other, eqb, ltb, eqb-true, ltb-true, ltb-false, eq-eqb}
use Rattle.std.proofs.Math.ListN.{length-replicate, get_or-replicate}
use borrow.Author.Tests.{eqb-false}
use Rattle.rules.proofs.Tests.{look, clash}
use Rattle.plan.specs.Chain as Chain
use Rattle.plan.specs.Chain.{last_below, has, ChainOf, Heads}
use Rattle.plan.specs.Chains.{item_of, cell_of}
use Rattle.plan.specs.Passes.{Last}
use Rattle.plan.proofs.ForestLaws.{Chained, chained_add}

-- a cell and the item that it tells of
pub cell_item : (z : ℕ) → cell_of (item_of z) ≡ z
cell_item zero = refl
cell_item (suc k) = refl

pub last_most : (n : ℕ) (f : ℕ → Bool) → last_below n f ≤ n
unfolding last_below
last_most zero f = omega arith
last_most (suc n) f = go (f n) (last_most n f)
  where
    go : (b : Bool) → last_below n f ≤ n → cond b (suc n) (last_below n f) ≤ suc n
    go true h = omega arith
    go false h = omega arith

pub last_passes : (n : ℕ) (f : ℕ → Bool) (z : ℕ) → last_below n f ≡ suc z → f z ≡ true
unfolding last_below
last_passes zero f z h = absurd (omega arith)
last_passes (suc n) f z h = go (f n) refl h (last_passes n f z)
  where
    go : (b : Bool) → f n ≡ b → cond b (suc n) (last_below n f) ≡ suc z → (last_below n f ≡ suc z → f z ≡ true) → f z ≡ true
    go true e q ih = let w : z ≡ n = omega arith in ap f w ∙ e
    go false e q ih = ih q

-- nothing passes above the last one
pub last_skips : (n : ℕ) (f : ℕ → Bool) (z : ℕ) → last_below n f ≤ z → z < n → f z ≡ false
unfolding last_below
last_skips zero f z h l = absurd (not-suc-le-zero l)
last_skips (suc n) f z h l = go (f n) refl h (last_skips n f z)
  where
    go : (b : Bool) → f n ≡ b → cond b (suc n) (last_below n f) ≤ z → (last_below n f ≤ z → z < n → f z ≡ false) → f z ≡ false
    go true e q ih = absurd (omega arith)
    go false e q ih =
        ⊎_elim (λ (w : z ≡ n). ap f w ∙ e) (λ (k : z < n). ih q k) (eq-or-lt_of_le (let m : z ≤ n = omega arith in m))

-- the chains grow by one number
module _ (key : ℕ → ℕ) (n : ℕ) where
  pub head_from : (x k : ℕ) (head next : List ℕ) → Heads key n x head next → k < n → k ≡ key x → ChainOf key x (get_or head k 0) next
  head_from x k head next h l e =
      record { start = h.last k l ∙ ap (λ (s : ℕ). last_below x (has key s)) e; chained = h.chained }

  pub head_most : (x k : ℕ) (head next : List ℕ) → Heads key n x head next → k < n → get_or head k 0 ≤ x
  head_most x k head next h l = rw (h.last k l) (last_most x (has key k))

  pub heads_none : (head next : List ℕ) → head ≡ replicate n 0 → next ≡ replicate 256 0 → Heads key n 0 head next
  unfolding last_below Chain.Chained
  heads_none head next h e =
      rw (h, e)
      (record {
        heads = length-replicate {A = ℕ} n 0;
        nexts = length-replicate {A = ℕ} 256 0;
        keys = λ y l. absurd (not-suc-le-zero l);
        last = λ s l. get_or-replicate n s 0 0 l;
        chained = λ y l. absurd (not-suc-le-zero l);
      })

  pub heads_all : (x m : ℕ) (head next : List ℕ) → x ≤ m → m ≤ x → Heads key n x head next → Heads key n m head next
  heads_all x m head next a b h = let e : x ≡ m = omega arith in rw e at h

  pub heads_more : (x k : ℕ) (head next : List ℕ) → x < 256 → k < n → k ≡ key x → Heads key n x head next
      → Heads key n (x + 1) (set head k (x + 1)) (set next x (get_or head k 0))
  unfolding last_below Chain.Chained has
  heads_more x k head next lx lk e h =
      record {
        heads = length-set head k (x + 1) ∙ h.heads;
        nexts = length-set next x (get_or head k 0) ∙ h.nexts;
        keys = λ y l.
            ⊎_elim (λ (w : y ≡ x). rw (w, ← e) lk) (λ (v : y < x). h.keys y v) (eq-or-lt_of_le (let m : y ≤ x = omega arith in m));
        last = λ s l. rw (add-one x) (lasts s l (eqb (key x) s) refl);
        chained = chain;
      }
    where
      lasts : (s : ℕ) → s < n → (b : Bool) → eqb (key x) s ≡ b → get_or (set head k (suc x)) s 0 ≡ cond b (suc x) (last_below x (has key s))
      lasts s l true q =
          let w : s ≡ k = sym (eqb-true (key x) s q) ∙ sym e in
          let i = h.heads in
          ap (λ (v : ℕ). get_or (set head k (suc x)) v 0) w ∙ get_or-set_same head k (suc x) 0 (omega arith)
      lasts s l false q =
          get_or-set_other head k s (suc x) 0 (λ (w : s ≡ k). eqb-false (key x) s q (sym e ∙ sym w)) ∙ h.last s l

      chain : (y : ℕ) → y < x + 1 → get_or (set next x (get_or head k 0)) y 0 ≡ last_below y (has key (key y))
      chain y l =
          ⊎_elim
          (λ (w : y ≡ x).
          let i = h.nexts in
          ap (λ (v : ℕ). get_or (set next x (get_or head k 0)) v 0) w ∙ get_or-set_same next x (get_or head k 0) 0 (omega arith) ∙ h.last k lk
          ∙ rw (w, e))
          (λ (v : y < x). get_or-set_other next x y (get_or head k 0) 0 (λ (w : y ≡ x). absurd (omega arith)) ∙ h.chained y v)
          (eq-or-lt_of_le (let m : y ≤ x = omega arith in m))

-- numbers in the chains of their keys
module _ (key : ℕ → ℕ) where
  pub keyed : (x k : ℕ) → k ≡ key x → has key k x ≡ true
  unfolding has
  keyed x k e = eq-eqb (key x) k (sym e)

  pub one_key : (x k : ℕ) → k ≡ key x → (j : ℕ) → has key j x ≡ true → j ≡ k
  unfolding has
  one_key x k e j h = sym (eqb-true (key x) j h) ∙ sym e

  pub keyed_add : (keys items x k : ℕ) (last before : List ℕ) → k < keys → x < items → k ≡ key x → Chained (has key) keys x items last before
      → Chained (has key) keys (x + 1) items (set last k (x + 1)) (set before x (get_or last k 0))
  keyed_add keys items x k last before lk lx e w = chained_add (has key) keys x items k last before lk lx (keyed x k e) (one_key x k e) w

-- the last number below n is told as by the walk over all of them
pub last_is : (n : ℕ) (f : ℕ → Bool) (y : ℕ) → Last n f y → y ≡ last_below n f
last_is n f y w = go y (last_below n f) refl refl
  where
    go : (a b : ℕ) → a ≡ y → b ≡ last_below n f → y ≡ last_below n f
    go zero zero e d = sym e ∙ d
    go zero (suc z) e d =
        let m = last_most n f in
        clash (last_passes n f z (sym d)) (w.none_after z (omega arith) (omega arith))
    go (suc k) zero e d =
        let m = w.within in
        clash (w.passes k (sym e)) (last_skips n f k (omega arith) (omega arith))
    go (suc k) (suc z) e d =
        let m = w.within in
        let o = last_most n f in
        elim (look (ltb k z)) [
          | inl q ↦ let l = ltb-true k z q in clash (last_passes n f z (sym d)) (w.none_after z (omega arith) (omega arith))
          | inr q ↦
              let l = ltb-false k z q in
              ⊎_elim (λ (i : z ≡ k). sym e ∙ ap suc (sym i) ∙ d)
              (λ (i : z < k). clash (w.passes k (sym e)) (last_skips n f k (omega arith) (omega arith))) (eq-or-lt_of_le l)
        ]

-- so the chains by a key are heads and links
pub heads_from : (key : ℕ → ℕ) (keys n : ℕ) (last before : List ℕ) → Chained (has key) keys n 256 last before → ((y : ℕ) → y < n → key y < keys)
    → Heads key keys n last before
unfolding Chain.Chained
heads_from key keys n last before w low =
    record {
      heads = w.owners_length;
      nexts = w.members_length;
      keys = low;
      last = λ k l. last_is n (has key k) (get_or last k 0) (w.chains.ends.at k l);
      chained = λ y l. last_is y (has key (key y)) (get_or before y 0) (w.chains.links (key y) y l (keyed key y (key y) refl));
    }
