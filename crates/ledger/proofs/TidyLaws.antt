-- A track's words tested against the layout: an asleep track's are zero all together, and of another the mode, the count and the words behind
-- the entries held are asked. That all words of a run are zero is told by their bits together. Assumes nothing.
use Rattle.std.proofs.Common.{◌≡◌, sym, ap, subst, ◌∙◌, inl, inr, Bool, true, false, ◌&&◌, ◌||◌, List, ℕ, ◌+◌, ◌*◌, ◌-◌, ◌<◌, ◌≤◌, add_assoc, arith, length, get_or, take, drop, length-drop, length-take-le, eqb, ltb, eqb-true, eq-eqb, ne_eqb, ltb-false, le-ltb, le-leb}
use lib.Bits.{bit_or, bit_and, or_add_and, and_le_l, and_le_r}
use Rattle.std.proofs.lemmas.List.{get_or-take, get_or-drop}
use borrow.Author.Tests.{lt-leb}
use Rattle.rules.specs.declared.Terms.{Terms}
use Rattle.rules.specs.Fold.{every_below}
use Rattle.rules.specs.Layout.{entry_width, head_words, track_width}
use Rattle.rules.specs.Soundness.{good_mode, good_count, unused_zero, asleep_zero, is_tidy}
use Rattle.rules.proofs.Tests.{look, same_test, and_holds, and_both, or_right, implies}
use Rattle.rules.proofs.Folds.{every_at, every_of, every_same}

pub or_zero : (a b : ℕ) → eqb (bit_or a b) 0 ≡ (eqb a 0 && eqb b 0)
or_zero a b =
    same_test _ _
    (λ h. let e = eqb-true (bit_or a b) 0 h in and_both _ _ (eq-eqb a 0 (omega (arith, sum, and_le_r a b))) (eq-eqb b 0 (omega (arith, sum, and_le_l a b))))
    (λ h. let (x, y) = and_holds _ _ h in let i = eqb-true a 0 x in let j = eqb-true b 0 y in eq-eqb (bit_or a b) 0 (omega (arith, sum)))
  where
    sum : bit_or a b + bit_and a b ≡ a + b
    sum = or_add_and a b

-- whether a part's words are zero, by their places in the whole
pub zero_part : (ws : List ℕ) (from k n : ℕ) → k ≡ n → from + n ≤ length ws
    → every_below (length (take k (drop from ws))) (λ j. eqb (get_or (take k (drop from ws)) j 0) 0) ≡ every_below n (λ j. eqb (get_or ws (from + j) 0) 0)
zero_part ws from k n e room =
    let i : length (take k (drop from ws)) ≡ n = length-take-le k (drop from ws) (omega (arith, length-drop from ws)) ∙ e in
    ap (λ m. every_below m (λ j. eqb (get_or (take k (drop from ws)) j 0) 0)) i
    ∙ every_same n _ _ (λ j b. ap (λ w. eqb w 0) (get_or-take k (drop from ws) j 0 (omega arith) ∙ get_or-drop from ws j 0))

-- a test of the numbers from m on
every_from : (m n : ℕ) (f : ℕ → Bool) → m ≤ n → every_below (n - m) (λ j. f (m + j)) ≡ every_below n (λ j. ltb j m || f j)
every_from m n f l =
    same_test _ _
    (λ h.
    every_of n _
    (λ j b.
    elim (look (ltb j m)) [
      | inl q ↦ rw q
      | inr q ↦
          let g = ltb-false j m q in
          let e : m + (j - m) ≡ j = omega arith in or_right (ltb j m) (f j) (subst (λ i. f i ≡ true) e (every_at (n - m) _ h (j - m) (omega arith)))
    ]))
    (λ h. every_of (n - m) _ (λ j b. rw (le-ltb (m + j) m (omega arith)) at (every_at n (λ j. ltb j m || f j) h (m + j) (omega arith))))

module _ (terms : Terms) (ws : List ℕ) (at : ℕ) where
  pub asleep_tidy : {r : Bool} → get_or ws at 0 ≡ 0 → r ≡ every_below (track_width terms) (λ j. eqb (get_or ws (at + j) 0) 0) → r ≡ is_tidy terms ws at
  unfolding is_tidy good_mode good_count unused_zero asleep_zero track_width head_words entry_width
  asleep_tidy z e =
      e
      ∙ same_test _ _
      (λ h.
      let zero : (j : ℕ) → j < 3 + 2 * terms.limit → eqb (get_or ws (at + j) 0) 0 ≡ true = every_at (3 + 2 * terms.limit) _ h in
      let k : get_or ws (at + 2) 0 ≡ 0 = eqb-true _ 0 (zero 2 (omega arith)) in
      let u = every_of (2 * terms.limit) (λ j. ltb j (2 * get_or ws (at + 2) 0) || eqb (get_or ws (at + 3 + j) 0) 0) (λ j b. or_right (ltb j (2 * get_or ws (at + 2) 0)) (eqb (get_or ws (at + 3 + j) 0) 0) (rw add_assoc (zero (3 + j) (omega arith)))) in
      rw (le-leb (get_or ws at 0) 2 (omega arith), le-leb (get_or ws (at + 2) 0) terms.limit (omega arith), u, h, eq-eqb (get_or ws at 0) 0 z))
      (λ h. implies (eqb (get_or ws at 0) 0) _ (and_holds (good_mode ws at && good_count terms ws at && unused_zero terms ws at) (asleep_zero terms ws at) h).1 (eq-eqb (get_or ws at 0) 0 z))

  pub bad_mode : 2 < get_or ws at 0 → false ≡ is_tidy terms ws at
  unfolding is_tidy good_mode
  bad_mode l = rw (lt-leb (get_or ws at 0) 2 l)

  module _ (low : get_or ws at 0 ≤ 2) where
    pub bad_count : terms.limit < get_or ws (at + 2) 0 → false ≡ is_tidy terms ws at
    unfolding is_tidy good_mode good_count
    bad_count l = rw (le-leb (get_or ws at 0) 2 low, lt-leb (get_or ws (at + 2) 0) terms.limit l)

    pub awake_tidy : {r : Bool} (m : ℕ) → (get_or ws at 0 ≡ 0 → ⊥) → get_or ws (at + 2) 0 ≤ terms.limit → m ≡ entry_width * get_or ws (at + 2) 0
        → r ≡ every_below (entry_width * terms.limit - m) (λ j. eqb (get_or ws (at + head_words + m + j) 0) 0) → r ≡ is_tidy terms ws at
    unfolding is_tidy good_mode good_count unused_zero asleep_zero entry_width
    awake_tidy m n l i e =
        let f : ℕ → Bool = λ j. eqb (get_or ws (at + head_words + j) 0) 0 in
        e
        ∙ every_same (2 * terms.limit - m) _ _ (λ j b. ap (λ k. eqb (get_or ws k 0) 0) (add_assoc (at + head_words) m j))
        ∙ every_from m (2 * terms.limit) f (omega arith)
        ∙ ap (λ k. every_below (2 * terms.limit) (λ j. ltb j k || f j)) i
        ∙ rw (le-leb (get_or ws at 0) 2 low, le-leb (get_or ws (at + 2) 0) terms.limit l, ne_eqb (get_or ws at 0) 0 n) (sym (mathlib.Core.Bool.and-true _))
