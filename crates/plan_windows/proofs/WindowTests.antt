-- The test of refusal 25, part by part, in the order in which the code looks at a window, and the marks of the transitions that windows name.
-- Assumes nothing.
use Rattle.std.proofs.Common.{◌≡◌, refl, sym, ◌∙◌, ⊎_elim, Bool, true, false, not, ◌||◌, List, ℕ, zero, suc, ◌+◌, ◌<◌, ◌≤◌, arith, length, get_or, set, replicate, length-set, get_or-set_same, get_or-set_other, eqb, leb, eqb-true, le-leb, eq-eqb, ne_eqb}
use Rattle.std.proofs.Math.Bool.{or-false}
use Rattle.std.proofs.Math.ListN.{length-replicate}
use lib.Signed.{mag, lt_z}
use borrow.Author.Tests.{eqb-false, lt-leb}
use Rattle.rules.specs.Names.{Day}
use Rattle.rules.specs.Fold.{some_below}
use Rattle.rules.specs.Day.{is_day}
use Rattle.rules.specs.Plan.{Plan, transition_count, window}
use Rattle.rules.specs.Acceptance.{repeats_window, bad_window}
use Rattle.rules.proofs.Tests.{look, or_right}
use Rattle.rules.proofs.Folds.{some_more}
use Rattle.signed.proofs.Integers.{rd, read_back}

-- the days of a window
unfoldable pub days_bad : Day → Day → Bool
days_bad first last = lt_z last first || not (is_day first) || not (is_day last)

module _ (p : Plan) where
  -- a window names the transition x
  unfoldable pub names : ℕ → ℕ → Bool
  names x v = eqb (window p v).transition x

  -- the windows below w are fit, and the transitions that they name are marked
  pub record Seen (w : ℕ) (named : List Bool) : Type 0 where
    pub size : length named ≡ 256
    pub marks : (x : ℕ) → x < 256 → get_or named x false ≡ some_below w (names x)
    pub fit : some_below w (bad_window p) ≡ false

  pub seen_none : Seen 0 (replicate 256 false)
  unfolding some_below
  seen_none = record { size = length-replicate 256 false; marks = λ x l. none 256 x; fit = refl }
    where
      none : (n k : ℕ) → get_or (replicate n false) k false ≡ false
      none zero k = refl
      none (suc n) zero = refl
      none (suc n) (suc k) = none n k

  module _ (w x : ℕ) (e : x ≡ (window p w).transition) where
    parts : bad_window p w
        ≡ (leb (transition_count p) x || some_below w (names x) || lt_z (window p w).last (window p w).first || not (is_day (window p w).first) || not (is_day (window p w).last))
    unfolding bad_window repeats_window names
    parts = rw e

    pub no_transition_lem : transition_count p ≤ x → bad_window p w ≡ true
    no_transition_lem l = parts ∙ rw (le-leb (transition_count p) x l)

    module _ (named : List Bool) (s : Seen w named) (l : x < transition_count p) (m : x < 256) where
      pub named_before : get_or named x false ≡ true → bad_window p w ≡ true
      named_before h = parts ∙ rw (lt-leb (transition_count p) x l, sym (s.marks x m) ∙ h)

      module _ (h : get_or named x false ≡ false) (first last : Day) (i : mag first < 2147483648) (j : mag last < 2147483648) (ef : first ≡ (window p w).first)
          (el : last ≡ (window p w).last) (b : Bool) (eb : b ≡ days_bad (rd first) (rd last)) where
        pub by_days : bad_window p w ≡ b
        unfolding days_bad
        by_days =
            parts ∙ rw (lt-leb (transition_count p) x l, sym (s.marks x m) ∙ h, ← ef, ← el)
            (sym (eb ∙ rw (read_back first i, read_back last j)))

        marked : (y : ℕ) → y < 256 → get_or (set named x true) y false ≡ some_below (w + 1) (names y)
        unfolding names
        marked y n =
            ⊎_elim
            (λ (q : eqb y x ≡ true).
            let z : y ≡ x = eqb-true y x q in
            let g = s.size in
            rw (z, get_or-set_same named x true false (omega arith), some_more w (names x))
            (sym (or_right (some_below w (names x)) (names x w) (eq-eqb _ x (sym e)))))
            (λ (q : eqb y x ≡ false).
            let z : y ≡ x → ⊥ = eqb-false y x q in
            get_or-set_other named x y true false z ∙ s.marks y n
            ∙ sym (some_more w (names y) ∙ rw (ne_eqb (window p w).transition y (λ r. z (sym r ∙ sym e))) (or-false (some_below w (names y)))))
            (look (eqb y x))

        pub seen_more : b ≡ false → Seen (w + 1) (set named x true)
        seen_more t =
            record { size = length-set named x true ∙ s.size; marks = marked; fit = some_more w (bad_window p) ∙ rw (s.fit, by_days ∙ t) }
