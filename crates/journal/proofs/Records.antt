-- Laws of what stands at a place of the journal: one for each way that the reader goes, and the bytes that a whole record takes up.
-- Assumes nothing.
use Rattle.std.proofs.Common.{◌≡◌, refl, sym, ap, subst, ◌∙◌, inl, inr, true, false, not, ◌||◌, List, [], ◌∷◌, ℕ, ◌+◌, ◌-◌, ◌<◌, ◌≤◌, arith, leb, ltb, eqb, ℤ, length, le-leb, lt-ltb, le-ltb, eq-eqb, ne_eqb, leb-true, leb-false, ltb-false, eqb-true}
use Rattle.std.proofs.Math.ListN.{get_or-eq_default}
use borrow.Author.Tests.{lt-leb, eqb-false, not-false}
use Rattle.rules.specs.Record.{word, day_at, size_at, kind_at}
use Rattle.rules.specs.Journal.{Item, ended, broken, journal_length, society_at, is_broken, record_of, item_at}
use Rattle.rules.proofs.Tests.{look, or_fails}
use Rattle.journal.specs.declared.record.Kind.{Kind}
use Rattle.journal.specs.declared.record.Kind.TheVariants as kinds
use Rattle.journal.specs.Records.{kind_number, size_of}

pub length_none : (k : ℕ) → (k ≡ 17 → ⊥) → (k ≡ 18 → ⊥) → (k ≡ 19 → ⊥) → (k ≡ 20 → ⊥) → journal_length k ≡ 0
unfolding journal_length
length_none k a b c d =
    elim (look (ltb k 17)) [
      | inl e ↦ rw e
      | inr e ↦ let l : 17 ≤ k = ltb-false k 17 e in rw e (get_or-eq_default (6 ∷ 8 ∷ 6 ∷ 12 ∷ []) 0 {n = k - 17} (omega arith))
    ]

-- a kind that there is: every record of it has a first field
pub first_field : (k : Kind) → 6 ≤ journal_length (kind_number k)
unfolding journal_length
first_field kinds.Signal = omega arith
first_field kinds.Fire = omega arith
first_field kinds.FireLowest = omega arith
first_field kinds.Event = omega arith

pub known_length : (k : Kind) → journal_length (kind_number k) ≡ 0 → ⊥
known_length k e = omega (arith, first_field k, e)

module _ (js : List ℕ) (at : ℕ) where
  pub at_end : length js ≤ at → item_at js at ≡ ended
  unfolding item_at
  at_end h = rw (le-leb (length js) at h)

  at_broken : at < length js → is_broken js at ≡ true → item_at js at ≡ broken
  unfolding item_at
  at_broken h e = rw (lt-leb (length js) at h, e)

  at_whole : at < length js → is_broken js at ≡ false → item_at js at ≡ record_of (kind_at js at) (word js (at + 4)) (day_at js (at + 6)) (society_at js at (kind_at js at))
  unfolding item_at
  at_whole h e = rw (lt-leb (length js) at h, e)

  pub too_short : at < length js → length js - at < 4 → item_at js at ≡ broken
  unfolding is_broken
  too_short h l = at_broken h (rw (lt-ltb (length js) (at + 4) (omega arith)))

  -- four bytes are left, the kind is k, whose records have n bytes, and the size is s
  module _ (k n s : ℕ) (kind : k ≡ word js (at + 2)) (long : n ≡ journal_length k) (size : s ≡ word js at) (left : 4 ≤ length js - at) where
    tests : (ltb (length js) (at + 4) || eqb n 0 || not (eqb s n) || ltb (length js) (at + s)) ≡ is_broken js at
    unfolding is_broken kind_at size_at
    tests = rw (← kind, ← size, ← long)

    fits : ltb (length js) (at + 4) ≡ false
    fits = le-ltb (length js) (at + 4) (omega arith)

    pub unknown : n ≡ 0 → item_at js at ≡ broken
    unknown e = at_broken (omega arith) (sym tests ∙ rw (fits, eq-eqb n 0 e))

    module _ (known : n ≡ 0 → ⊥) where
      pub wrong : (s ≡ n → ⊥) → item_at js at ≡ broken
      wrong e = at_broken (omega arith) (sym tests ∙ rw (fits, ne_eqb n 0 known, ne_eqb s n e))

      pub cut : s ≡ n → length js - at < n → item_at js at ≡ broken
      cut e l = at_broken (omega arith) (sym tests ∙ rw (fits, ne_eqb n 0 known, eq-eqb s n e, lt-ltb (length js) (at + s) (omega arith)))

      pub whole : s ≡ n → n ≤ length js - at → item_at js at ≡ record_of k (word js (at + 4)) (day_at js (at + 6)) (society_at js at k)
      unfolding kind_at
      whole e l =
          at_whole (omega arith) (sym tests ∙ rw (fits, ne_eqb n 0 known, eq-eqb s n e, le-ltb (length js) (at + s) (omega arith)))
          ∙ ap (λ (x : ℕ). record_of x (word js (at + 4)) (day_at js (at + 6)) (society_at js at x)) (sym kind)

-- what stands whole at a place has the size that it tells, and ends within the bytes
size_of_kind : (k field : ℕ) (day : ℤ) (society : ℕ) → (journal_length k ≡ 0 → ⊥) → size_of (record_of k field day society) ≡ journal_length k
unfolding journal_length record_of
size_of_kind k field day society h =
    elim (look (eqb k 20)) [
      | inl a ↦ rw (eqb-true k 20 a)
      | inr a ↦
          elim (look (eqb k 17)) [
            | inl b ↦ rw (eqb-true k 17 b)
            | inr b ↦
                elim (look (eqb k 18)) [
                  | inl d ↦ rw (eqb-true k 18 d)
                  | inr d ↦
                      elim (look (eqb k 19)) [
                        | inl e ↦ rw (eqb-true k 19 e)
                        | inr e ↦ absurd (h (length_none k (eqb-false k 17 b) (eqb-false k 18 d) (eqb-false k 19 e) (eqb-false k 20 a)))
                      ]
                ]
          ]
    ]

nothing_left : (x y : Item) → y ≡ x → size_of y ≡ 0 → 0 < size_of x → ⊥
nothing_left x y e z l = let s : size_of y ≡ size_of x = ap size_of e in omega arith

pub record Stands (js : List ℕ) (at : ℕ) (x : Item) : Type 0 where
  pub size : size_of x ≡ size_at js at
  pub within : at + size_of x ≤ length js

module _ (js : List ℕ) (at : ℕ) where
  abbrev kind : ℕ
  kind = kind_at js at

  abbrev size : ℕ
  size = size_at js at

  unbroken : is_broken js at ≡ false → Stands js at (record_of kind (word js (at + 4)) (day_at js (at + 6)) (society_at js at kind))
  unfolding is_broken
  unbroken e =
      let (p, d) = or_fails (ltb (length js) (at + 4) || eqb (journal_length kind) 0 || not (eqb size (journal_length kind))) (ltb (length js) (at + size)) e in
      let (q, c) = or_fails (ltb (length js) (at + 4) || eqb (journal_length kind) 0) (not (eqb size (journal_length kind))) p in
      let (a, b) = or_fails (ltb (length js) (at + 4)) (eqb (journal_length kind) 0) q in
      let s = size_of_kind kind (word js (at + 4)) (day_at js (at + 6)) (society_at js at kind) (eqb-false (journal_length kind) 0 b) in
      let t : size ≡ journal_length kind = eqb-true size (journal_length kind) (not-false _ c) in
      let u : at + size ≤ length js = ltb-false (length js) (at + size) d in
      record { size = s ∙ sym t; within = omega arith }

  pub stands : (x : Item) → item_at js at ≡ x → 0 < size_of x → Stands js at x
  unfolding item_at
  stands x e l =
      elim (look (leb (length js) at)) [
        | inl a ↦ let z : ended ≡ x = sym (at_end js at (leb-true (length js) at a)) ∙ e in absurd (nothing_left x ended z refl l)
        | inr a ↦
            elim (look (is_broken js at)) [
              | inl b ↦ let z : broken ≡ x = sym (at_broken js at (leb-false (length js) at a) b) ∙ e in absurd (nothing_left x broken z refl l)
              | inr b ↦ subst (λ (y : Item). Stands js at y) (sym (at_whole js at (leb-false (length js) at a) b) ∙ e) (unbroken b)
            ]
      ]
