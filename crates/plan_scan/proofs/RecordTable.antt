-- The rules' table of refusals 2 to 7 for a record whose kind is known and does not fall: the first of them that applies. Assumes nothing.
use Rattle.std.proofs.Common.{◌≡◌, refl, true, false, ⊎_elim, List, ℕ, ◌+◌, ◌<◌, ◌≤◌, length, eqb, lt-ltb, le-ltb, le-leb, eq-eqb, ne_eqb, eqb-true}
use borrow.Author.Tests.{lt-leb}
use Rattle.rules.specs.declared.Counts.{Counts}
use Rattle.rules.specs.Fold.{first_refusal}
use Rattle.rules.specs.Record.{size_at, kind_at, length_of, rank_of, most_of, count_of, end_kind, judge_record}
use Rattle.rules.proofs.Tests.{look}

module _ (bs : List ℕ) (at last : ℕ) (c : Counts) (kind : ℕ) (k : kind_at bs at ≡ kind) (head : at + 4 ≤ length bs) (real : length_of kind ≡ 0 → ⊥)
    (rises : rank_of last ≤ rank_of kind) where
  pub wrong_length : (size_at bs at ≡ length_of kind → ⊥) → judge_record bs at last c ≡ 4
  unfolding judge_record first_refusal
  wrong_length h = rw (k, le-ltb _ _ head, ne_eqb _ _ real, le-ltb _ _ rises, ne_eqb _ _ h)

  module _ (size : size_at bs at ≡ length_of kind) where
    pub cut_short : length bs < at + length_of kind → judge_record bs at last c ≡ 5
    unfolding judge_record first_refusal
    cut_short h = rw (k, size, le-ltb _ _ head, ne_eqb _ _ real, le-ltb _ _ rises, eq-eqb (length_of kind) _ refl, lt-ltb _ _ h)

    module _ (fits : at + length_of kind ≤ length bs) where
      pub too_many : most_of kind ≤ count_of c kind → judge_record bs at last c ≡ 6
      unfolding judge_record first_refusal
      too_many h = rw (k, size, le-ltb _ _ head, ne_eqb _ _ real, le-ltb _ _ rises, eq-eqb (length_of kind) _ refl, le-ltb _ _ fits, le-leb _ _ h)

      module _ (room : count_of c kind < most_of kind) where
        pub more_follows : kind ≡ end_kind → at + length_of kind < length bs → judge_record bs at last c ≡ 7
        unfolding judge_record first_refusal
        more_follows e h =
            rw (k, size, le-ltb _ _ head, ne_eqb _ _ real, le-ltb _ _ rises, eq-eqb (length_of kind) _ refl, le-ltb _ _ fits, lt-leb _ _ room, eq-eqb _ _ e, lt-ltb _ _ h)

        pub passes : (kind ≡ end_kind → length bs ≤ at + length_of kind) → judge_record bs at last c ≡ 0
        unfolding judge_record first_refusal
        passes h =
            ⊎_elim
            (λ (q : eqb kind end_kind ≡ true).
            rw (k, size, le-ltb _ _ head, ne_eqb _ _ real, le-ltb _ _ rises, eq-eqb (length_of kind) _ refl, le-ltb _ _ fits, lt-leb _ _ room, q, le-ltb _ _ (h (eqb-true _ _ q))))
            (λ (q : eqb kind end_kind ≡ false).
            rw (k, size, le-ltb _ _ head, ne_eqb _ _ real, le-ltb _ _ rises, eq-eqb (length_of kind) _ refl, le-ltb _ _ fits, lt-leb _ _ room, q))
            (look (eqb kind end_kind))
