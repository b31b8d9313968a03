-- A pass that keeps figures: a visit gives a figure to one track, and the others keep theirs. The track is the one visited, or the one that
-- passes the visit's test. Assumes nothing.
use Rattle.std.proofs.Common.{◌≡◌, refl, sym, ap, ◌∙◌, inl, inr, Bool, false, cond, List, ℕ, ◌+◌, ◌<◌, ◌≤◌, not-suc-le-zero, arith, eqb, length, get_or, set, replicate, length-set, get_or-set_same, get_or-set_other, eqb-true, ne_eqb}
use Rattle.std.proofs.Math.Option.{Option, none, some}
use Rattle.std.proofs.Math.ListN.{length-replicate, get_or-replicate}
use borrow.Author.Tests.{eqb-false}
use Rattle.rules.specs.Plan.{no_state, optional}
use Rattle.rules.proofs.Tests.{look}
use Rattle.plan.specs.Passes.{slots}
use Rattle.lookup.specs.Figures.{Figures, Numbers, Only}

-- a list with one figure set
module _ {A : Type 0} (d : A) (ms : List A) (r : ℕ) (v : A) (size : length ms ≡ slots) (low : r < slots) where
  pub set_size : length (set ms r v) ≡ slots
  set_size = length-set ms r v ∙ size

  pub set_at : (t : ℕ) → get_or (set ms r v) t d ≡ cond (eqb t r) v (get_or ms t d)
  set_at t =
      elim (look (eqb t r)) [
        | inl q ↦ rw q (ap (λ (k : ℕ). get_or (set ms r v) k d) (eqb-true t r q) ∙ get_or-set_same ms r v d (omega (arith, size)))
        | inr q ↦ rw q (get_or-set_other ms r t v d (eqb-false t r q))
      ]

module _ {A : Type 0} (d : A) (f : ℕ → A) where
  pub figure_none : (x : A) → Figures d (replicate slots x) 0 f
  figure_none x = record { size = length-replicate slots x; at = λ t l. absurd (not-suc-le-zero l) }

  -- the same figure for each track
  pub figure_each : (x : A) (n : ℕ) → n ≤ slots → ((t : ℕ) → t < n → x ≡ f t) → Figures d (replicate slots x) n f
  figure_each x n few e = record { size = length-replicate slots x; at = λ t l. get_or-replicate slots t x d (omega arith) ∙ e t l }

  pub figure_more : (ms : List A) (n : ℕ) (v : A) → Figures d ms n f → n < slots → v ≡ f n → Figures d (set ms n v) (n + 1) f
  figure_more ms n v m l e =
      record {
        size = set_size d ms n v m.size l;
        at = λ t b.
            set_at d ms n v m.size l t
            ∙ elim (look (eqb t n)) [
              | inl q ↦ rw q (e ∙ ap f (sym (eqb-true t n q)))
              | inr q ↦ let i : t ≡ n → ⊥ = eqb-false t n q in rw q (m.at t (omega arith))
            ];
      }

  pub figure_all : (ms : List A) (n k : ℕ) → k ≡ n → Figures d ms k f → Figures d ms n f
  figure_all ms n k e m = rw (← e) m

-- a visit that gives v to the track that passes the test, if one does
module _ {A : Type 0} {d : A} {ms : List A} {n : ℕ} {f : ℕ → A} (m : Figures d ms n f) (few : n ≤ slots) {test : ℕ → Bool} {r : ℕ} (o : Only n test r)
    (v : A) (g : ℕ → A) (next : (t : ℕ) → t < n → cond (test t) v (f t) ≡ g t) where
  pub visit_none : r ≡ no_state → Figures d ms n g
  unfolding no_state
  visit_none z =
      record {
        size = m.size;
        at = λ t b.
            let q : test t ≡ false = o.at t b ∙ ne_eqb t r (λ e. absurd (omega arith)) in
            m.at t b ∙ (rw q at (next t b));
      }

  pub visit_one : (r ≡ no_state → ⊥) → Figures d (set ms r v) n g
  visit_one z =
      let low : r < slots = let b = o.low z in omega arith in
      record {
        size = set_size d ms r v m.size low;
        at = λ t b. set_at d ms r v m.size low t ∙ ap (λ (q : Bool). cond q v (get_or ms t d)) (sym (o.at t b)) ∙ ap (cond (test t) v) (m.at t b) ∙ next t b;
      }

-- the same of numbers
pub numbers_none : {n : ℕ} → n ≤ slots → {f : ℕ → Option ℕ} → ((t : ℕ) → none ≡ f t) → Numbers (replicate slots no_state) n f
numbers_none few e =
    record { size = length-replicate slots no_state; at = λ t l. ap optional (get_or-replicate slots t no_state 0 (omega arith)) ∙ no_number ∙ e t }
  where
    no_number : optional no_state ≡ none
    no_number = unfold optional no_state in refl

pub numbers_empty : (x : ℕ) (f : ℕ → Option ℕ) → Numbers (replicate slots x) 0 f
numbers_empty x f = record { size = length-replicate slots x; at = λ t l. absurd (not-suc-le-zero l) }

pub numbers_all : {ms : List ℕ} {n k : ℕ} {f : ℕ → Option ℕ} → k ≡ n → Numbers ms k f → Numbers ms n f
numbers_all e m = rw (← e) m

pub number_more : {f : ℕ → Option ℕ} {ms : List ℕ} {n : ℕ} (v : ℕ) → Numbers ms n f → n < slots → optional v ≡ f n → Numbers (set ms n v) (n + 1) f
number_more {f} {ms} {n} v m l e =
    record {
      size = set_size 0 ms n v m.size l;
      at = λ t b.
          ap optional (set_at 0 ms n v m.size l t)
          ∙ elim (look (eqb t n)) [
            | inl q ↦ rw q (e ∙ ap f (sym (eqb-true t n q)))
            | inr q ↦ let i : t ≡ n → ⊥ = eqb-false t n q in rw q (m.at t (omega arith))
          ];
    }

module _ {ms : List ℕ} {n : ℕ} {f : ℕ → Option ℕ} (m : Numbers ms n f) (few : n ≤ slots) {test : ℕ → Bool} {r : ℕ} (o : Only n test r)
    {v : ℕ} (real : optional v ≡ some v) (g : ℕ → Option ℕ) (next : (t : ℕ) → t < n → cond (test t) (some v) (f t) ≡ g t) where
  pub number_none : r ≡ no_state → Numbers ms n g
  unfolding no_state
  number_none z =
      record {
        size = m.size;
        at = λ t b.
            let q : test t ≡ false = o.at t b ∙ ne_eqb t r (λ e. absurd (omega arith)) in
            m.at t b ∙ (rw q at (next t b));
      }

  pub number_one : (r ≡ no_state → ⊥) → Numbers (set ms r v) n g
  number_one z =
      let low : r < slots = let b = o.low z in omega arith in
      record {
        size = set_size 0 ms r v m.size low;
        at = λ t b.
            ap optional (set_at 0 ms r v m.size low t) ∙ ap (λ (q : Bool). optional (cond q v (get_or ms t 0))) (sym (o.at t b))
            ∙ elim (look (test t)) [
              | inl q ↦ rw q (real ∙ (rw q at (next t b)))
              | inr q ↦ rw q (m.at t b ∙ (rw q at (next t b)))
            ];
      }

-- no track passes the test
pub only_none : (n : ℕ) → n ≤ slots → (test : ℕ → Bool) → ((t : ℕ) → t < n → test t ≡ false) → Only n test no_state
unfolding no_state
only_none n few test h = record { low = λ z. absurd (z refl); at = λ t b. h t b ∙ sym (ne_eqb t 65535 (λ e. absurd (omega arith))) }
