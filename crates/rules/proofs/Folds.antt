-- Laws of tests, counts and searches below n: each by induction on n. The laws at `n + 1` are for loops that count up.
-- Assumes nothing.
use mathlib.Core.Path.{◌≡◌, refl, sym, ap, ◌∙◌, subst}
use mathlib.Core.Logic.{inl, inr, ⊎_elim}
use mathlib.Core.Bool.{Bool, true, false, cond, ◌&&◌, ◌||◌}
use mathlib.Core.Option.{Option, none, some}
use Prim.Native.Nat.{ℕ, zero, suc, ◌+◌, ◌*◌, ◌<◌, ◌≤◌, min}
use native.Mathlib.Nat.{add-zero, zero-add, add-suc, suc-add, le_of_suc-le-suc, not-suc-le-zero, eq-or-lt_of_le}
use native.Mathlib.Numerals.{add-one}
use native.Mathlib.Omega.{arith}
use lib.ListN.{length, get_or}
use lib.Dec.{eqb}
use borrow.Author.Tests.{eqb-true, eqb-false, ne_eqb}
use Rattle.rules.specs.Fold.{some_below, every_below, count_below, sum_below, greatest_below, first_below, tabulate_from, tabulate}
use Rattle.rules.proofs.Tests.{look, clash, and_holds, or_holds, or_right}

-- Every number below n.
pub every_at : (n : ℕ) (f : ℕ → Bool) → every_below n f ≡ true → (k : ℕ) → k < n → f k ≡ true
unfolding every_below
every_at zero f h k lt = absurd (not-suc-le-zero lt)
every_at (suc n) f h k lt =
    let (a, b) = and_holds (every_below n f) (f n) h in
    ⊎_elim (λ e. ap f e ∙ b) (λ l. every_at n f a k l) (eq-or-lt_of_le (le_of_suc-le-suc lt))

pub every_of : (n : ℕ) (f : ℕ → Bool) → ((k : ℕ) → k < n → f k ≡ true) → every_below n f ≡ true
unfolding every_below
every_of zero f h = refl
every_of (suc n) f h = rw (every_of n f (λ k lt. h k (omega arith)), h n (omega arith))

pub every_same : (n : ℕ) (f g : ℕ → Bool) → ((k : ℕ) → k < n → f k ≡ g k) → every_below n f ≡ every_below n g
unfolding every_below
every_same zero f g h = refl
every_same (suc n) f g h = rw (every_same n f g (λ k lt. h k (omega arith)), h n (omega arith))

pub every_more : (n : ℕ) (f : ℕ → Bool) → every_below (n + 1) f ≡ (every_below n f && f n)
unfolding every_below
every_more n f = rw add-one

-- Some number below n.
pub some_at : (n : ℕ) (f : ℕ → Bool) (k : ℕ) → k < n → f k ≡ true → some_below n f ≡ true
unfolding some_below
some_at zero f k lt h = absurd (not-suc-le-zero lt)
some_at (suc n) f k lt h =
    ⊎_elim (λ (e : k ≡ n). or_right (some_below n f) (f n) (ap f (sym e) ∙ h)) (λ (m : k < n). rw (some_at n f k m h))
    (eq-or-lt_of_le (le_of_suc-le-suc lt))

pub some_find : (n : ℕ) (f : ℕ → Bool) → some_below n f ≡ true → (k : ℕ) × (k < n) × (f k ≡ true)
unfolding some_below
some_find zero f h = clash h refl
some_find (suc n) f h =
    ⊎_elim (λ e. let (k, lt, q) = some_find n f e in (k, omega arith, q)) (λ e. (n, omega arith, e)) (or_holds (some_below n f) (f n) h)

-- where none passes, each fails
pub some_not : (n : ℕ) (f : ℕ → Bool) → some_below n f ≡ false → (k : ℕ) → k < n → f k ≡ false
some_not n f h k lt = ⊎_elim (λ q. clash (some_at n f k lt q) h) (λ q. q) (look (f k))

pub some_none : (n : ℕ) (f : ℕ → Bool) → ((k : ℕ) → k < n → f k ≡ false) → some_below n f ≡ false
unfolding some_below
some_none zero f h = refl
some_none (suc n) f h = rw (some_none n f (λ k lt. h k (omega arith)), h n (omega arith))

pub some_same : (n : ℕ) (f g : ℕ → Bool) → ((k : ℕ) → k < n → f k ≡ g k) → some_below n f ≡ some_below n g
unfolding some_below
some_same zero f g h = refl
some_same (suc n) f g h = rw (some_same n f g (λ k lt. h k (omega arith)), h n (omega arith))

pub some_more : (n : ℕ) (f : ℕ → Bool) → some_below (n + 1) f ≡ (some_below n f || f n)
unfolding some_below
some_more n f = rw add-one

-- Counts and sums.
pub count_same : (n : ℕ) (f g : ℕ → Bool) → ((k : ℕ) → k < n → f k ≡ g k) → count_below n f ≡ count_below n g
unfolding count_below
count_same zero f g h = refl
count_same (suc n) f g h = rw (count_same n f g (λ k lt. h k (omega arith)), h n (omega arith))

one_most : (b : Bool) → cond b 1 0 ≤ 1
one_most true = omega arith
one_most false = omega arith

pub count_most : (n : ℕ) (f : ℕ → Bool) → count_below n f ≤ n
unfolding count_below
count_most zero f = omega arith
count_most (suc n) f = let a = count_most n f in let b = one_most (f n) in omega arith

pub count_more : (n : ℕ) (f : ℕ → Bool) → count_below (n + 1) f ≡ count_below n f + cond (f n) 1 0
unfolding count_below
count_more n f = rw add-one

pub sum_same : (n : ℕ) (f g : ℕ → ℕ) → ((k : ℕ) → k < n → f k ≡ g k) → sum_below n f ≡ sum_below n g
unfolding sum_below
sum_same zero f g h = refl
sum_same (suc n) f g h = rw (sum_same n f g (λ k lt. h k (omega arith)), h n (omega arith))

pub sum_more : (n : ℕ) (f : ℕ → ℕ) → sum_below (n + 1) f ≡ sum_below n f + f n
unfolding sum_below
sum_more n f = rw add-one

-- a sum is 0 exactly where each of its numbers is
pub sum_none : (n : ℕ) (f : ℕ → ℕ) → ((k : ℕ) → k < n → f k ≡ 0) → sum_below n f ≡ 0
unfolding sum_below
sum_none zero f h = refl
sum_none (suc n) f h = omega (arith, sum_none n f (λ k lt. h k (omega arith)), h n (omega arith))

pub sum_at : (n : ℕ) (f : ℕ → ℕ) (k : ℕ) → k < n → f k ≤ sum_below n f
unfolding sum_below
sum_at zero f k b = absurd (omega arith)
sum_at (suc n) f k b =
    elim (look (eqb k n)) [
      | inl e ↦ let q : f k ≡ f n = ap f (eqb-true k n e) in omega arith
      | inr e ↦ let d : k ≡ n → ⊥ = eqb-false k n e in omega (arith, sum_at n f k (omega arith))
    ]

-- twice each of its numbers
pub sum_twice : (n : ℕ) (f : ℕ → ℕ) → sum_below n (λ k. 2 * f k) ≡ 2 * sum_below n f
unfolding sum_below
sum_twice zero f = omega arith
sum_twice (suc n) f = omega (arith, sum_twice n f)

-- one of its numbers lower by 1
pub sum_one : (n : ℕ) (f g : ℕ → ℕ) (k : ℕ) → k < n → suc (f k) ≡ g k → ((i : ℕ) → eqb i k ≡ false → f i ≡ g i) → suc (sum_below n f) ≡ sum_below n g
unfolding sum_below
sum_one zero f g k b e h = absurd (omega arith)
sum_one (suc n) f g k b e h =
    elim (look (eqb n k)) [
      | inl q ↦
          let same : n ≡ k = eqb-true n k q in
          let low : sum_below n f ≡ sum_below n g = sum_same n f g (λ i c. h i (ne_eqb i k (λ x. omega (arith, c, same)))) in
          let here : suc (f n) ≡ g n = subst (λ i. suc (f i) ≡ g i) (sym same) e in
          omega (arith, low, here)
      | inr q ↦
          let d : n ≡ k → ⊥ = eqb-false n k q in
          omega (arith, sum_one n f g k (omega arith) e h, h n q)
    ]

-- The greatest value below n.
pub greatest_same : (n : ℕ) (f g : ℕ → ℕ) → ((k : ℕ) → k < n → f k ≡ g k) → greatest_below n f ≡ greatest_below n g
unfolding greatest_below
greatest_same zero f g h = refl
greatest_same (suc n) f g h = rw (greatest_same n f g (λ k lt. h k (omega arith)), h n (omega arith))

pub greatest_le : (n : ℕ) (f : ℕ → ℕ) (b : ℕ) → ((k : ℕ) → k < n → f k ≤ b) → greatest_below n f ≤ b
unfolding greatest_below
greatest_le zero f b h = omega arith
greatest_le (suc n) f b h = omega (arith, greatest_le n f b (λ k lt. h k (omega arith)), h n (omega arith))

pub greatest_at : (n : ℕ) (f : ℕ → ℕ) (k : ℕ) → k < n → f k ≤ greatest_below n f
unfolding greatest_below
greatest_at zero f k l = absurd (not-suc-le-zero l)
greatest_at (suc n) f k l =
    ⊎_elim (λ (e : k ≡ n). let q : f k ≡ f n = ap f e in omega arith) (λ (m : k < n). omega (arith, greatest_at n f k m))
    (eq-or-lt_of_le (le_of_suc-le-suc l))

-- a bound on each value bounds the greatest
pub greatest_min : (m n : ℕ) (f : ℕ → ℕ) → greatest_below n (λ k. min m (f k)) ≡ min m (greatest_below n f)
unfolding greatest_below
greatest_min m zero f = omega arith
greatest_min m (suc n) f = let q = greatest_min m n f in omega arith

-- The lowest number below n that passes.
pub first_found : (n : ℕ) (f : ℕ → Bool) (i : ℕ) → first_below n f ≡ some i → (i < n) × (f i ≡ true)
unfolding first_below
first_found zero f i h = let z : ◌≡◌ {A = ℕ} 0 1 = cc in absurd (omega arith)
first_found (suc n) f i h = go (first_below n f) refl (λ j q. first_found n f j q)
  where
    last : (b : Bool) → f n ≡ b → cond b (some n) none ≡ some i → (i < suc n) × (f i ≡ true)
    last true e q = let w : n ≡ i = cc in (omega arith, ap f (sym w) ∙ e)
    last false e q = let z : ◌≡◌ {A = ℕ} 0 1 = cc in absurd (omega arith)

    go : (o : Option ℕ) → first_below n f ≡ o → ((j : ℕ) → first_below n f ≡ some j → (j < n) × (f j ≡ true)) → (i < suc n) × (f i ≡ true)
    go none e ih = let q : cond (f n) (some n) none ≡ some i = rw (e, first_below) at h in last (f n) refl q
    go (some j) e ih =
        let q : some j ≡ some i = rw (e, first_below) at h in
        let w : j ≡ i = cc in
        let (a, b) = ih j e in (omega arith, ap f (sym w) ∙ b)

pub first_none : (n : ℕ) (f : ℕ → Bool) → first_below n f ≡ none → some_below n f ≡ false
unfolding first_below some_below
first_none zero f h = refl
first_none (suc n) f h = go (first_below n f) refl (first_none n f)
  where
    last : (b : Bool) → f n ≡ b → cond b (some n) none ≡ none → f n ≡ false
    last true e q = let z : ◌≡◌ {A = ℕ} 0 1 = cc in absurd (omega arith)
    last false e q = e

    go : (o : Option ℕ) → first_below n f ≡ o → (first_below n f ≡ none → some_below n f ≡ false) → (some_below n f || f n) ≡ false
    go none e ih = let q : cond (f n) (some n) none ≡ none = rw (e, first_below) at h in rw (ih e, last (f n) refl q)
    go (some j) e ih = let q : some j ≡ none = rw (e, first_below) at h in let z : ◌≡◌ {A = ℕ} 0 1 = cc in absurd (omega arith)

-- none below the one found passes
pub first_lowest : (n : ℕ) (f : ℕ → Bool) (i : ℕ) → first_below n f ≡ some i → some_below i f ≡ false
unfolding first_below
first_lowest zero f i h = let z : ◌≡◌ {A = ℕ} 0 1 = cc in absurd (omega arith)
first_lowest (suc n) f i h = go (first_below n f) refl (λ j q. first_lowest n f j q)
  where
    last : (b : Bool) → cond b (some n) none ≡ some i → n ≡ i
    last true q = cc
    last false q = let z : ◌≡◌ {A = ℕ} 0 1 = cc in absurd (omega arith)

    go : (o : Option ℕ) → first_below n f ≡ o → ((j : ℕ) → first_below n f ≡ some j → some_below j f ≡ false) → some_below i f ≡ false
    go none e ih =
        let q : cond (f n) (some n) none ≡ some i = rw (e, first_below) at h in
        rw (← last (f n) q) (first_none n f e)
    go (some j) e ih =
        let q : some j ≡ some i = rw (e, first_below) at h in
        let w : j ≡ i = cc in rw (← w) (ih j e)

pub first_more_none : (n : ℕ) (f : ℕ → Bool) → first_below n f ≡ none → f n ≡ false → first_below (n + 1) f ≡ none
unfolding first_below
first_more_none n f h k = rw (add-one, h, first_below, k)

pub first_more_here : (n : ℕ) (f : ℕ → Bool) → first_below n f ≡ none → f n ≡ true → first_below (n + 1) f ≡ some n
unfolding first_below
first_more_here n f h k = rw (add-one, h, first_below, k)

-- once found it stays
pub first_stays : (m n : ℕ) (f : ℕ → Bool) (i : ℕ) → first_below n f ≡ some i → n ≤ m → first_below m f ≡ some i
unfolding first_below
first_stays zero n f i h l =
    let e : n ≡ 0 = omega arith in
    let q : none ≡ some i = rw e at h in let z : ◌≡◌ {A = ℕ} 0 1 = cc in absurd (omega arith)
first_stays (suc m) n f i h l =
    ⊎_elim (λ (e : n ≡ suc m). ap (λ (k : ℕ). first_below k f) (sym e) ∙ h) (λ (k : n < suc m). let q = first_stays m n f i h (le_of_suc-le-suc k) in rw (q, first_below))
    (eq-or-lt_of_le l)

-- Lists of f 0, .., f (n - 1).
length_from : {A : Type 0} (n i : ℕ) (f : ℕ → A) → length (tabulate_from n i f) ≡ n
unfolding tabulate_from
length_from zero i f = refl
length_from (suc n) i f = ap suc (length_from n (suc i) f)

pub length-tabulate_lem : {A : Type 0} (n : ℕ) (f : ℕ → A) → length (tabulate n f) ≡ n
unfolding tabulate
length-tabulate_lem n f = length_from n 0 f

get_d_from : {A : Type 0} (n i k : ℕ) (f : ℕ → A) (d : A) → k < n → get_or (tabulate_from n i f) k d ≡ f (i + k)
unfolding tabulate_from
get_d_from zero i k f d h = absurd (not-suc-le-zero h)
get_d_from (suc n) i zero f d h = ap f (sym (add-zero i))
get_d_from (suc n) i (suc k) f d h = get_d_from n (suc i) k f d (le_of_suc-le-suc h) ∙ ap f (suc-add i k ∙ sym (add-suc i k))

pub get_d_tabulate : {A : Type 0} (n k : ℕ) (f : ℕ → A) (d : A) → k < n → get_or (tabulate n f) k d ≡ f k
unfolding tabulate
get_d_tabulate n k f d h = get_d_from n 0 k f d h ∙ ap f (zero-add k)
