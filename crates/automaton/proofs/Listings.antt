-- Sequences in track order, in facts: two with the same members are the same, a test holds of a sequence as of its members, and a step of
-- one member is a step of the vector. Each by induction on how many numbers are looked at. Assumes nothing.
use mathlib.Core.Path.{◌≡◌, refl, sym, ap, ap₂, ◌∙◌, subst}
use mathlib.Core.Logic.{inl, inr}
use mathlib.Core.Bool.{Bool, true, false, cond, ◌||◌}
use mathlib.Core.List.{List, [], ◌∷◌, ◌++◌}
use Prim.Native.Nat.{ℕ, zero, suc, ◌+◌, ◌<◌, ◌≤◌}
use native.Mathlib.Nat.{zero-add}
use native.Mathlib.Omega.{arith}
use lib.ListN.{length}
use lib.Dec.{eqb}
use borrow.Author.Tests.{eqb-true, eqb-false}
use Rattle.rules.specs.Fold.{count_below}
use Rattle.rules.specs.Plan.{Plan}
use Rattle.rules.proofs.Folds.{count_same}
use Rattle.rules.proofs.Tests.{look, clash, and_holds, and_both, or_holds, or_right}
use Rattle.automaton.specs.Listing.{listed_from, listed, listed_down, some_of, every_of}
use Rattle.automaton.specs.Configuration.{NConf, Conf, Vect}
use Rattle.automaton.specs.Semantics.{FailReading, Act, Step, VStep, VECT, Run, stop, step}

-- two tests that imply each other
pub alike : (a b : Bool) → (a ≡ true → b ≡ true) → (b ≡ true → a ≡ true) → a ≡ b
alike true b f g = sym (f refl)
alike false true f g = g refl
alike false false f g = refl

module _ {A : Type 0} where
  pick : (b c : Bool) (x y : A) (xs ys : List A) → b ≡ c → (b ≡ true → x ≡ y) → xs ≡ ys → cond b (x ∷ xs) xs ≡ cond c (y ∷ ys) ys
  pick true true x y xs ys h e q = ap₂ (λ a b. a ∷ b) (e refl) q
  pick true false x y xs ys h e q = clash refl h
  pick false true x y xs ys h e q = clash h refl
  pick false false x y xs ys h e q = q

  from_same : (n i : ℕ) (f f' : ℕ → Bool) (g g' : ℕ → A) → ((k : ℕ) → i ≤ k → k < i + n → f k ≡ f' k)
      → ((k : ℕ) → i ≤ k → k < i + n → f k ≡ true → g k ≡ g' k) → listed_from n i f g ≡ listed_from n i f' g'
  unfolding listed_from
  from_same zero i f f' g g' h e = refl
  from_same (suc n) i f f' g g' h e =
      pick (f i) (f' i) (g i) (g' i) (listed_from n (suc i) f g) (listed_from n (suc i) f' g') (h i (omega arith) (omega arith)) (e i (omega arith) (omega arith))
      (from_same n (suc i) f f' g g' (λ k b c. h k (omega arith) (omega arith)) (λ k b c. e k (omega arith) (omega arith)))

  -- two sequences with the same members
  pub listed_same : (n : ℕ) (f f' : ℕ → Bool) (g g' : ℕ → A) → ((k : ℕ) → k < n → f k ≡ f' k)
      → ((k : ℕ) → k < n → f k ≡ true → g k ≡ g' k) → listed n f g ≡ listed n f' g'
  unfolding listed
  listed_same n f f' g g' h e = from_same n 0 f f' g g' (λ k b c. h k (omega arith)) (λ k b c. e k (omega arith))

  from_none : (n i : ℕ) (f : ℕ → Bool) (g : ℕ → A) → ((k : ℕ) → k < i + n → f k ≡ false) → listed_from n i f g ≡ []
  unfolding listed_from
  from_none zero i f g h = refl
  from_none (suc n) i f g h = rw (h i (omega arith)) (from_none n (suc i) f g (λ k b. h k (omega arith)))

  -- none passes
  pub listed_none : (n : ℕ) (f : ℕ → Bool) (g : ℕ → A) → ((k : ℕ) → k < n → f k ≡ false) → listed n f g ≡ []
  unfolding listed
  listed_none n f g h = from_none n 0 f g (λ k b. h k (omega arith))

  -- tests
  module _ (test : A → Bool) where
    pub from_every : (n i : ℕ) (f : ℕ → Bool) (g : ℕ → A) → ((k : ℕ) → i ≤ k → k < i + n → f k ≡ true → test (g k) ≡ true) → every_of test (listed_from n i f g) ≡ true
    unfolding listed_from every_of
    from_every zero i f g h = refl
    from_every (suc n) i f g h = go (f i) refl (from_every n (suc i) f g (λ k b c. h k (omega arith) (omega arith)))
      where
        go : (b : Bool) → f i ≡ b → every_of test (listed_from n (suc i) f g) ≡ true → every_of test (cond b (g i ∷ listed_from n (suc i) f g) (listed_from n (suc i) f g)) ≡ true
        go true e r = and_both (test (g i)) (every_of test (listed_from n (suc i) f g)) (h i (omega arith) (omega arith) e) r
        go false e r = r

    from_every_at : (n i : ℕ) (f : ℕ → Bool) (g : ℕ → A) → every_of test (listed_from n i f g) ≡ true → (k : ℕ) → i ≤ k → k < i + n → f k ≡ true → test (g k) ≡ true
    unfolding listed_from every_of
    from_every_at zero i f g h k b c y = absurd (omega arith)
    from_every_at (suc n) i f g h k b c y = go (f i) refl h (λ r d. from_every_at n (suc i) f g r k d (omega arith) y)
      where
        go : (x : Bool) → f i ≡ x → every_of test (cond x (g i ∷ listed_from n (suc i) f g) (listed_from n (suc i) f g)) ≡ true
            → (every_of test (listed_from n (suc i) f g) ≡ true → suc i ≤ k → test (g k) ≡ true) → test (g k) ≡ true
        go true e r ih =
            let (s, t) = and_holds (test (g i)) (every_of test (listed_from n (suc i) f g)) r in
            elim (look (eqb i k)) [
              | inl q ↦ subst (λ z. test (g z) ≡ true) (eqb-true i k q) s
              | inr q ↦ let d = eqb-false i k q in ih t (omega arith)
            ]
        go false e r ih =
            elim (look (eqb i k)) [
              | inl q ↦ clash y (subst (λ z. f z ≡ false) (eqb-true i k q) e)
              | inr q ↦ let d = eqb-false i k q in ih r (omega arith)
            ]

    from_some : (n i : ℕ) (f : ℕ → Bool) (g : ℕ → A) (k : ℕ) → i ≤ k → k < i + n → f k ≡ true → test (g k) ≡ true → some_of test (listed_from n i f g) ≡ true
    unfolding listed_from some_of
    from_some zero i f g k b c y h = absurd (omega arith)
    from_some (suc n) i f g k b c y h = go (f i) refl (λ d. from_some n (suc i) f g k d (omega arith) y h)
      where
        go : (x : Bool) → f i ≡ x → (suc i ≤ k → some_of test (listed_from n (suc i) f g) ≡ true)
            → some_of test (cond x (g i ∷ listed_from n (suc i) f g) (listed_from n (suc i) f g)) ≡ true
        go true e ih =
            elim (look (eqb i k)) [
              | inl q ↦ ap (λ z. z || some_of test (listed_from n (suc i) f g)) (subst (λ z. test (g z) ≡ true) (sym (eqb-true i k q)) h)
              | inr q ↦ let d = eqb-false i k q in or_right (test (g i)) (some_of test (listed_from n (suc i) f g)) (ih (omega arith))
            ]
        go false e ih =
            elim (look (eqb i k)) [
              | inl q ↦ clash y (subst (λ z. f z ≡ false) (eqb-true i k q) e)
              | inr q ↦ let d = eqb-false i k q in ih (omega arith)
            ]

    from_some_find : (n i : ℕ) (f : ℕ → Bool) (g : ℕ → A) → some_of test (listed_from n i f g) ≡ true
        → (k : ℕ) × (k < i + n) × (f k ≡ true) × (test (g k) ≡ true)
    unfolding listed_from some_of
    from_some_find zero i f g h = clash h refl
    from_some_find (suc n) i f g h = go (f i) refl h (λ r. let (k, b, y, q) = from_some_find n (suc i) f g r in (k, omega arith, y, q))
      where
        go : (x : Bool) → f i ≡ x → some_of test (cond x (g i ∷ listed_from n (suc i) f g) (listed_from n (suc i) f g)) ≡ true
            → (some_of test (listed_from n (suc i) f g) ≡ true → (k : ℕ) × (k < i + suc n) × (f k ≡ true) × (test (g k) ≡ true))
            → (k : ℕ) × (k < i + suc n) × (f k ≡ true) × (test (g k) ≡ true)
        go true e r ih =
            elim (or_holds (test (g i)) (some_of test (listed_from n (suc i) f g)) r) [ inl q ↦ (i, omega arith, e, q) | inr q ↦ ih q ]
        go false e r ih = ih r

    pub listed_every : (n : ℕ) (f : ℕ → Bool) (g : ℕ → A) → ((k : ℕ) → k < n → f k ≡ true → test (g k) ≡ true) → every_of test (listed n f g) ≡ true
    unfolding listed
    listed_every n f g h = from_every n 0 f g (λ k b c. h k (omega arith))

    pub listed_every_at : (n : ℕ) (f : ℕ → Bool) (g : ℕ → A) → every_of test (listed n f g) ≡ true → (k : ℕ) → k < n → f k ≡ true → test (g k) ≡ true
    unfolding listed
    listed_every_at n f g h k b = from_every_at n 0 f g h k (omega arith) (omega arith)

    pub listed_some : (n : ℕ) (f : ℕ → Bool) (g : ℕ → A) (k : ℕ) → k < n → f k ≡ true → test (g k) ≡ true → some_of test (listed n f g) ≡ true
    unfolding listed
    listed_some n f g k b y h = from_some n 0 f g k (omega arith) (omega arith) y h

    pub listed_some_find : (n : ℕ) (f : ℕ → Bool) (g : ℕ → A) → some_of test (listed n f g) ≡ true → (k : ℕ) × (k < n) × (f k ≡ true) × (test (g k) ≡ true)
    unfolding listed
    listed_some_find n f g h = let (k, b, y, q) = from_some_find n 0 f g h in (k, omega arith, y, q)

-- How many members.
count_front : (n : ℕ) (f : ℕ → Bool) → count_below (suc n) f ≡ cond (f 0) 1 0 + count_below n (λ k. f (suc k))
unfolding count_below
count_front zero f = let a : ℕ = cond (f 0) 1 0 in omega arith
count_front (suc n) f =
    let i = count_front n f in
    let a : ℕ = cond (f 0) 1 0 in
    let b : ℕ = cond (f (suc n)) 1 0 in
    let c : ℕ = count_below n (λ k. f (suc k)) in
    ap (λ x. x + cond (f (suc n)) 1 0) i ∙ (let e : (a + c) + b ≡ a + (c + b) = omega arith in e)

length-one_lem : {A : Type 0} (b : Bool) (x : A) (xs : List A) → length (cond b (x ∷ xs) xs) ≡ cond b 1 0 + length xs
length-one_lem true x xs = let n : ℕ = length xs in omega arith
length-one_lem false x xs = let n : ℕ = length xs in omega arith

from_length : {A : Type 0} (n i : ℕ) (f : ℕ → Bool) (g : ℕ → A) → length (listed_from n i f g) ≡ count_below n (λ k. f (i + k))
unfolding listed_from
from_length zero i f g = unfold count_below in refl
from_length (suc n) i f g =
    length-one_lem (f i) (g i) (listed_from n (suc i) f g)
    ∙ ap₂ (λ x y. cond (f x) 1 0 + y) (let e : i ≡ i + 0 = omega arith in e)
    (from_length n (suc i) f g ∙ count_same n (λ k. f (suc i + k)) (λ k. f (i + suc k)) (λ k b. ap f (omega arith)))
    ∙ sym (count_front n (λ k. f (i + k)))

pub listed_length : {A : Type 0} (n : ℕ) (f : ℕ → Bool) (g : ℕ → A) → length (listed n f g) ≡ count_below n f
unfolding listed
listed_length n f g = from_length n 0 f g ∙ count_same n (λ k. f (0 + k)) f (λ k b. ap f (omega arith))

-- Steps of vectors.
module _ (p : Plan) (ρ : FailReading) where
  -- one member takes a step
  pub record Splits (a : Act) (xs ys : List NConf) : Type 0 where
    pub front : List NConf
    pub back : List NConf
    pub old : NConf
    pub new : NConf
    pub was : xs ≡ front ++ (old ∷ back)
    pub now : ys ≡ front ++ (new ∷ back)
    pub by : Step p ρ old a new

  split_step : {a : Act} {xs ys : List NConf} → Splits a xs ys → VStep p ρ (Vect xs) a (Vect ys)
  split_step {a} {xs} {ys} s =
      subst (λ z. VStep p ρ (Vect z) a (Vect ys)) (sym s.was)
      (subst (λ z. VStep p ρ (Vect (s.front ++ (s.old ∷ s.back))) a (Vect z)) (sym s.now) (VECT s.front s.back s.by))

  here : (a : Act) (x y : NConf) (xs ys : List NConf) → Step p ρ x a y → xs ≡ ys → Splits a (x ∷ xs) (y ∷ ys)
  here a x y xs ys s e = record { front = []; back = xs; old = x; new = y; was = refl; now = ap (λ z. y ∷ z) (sym e); by = s }

  there : (a : Act) (x y : NConf) (xs ys : List NConf) → x ≡ y → Splits a xs ys → Splits a (x ∷ xs) (y ∷ ys)
  there a x y xs ys e s =
      record {
        front = x ∷ s.front;
        back = s.back;
        old = s.old;
        new = s.new;
        was = ap (λ z. x ∷ z) s.was;
        now = ap₂ (λ z w. z ∷ w) (sym e) s.now;
        by = s.by;
      }

  from_step : (a : Act) (n i : ℕ) (f : ℕ → Bool) (g g' : ℕ → NConf) (u : ℕ) → i ≤ u → u < i + n → f u ≡ true → Step p ρ (g u) a (g' u)
      → ((k : ℕ) → k < i + n → f k ≡ true → (k ≡ u → ⊥) → g k ≡ g' k) → Splits a (listed_from n i f g) (listed_from n i f g')
  unfolding listed_from
  from_step a zero i f g g' u b c y s h = absurd (omega arith)
  from_step a (suc n) i f g g' u b c y s h = go (f i) refl (λ d. from_step a n (suc i) f g g' u d (omega arith) y s (λ k e. h k (omega arith)))
    where
      go : (x : Bool) → f i ≡ x → (suc i ≤ u → Splits a (listed_from n (suc i) f g) (listed_from n (suc i) f g'))
          → Splits a (cond x (g i ∷ listed_from n (suc i) f g) (listed_from n (suc i) f g)) (cond x (g' i ∷ listed_from n (suc i) f g') (listed_from n (suc i) f g'))
      go true e ih =
          elim (look (eqb i u)) [
            | inl q ↦
                let w : i ≡ u = eqb-true i u q in
                here a (g i) (g' i) (listed_from n (suc i) f g) (listed_from n (suc i) f g') (subst (λ z. Step p ρ (g z) a (g' z)) (sym w) s)
                (from_same n (suc i) f f g g' (λ k j m. refl) (λ k j m x. h k (omega arith) x (λ z. let v : k ≡ u = z in absurd (omega arith))))
            | inr q ↦
                let d = eqb-false i u q in
                there a (g i) (g' i) (listed_from n (suc i) f g) (listed_from n (suc i) f g') (h i (omega arith) e d) (ih (omega arith))
          ]
      go false e ih =
          elim (look (eqb i u)) [
            | inl q ↦ clash y (subst (λ z. f z ≡ false) (eqb-true i u q) e)
            | inr q ↦ let d = eqb-false i u q in ih (omega arith)
          ]

  -- a step of one member is a step of the vector
  pub listed_step : (a : Act) (n : ℕ) (f : ℕ → Bool) (g g' : ℕ → NConf) (u : ℕ) → u < n → f u ≡ true → Step p ρ (g u) a (g' u)
      → ((k : ℕ) → k < n → f k ≡ true → (k ≡ u → ⊥) → g k ≡ g' k) → VStep p ρ (Vect (listed n f g)) a (Vect (listed n f g'))
  unfolding listed
  listed_step a n f g g' u b y s h = split_step (from_step a n 0 f g g' u (omega arith) (omega arith) y s (λ k c. h k (omega arith)))

  -- Runs: joined, and one step for each number that passes a test.
  pub run_then : {c d e : Conf} {v w : List Act} → Run p ρ c v d → Run p ρ d w e → Run p ρ c (v ++ w) e
  run_then stop r = r
  run_then (step s q) r = step s (run_then q r)

  pub run_same : {c d e : Conf} {w : List Act} → Run p ρ c w d → d ≡ e → Run p ρ c w e
  run_same {c} {d} {e} {w} r q = subst (λ z. Run p ρ c w z) q r

  run_from_lem : (n i : ℕ) (f : ℕ → Bool) (act : ℕ → Act) (C : ℕ → Conf)
      → ((k : ℕ) → k < i + n → f k ≡ true → VStep p ρ (C k) (act k) (C (suc k)))
      → ((k : ℕ) → k < i + n → f k ≡ false → C k ≡ C (suc k)) → Run p ρ (C i) (listed_from n i f act) (C (n + i))
  unfolding listed_from
  run_from_lem zero i f act C h e = run_same stop (ap C (sym (zero-add i)))
  run_from_lem (suc n) i f act C h e =
      run_same (go (f i) refl (run_from_lem n (suc i) f act C (λ k b. h k (omega arith)) (λ k b. e k (omega arith)))) (ap C (omega arith))
    where
      go : (x : Bool) → f i ≡ x → Run p ρ (C (suc i)) (listed_from n (suc i) f act) (C (n + suc i))
          → Run p ρ (C i) (cond x (act i ∷ listed_from n (suc i) f act) (listed_from n (suc i) f act)) (C (n + suc i))
      go true y r = step (h i (omega arith) y) r
      go false y r = subst (λ z. Run p ρ z (listed_from n (suc i) f act) (C (n + suc i))) (sym (e i (omega arith) y)) r

  pub run_listed : (n : ℕ) (f : ℕ → Bool) (act : ℕ → Act) (C : ℕ → Conf) → ((k : ℕ) → k < n → f k ≡ true → VStep p ρ (C k) (act k) (C (suc k)))
      → ((k : ℕ) → k < n → f k ≡ false → C k ≡ C (suc k)) → Run p ρ (C 0) (listed n f act) (C n)
  unfolding listed
  run_listed n f act C h e = run_same (run_from_lem n 0 f act C (λ k b. h k (omega arith)) (λ k b. e k (omega arith))) (ap C (omega arith))

  pub run_down : (n : ℕ) (f : ℕ → Bool) (act : ℕ → Act) (C : ℕ → Conf) → ((k : ℕ) → k < n → f k ≡ true → VStep p ρ (C (suc k)) (act k) (C k))
      → ((k : ℕ) → k < n → f k ≡ false → C (suc k) ≡ C k) → Run p ρ (C n) (listed_down n f act) (C 0)
  unfolding listed_down
  run_down zero f act C h e = stop
  run_down (suc n) f act C h e = go (f n) refl (run_down n f act C (λ k b. h k (omega arith)) (λ k b. e k (omega arith)))
    where
      go : (x : Bool) → f n ≡ x → Run p ρ (C n) (listed_down n f act) (C 0)
          → Run p ρ (C (suc n)) (cond x (act n ∷ listed_down n f act) (listed_down n f act)) (C 0)
      go true y r = step (h n (omega arith) y) r
      go false y r = subst (λ z. Run p ρ z (listed_down n f act) (C 0)) (sym (e n (omega arith) y)) r
