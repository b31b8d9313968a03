-- Changes done one after another, a word of them for each track, the tracks' words composed in rising track order. The one fact that
-- carries property 3 is `put_behind`: words put behind each track's own may as well be put behind all of them, if each commutes with
-- what the higher tracks have. Nothing here knows of plans or ledgers. Assumes nothing.
use mathlib.Core.Path.{◌≡◌, refl, ap, sym, ◌∙◌}
use mathlib.Core.Logic.{◌⊎◌, inl, inr}
use mathlib.Core.List.{List, [], ◌∷◌, ◌++◌, append-nil}
use mathlib.Core.Bool.{Bool, true, false, cond}
use Prim.Native.Nat.{ℕ, zero, suc, ◌<◌}
use native.Mathlib.Omega.{arith}
use native.Mathlib.Nat.{not-suc-le-zero}
use lib.Dec.{eqb, ltb}
use borrow.Author.Tests.{eqb-true, eqb-false, eq-eqb, ne_eqb, lt-ltb, le-ltb, ltb-true}
use Rattle.rules.proofs.Tests.{look, clash}
use Rattle.theory.specs.Runs.{act}

-- a word of changes, each named by its transition
abbrev pub Word : Type 0
Word = List ℕ

-- the word, if the test passes
abbrev pub when : {C : Type 0} → Bool → List C → List C
when b w = cond b w []

-- the words of the tracks below n, one after another
unfoldable pub join : {C : Type 0} → ℕ → (ℕ → List C) → List C
join zero A = []
join (suc n) A = join n A ++ A n

-- every letter of a word
pub data All {C : Type 0} (P : C → Type 0) : List C → Type 0 where
  none : All P []
  one : {x : C} {w : List C} → P x → All P w → All P (x ∷ w)

pub all_append : {C : Type 0} {P : C → Type 0} {v w : List C} → All P v → All P w → All P (v ++ w)
all_append none k = k
all_append (one h hs) k = one h (all_append hs k)

pub all_map : {C : Type 0} {P Q : C → Type 0} → ((x : C) → P x → Q x) → {w : List C} → All P w → All Q w
all_map f none = none
all_map f (one {x} h hs) = one (f x h) (all_map f hs)

pub all_when : {C : Type 0} {P : C → Type 0} (b : Bool) {w : List C} → (b ≡ true → All P w) → All P (when b w)
all_when true h = h refl
all_when false h = none

pub all_join : {C : Type 0} {P : C → Type 0} (n : ℕ) (A : ℕ → List C) → ((t : ℕ) → t < n → All P (A t)) → All P (join n A)
unfolding join
all_join zero A h = none
all_join (suc n) A h = all_append (all_join n A (λ t l. h t (omega arith))) (h n (omega arith))

pub when_nil : {C : Type 0} (b : Bool) → when {C = C} b [] ≡ []
when_nil true = refl
when_nil false = refl

pub when_append : {C : Type 0} (b : Bool) (v w : List C) → when b (v ++ w) ≡ when b v ++ when b w
when_append true v w = refl
when_append false v w = refl

pub join_same : {C : Type 0} (n : ℕ) (A M : ℕ → List C) → ((t : ℕ) → t < n → A t ≡ M t) → join n A ≡ join n M
unfolding join
join_same zero A M h = refl
join_same (suc n) A M h = cc (join_same n A M (λ t l. h t (omega arith)), h n (omega arith))

pub join_nil : {C : Type 0} (n : ℕ) (A : ℕ → List C) → ((t : ℕ) → t < n → A t ≡ []) → join n A ≡ []
unfolding join
join_nil {C} zero A h = refl
join_nil {C} (suc n) A h = cc (join_nil n A (λ t l. h t (omega arith)), h n (omega arith), append-nil {A = C} [])

-- where one track alone has a word
pub join_single : {C : Type 0} (n t : ℕ) (A : ℕ → List C) → t < n → ((u : ℕ) → u < n → (u ≡ t → ⊥) → A u ≡ []) → join n A ≡ A t
unfolding join
join_single zero t A l h = absurd (not-suc-le-zero l)
join_single (suc n) t A l h =
    elim (look (eqb n t)) [
      | inl e ↦
          let q = eqb-true n t e in
          rw (join_nil n A (λ u m. h u (omega arith) (λ f. omega arith))) (ap A q)
      | inr e ↦
          let f : n ≡ t → ⊥ = eqb-false n t e in
          rw (h n (omega arith) f, append-nil (join n A)) (join_single n t A (omega arith) (λ u m. h u (omega arith)))
    ]

module _ {C B : Type 0} (changed : C → B → B) where
  -- two words that lead from every state to the same one, and two that commute
  abbrev pub Same : List C → List C → Type 0
  Same v w = (b : B) → act changed v b ≡ act changed w b

  abbrev pub Swap : List C → List C → Type 0
  Swap v w = (b : B) → act changed w (act changed v b) ≡ act changed v (act changed w b)

  abbrev pub Commute : C → C → Type 0
  Commute x y = (b : B) → changed y (changed x b) ≡ changed x (changed y b)

  pub act_append : (v w : List C) (b : B) → act changed (v ++ w) b ≡ act changed w (act changed v b)
  unfolding act
  act_append [] w b = refl
  act_append (x ∷ v) w b = act_append v w (changed x b)

  swap_letter : (x : C) (w : List C) → All (Commute x) w → (b : B) → act changed w (changed x b) ≡ changed x (act changed w b)
  unfolding act
  swap_letter x [] none b = refl
  swap_letter x (y ∷ w) (one h hs) b = rw (h b) (swap_letter x w hs (changed y b))

  pub swap_words : (v w : List C) → All (λ x. All (Commute x) w) v → Swap v w
  unfolding act
  swap_words [] w none b = refl
  swap_words (x ∷ v) w (one h hs) b = rw (swap_words v w hs (changed x b)) (ap (act changed v) (swap_letter x w h b))

  pub swap_nil : (v : List C) → Swap v []
  unfolding act
  swap_nil v b = refl

  pub nil_swap : (w : List C) → Swap [] w
  unfolding act
  nil_swap w b = refl

  pub swap_append : (u v w : List C) → Swap u w → Swap v w → Swap (u ++ v) w
  swap_append u v w h k b = rw (act_append u v b, act_append u v (act changed w b), k (act changed u b), h b)

  pub swap_when : (c d : Bool) (v w : List C) → (c ≡ true → d ≡ true → Swap v w) → Swap (when c v) (when d w)
  swap_when true true v w h = h refl refl
  swap_when true false v w h = swap_nil v
  swap_when false true v w h = nil_swap w
  swap_when false false v w h = nil_swap []

  swap_join : (n : ℕ) (M : ℕ → List C) (w : List C) → ((t : ℕ) → t < n → Swap (M t) w) → Swap (join n M) w
  unfolding join
  swap_join zero M w h = nil_swap w
  swap_join (suc n) M w h = swap_append (join n M) (M n) w (swap_join n M w (λ t l. h t (omega arith))) (h n (omega arith))

  pub same_join : (n : ℕ) (A M : ℕ → List C) → ((t : ℕ) → t < n → Same (A t) (M t)) → Same (join n A) (join n M)
  unfolding join
  same_join zero A M h b = refl
  same_join (suc n) A M h b =
      rw (
        act_append (join n A) (A n) b,
        act_append (join n M) (M n) b,
        same_join n A M (λ t l. h t (omega arith)) b,
        h n (omega arith) (act changed (join n M) b),
      )

  -- where no track's word does anything, and where one track's alone does
  pub join_still : (n : ℕ) (A : ℕ → List C) → ((u : ℕ) → u < n → Same (A u) []) → Same (join n A) []
  join_still n A h b = same_join n A (λ u. []) h b ∙ ap (λ w. act changed w b) (join_nil n (λ u. []) (λ u l. refl))

  pub join_alone : (n t : ℕ) (A : ℕ → List C) → t < n → ((u : ℕ) → u < n → (u ≡ t → ⊥) → Same (A u) []) → Same (join n A) (A t)
  join_alone n t A l h b =
      same_join n A (λ u. when (eqb u t) (A u))
      (λ u m. elim (look (eqb u t)) [ inl e ↦ rw e (λ b. refl) | inr e ↦ rw e (h u m (eqb-false u t e)) ]) b
      ∙ ap (λ w. act changed w b)
      (join_single n t (λ u. when (eqb u t) (A u)) l (λ u m f. rw (ne_eqb u t f)) ∙ (rw (eq-eqb t t refl)))

  pub same_when : (c : Bool) (v w : List C) → Same v w → Same (when c v) (when c w)
  same_when true v w h = h
  same_when false v w h = λ b. refl

  -- words put behind each track's own may as well be put behind all, if each commutes with what the higher tracks have
  pub put_behind : (n : ℕ) (A M : ℕ → List C) → ((t k : ℕ) → t < k → k < n → Swap (M t) (A k)) → (b : B)
      → act changed (join n (λ t. A t ++ M t)) b ≡ act changed (join n M) (act changed (join n A) b)
  unfolding join act
  put_behind zero A M h b = refl
  put_behind (suc n) A M h b =
      act_append (join n (λ t. A t ++ M t)) (A n ++ M n) b
      ∙ (rw (
        act_append (A n) (M n),
        put_behind n A M (λ t k l m. h t k l (omega arith)) b,
        act_append (join n M) (M n),
        act_append (join n A) (A n),
        swap_join n M (A n) (λ t l. h t n l (omega arith)) (act changed (join n A) b),
      ))

  -- the same of the tracks that pass a test
  pub put_behind_of : (S : ℕ → Bool) (n : ℕ) (A M : ℕ → List C) → ((t k : ℕ) → t < k → k < n → Swap (M t) (A k)) → (b : B)
      → act changed (join n (λ t. when (S t) (A t ++ M t))) b
      ≡ act changed (join n (λ t. when (S t) (M t))) (act changed (join n (λ t. when (S t) (A t))) b)
  put_behind_of S n A M h b =
      ap (λ w. act changed w b)
      (join_same n (λ t. when (S t) (A t ++ M t)) (λ t. when (S t) (A t) ++ when (S t) (M t)) (λ t l. when_append (S t) (A t) (M t)))
      ∙ put_behind n (λ t. when (S t) (A t)) (λ t. when (S t) (M t))
      (λ t k l m. swap_when (S t) (S k) (M t) (A k) (λ c d. h t k l m)) b

  -- Words gathered: where all words commute, they may be taken in groups, those of group t (the tracks u with `of u` t) together.
  module _ (n : ℕ) (of : ℕ → ℕ) (M : ℕ → List C) (swaps : (t k : ℕ) → t < k → k < n → Swap (M t) (M k)) where
    abbrev group : ℕ → List C
    group t = join n (λ u. when (eqb (of u) t) (M u))

    grow : (b c : Bool) (w : List C) (d : Bool) → (b ≡ true → d ≡ true) → (c ≡ true → d ≡ true) → (d ≡ true → c ≡ false → b ≡ true)
        → (c ≡ true → b ≡ false) → when b w ++ when c w ≡ when d w
    grow true true w d f g h k = clash refl (k refl)
    grow true false w d f g h k = rw (f refl, append-nil)
    grow false true w d f g h k = rw (g refl)
    grow false false w true f g h k = clash (h refl refl) refl
    grow false false w false f g h k = refl

    gathered : (k : ℕ) → Same (join k group) (join n (λ u. when (ltb (of u) k) (M u)))
    unfolding join
    gathered zero b = ap (λ w. act changed w b) (sym (join_nil n (λ u. when (ltb (of u) 0) (M u)) (λ u l. rw (le-ltb (of u) 0 (omega arith)))))
    gathered (suc k) b =
        let A : ℕ → List C = λ u. when (ltb (of u) k) (M u) in
        let G : ℕ → List C = λ u. when (eqb (of u) k) (M u) in
        act_append (join k group) (group k) b
        ∙ ap (act changed (group k)) (gathered k b)
        ∙ sym (put_behind n A G (λ t j l m. swap_when (eqb (of t) k) (ltb (of j) k) (M t) (M j) (λ c d. swaps t j l m)) b)
        ∙ ap (λ w. act changed w b)
        (join_same n (λ u. A u ++ G u) (λ u. when (ltb (of u) (suc k)) (M u))
        (λ u l.
        grow (ltb (of u) k) (eqb (of u) k) (M u) (ltb (of u) (suc k))
        (λ e. let x = ltb-true (of u) k e in lt-ltb (of u) (suc k) (omega arith))
        (λ e. let x = eqb-true (of u) k e in lt-ltb (of u) (suc k) (omega arith))
        (λ e f. let x = ltb-true (of u) (suc k) e in let y : of u ≡ k → ⊥ = eqb-false (of u) k f in lt-ltb (of u) k (omega arith))
        (λ e. let x = eqb-true (of u) k e in le-ltb (of u) k (omega arith))))

    pub gather : ((u : ℕ) → u < n → (of u < n) ⊎ (M u ≡ [])) → Same (join n group) (join n M)
    gather within b =
        gathered n b
        ∙ ap (λ w. act changed w b)
        (join_same n (λ u. when (ltb (of u) n) (M u)) M
        (λ u l. elim (within u l) [ inl h ↦ rw (lt-ltb (of u) n h) | inr h ↦ rw (h, when_nil (ltb (of u) n)) ]))
