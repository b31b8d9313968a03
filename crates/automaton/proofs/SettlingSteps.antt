-- Settling takes the same steps in whatever order: how many of them pass a test is told by the configuration, from whose number each silent step
-- that passes it takes one away, and where none applies it is 0. Assumes nothing.
use mathlib.Core.Path.{◌≡◌, refl, sym, ap, ◌∙◌}
use mathlib.Core.Logic.{inl, inr}
use mathlib.Core.Bool.{Bool, true, false, cond, and-false, ◌||◌}
use mathlib.Core.List.{List, [], ◌∷◌, ◌++◌}
use Prim.Native.Nat.{ℕ, zero, suc, ◌+◌}
use native.Mathlib.Omega.{arith}
use Rattle.rules.specs.Plan.{Plan, track_count, is_final, is_in, is_hosting, first_state}
use Rattle.rules.proofs.Tests.{look, clash, refuted, and_holds, or_holds}
use Rattle.rules.proofs.Acceptance.{Accepted}
use Rattle.automaton.specs.Listing.{listed_from, listed, some_of, every_of}
use Rattle.automaton.specs.Configuration.{Direction, forward, backward, Comp, Dev, Stack, NConf, Basic, Nest, Conf, end, next, Vect, members, is_forwards, is_backwards, is_empty_stack, is_terminated, is_compensated, has_terminated, has_compensated, init_by, goto_to, goto}
use Rattle.automaton.specs.Semantics.{FailReading, Act, dev_at, nestsuc_at, nestfail_at, nestcomp_at, trace, SUC, FAIL, FAILNEST, COMP, DEV, NESTSUC, NESTFAIL, NESTCOMP, NEST, VStep, VECT}
use Rattle.automaton.specs.StepTests.{number_of, is_mute, is_silent}
use Rattle.automaton.specs.BigSteps.{Steps, stay, more, acts_in, Exhausted}
use Rattle.automaton.proofs.FailNumber.{both_none}
use Rattle.automaton.proofs.Confluence.{settle_all, terminated_still, compensated_still, finished_still, not_both, either, unterminated, uncompensated, start_still, silent_same, settled_still, Still, first_still, later_still}

none_first : (a b : ℕ) → a ≡ 0 → a + b ≡ b
none_first a b e = omega arith

none_last : (a b : ℕ) → b ≡ 0 → a ≡ a + b
none_last a b e = omega arith

module _ (p : Plan) (ρ : FailReading) (f : Act → Bool) where
  one : Act → ℕ
  one a = cond (f a) 1 0

  -- DEV, where a deviation is on top
  dev_steps : ℕ → Stack → ℕ
  dev_steps A [] = 0
  dev_steps A (Comp c ∷ S) = 0
  dev_steps A (Dev d ∷ S) = one (dev_at A d)

  basic_steps : ℕ → Direction → Stack → ℕ
  basic_steps A forward S = 0
  basic_steps A backward S = dev_steps A S

  -- a host whose vector is as it will be
  host_steps : ℕ → Direction → Stack → Conf → ℕ
  host_steps A forward S c = cond (has_terminated p c) (one (nestsuc_at A)) (cond (has_compensated p c) (one (nestfail_at A) + dev_steps A S) 0)
  host_steps A backward S c = cond (has_terminated p c || has_compensated p c) (one (nestcomp_at A) + dev_steps A S) 0

  mutual
    settling_of : NConf → ℕ
    settling_of (Basic A q r S) = basic_steps A r S
    settling_of (Nest A q r S c) = settling_of_all c + host_steps A r S (settle_all p ρ c)

    settling_of_all : Conf → ℕ
    settling_of_all end = 0
    settling_of_all (next n c) = settling_of n + settling_of_all c

  member_less : (x : ℕ) (α β : List NConf) (n m : NConf) → settling_of n ≡ x + settling_of m
      → settling_of_all (Vect (α ++ (n ∷ β))) ≡ x + settling_of_all (Vect (α ++ (m ∷ β)))
  unfolding settling_of_all Vect
  member_less x [] β n m h =
      let a : ℕ = settling_of n in let b : ℕ = settling_of m in let c : ℕ = settling_of_all (Vect β) in
      let e : a ≡ x + b = h in let g : a + c ≡ x + (b + c) = omega arith in g
  member_less x (k ∷ α) β n m h =
      let i = member_less x α β n m h in
      let a : ℕ = settling_of k in let b : ℕ = settling_of_all (Vect (α ++ (n ∷ β))) in let c : ℕ = settling_of_all (Vect (α ++ (m ∷ β))) in
      let e : b ≡ x + c = i in let g : a + b ≡ x + (a + c) = omega arith in g

  -- what is terminated or compensated settles no more
  over_none : (n : NConf) → (is_terminated p n || is_compensated p n) ≡ true → settling_of n ≡ 0
  unfolding settling_of basic_steps dev_steps is_terminated is_compensated is_forwards is_backwards is_empty_stack
  over_none (Basic A q forward S) h = refl
  over_none (Basic A q backward []) h = refl
  over_none (Basic A q backward (s ∷ S)) h = clash h (ap (λ x. x || false) (and-false (is_final p q)))
  over_none (Nest A q r S c) h = clash h refl

  every_none : (c : Conf) → every_of (λ n. is_terminated p n || is_compensated p n) (members c) ≡ true → settling_of_all c ≡ 0
  unfolding settling_of_all members every_of
  every_none end h = refl
  every_none (next n c) h =
      let (x, y) = and_holds (is_terminated p n || is_compensated p n) (every_of (λ n. is_terminated p n || is_compensated p n) (members c)) h in
      both_none (settling_of n) (settling_of_all c) (over_none n x) (every_none c y)

  terminated_none : (c : Conf) → has_terminated p c ≡ true → settling_of_all c ≡ 0
  unfolding has_terminated
  terminated_none c h =
      every_none c (and_holds (some_of (is_terminated p) (members c)) (every_of (λ n. is_terminated p n || is_compensated p n) (members c)) h).1

  compensated_none : (c : Conf) → has_compensated p c ≡ true → settling_of_all c ≡ 0
  unfolding has_compensated
  compensated_none c h = every_none c (either p ρ c h)

  listed_none : (n i : ℕ) (h : ℕ → Bool) (g : ℕ → NConf) → ((k : ℕ) → settling_of (g k) ≡ 0) → settling_of_all (Vect (listed_from n i h g)) ≡ 0
  unfolding listed_from Vect settling_of_all
  listed_none zero i h g e = refl
  listed_none (suc n) i h g e = go (h i) (listed_none n (suc i) h g e)
    where
      go : (x : Bool) → settling_of_all (Vect (listed_from n (suc i) h g)) ≡ 0
          → settling_of_all (Vect (cond x (g i ∷ listed_from n (suc i) h g) (listed_from n (suc i) h g))) ≡ 0
      go true r = both_none (settling_of (g i)) (settling_of_all (Vect (listed_from n (suc i) h g))) (e i) r
      go false r = r

  -- the numbers of a host, by what its vector is
  closes : (A : ℕ) (S : Stack) (c d : Conf) → settle_all p ρ c ≡ d → has_terminated p d ≡ true → host_steps A forward S (settle_all p ρ c) ≡ one (nestsuc_at A)
  unfolding host_steps
  closes A S c d e t = ap (host_steps A forward S) e ∙ rw t

  waits : (A : ℕ) (S : Stack) (c d : Conf) → settle_all p ρ c ≡ d → has_terminated p d ≡ false → has_compensated p d ≡ false → host_steps A forward S (settle_all p ρ c) ≡ 0
  unfolding host_steps
  waits A S c d e t u = ap (host_steps A forward S) e ∙ rw (t, u)

  waits_back : (A : ℕ) (S : Stack) (c : Conf) → settle_all p ρ c ≡ c → (has_terminated p c || has_compensated p c) ≡ false → host_steps A backward S (settle_all p ρ c) ≡ 0
  unfolding host_steps
  waits_back A S c e t = ap (host_steps A backward S) e ∙ rw t

  module _ (ok : Accepted p) where
    goto_none_to : (n A q : ℕ) (S : Stack) → settling_of (goto_to p n A q S) ≡ 0
    unfolding goto_to init_by settling_of basic_steps listed
    goto_none_to zero A q S = refl
    goto_none_to (suc n) A q S =
        elim (look (is_hosting p q)) [
          | inr e ↦ rw e
          | inl e ↦
              let inner : Conf = Vect (listed (track_count p) (is_in p q) (λ B. goto_to p n B (first_state p B) [])) in
              rw e
              (both_none (settling_of_all inner) (host_steps A forward S (settle_all p ρ inner))
              (listed_none (track_count p) 0 (is_in p q) (λ B. goto_to p n B (first_state p B) []) (λ B. goto_none_to n B (first_state p B) []))
              (waits A S inner inner (start_still p ρ ok n q) (unterminated p ρ ok n q) (uncompensated p ρ ok n q e)))
        ]

    goto_none : (A q : ℕ) (S : Stack) → settling_of (goto p A q S) ≡ 0
    unfolding goto
    goto_none A q S = goto_none_to (track_count p) A q S

    -- rule by rule
    silent_less : {c d : Conf} {a : Act} → VStep p ρ c a d → is_silent a ≡ true → settling_of_all c ≡ one a + settling_of_all d
    unfolding settling_of basic_steps dev_steps is_silent is_mute trace
    silent_less s =
        elim s as (λ n a m x. is_silent a ≡ true → settling_of n ≡ one a + settling_of m) (λ c a d x. is_silent a ≡ true → settling_of_all c ≡ one a + settling_of_all d) [
          | SUC A q i x S b e f g m y ↦ λ h. clash h refl
          | FAIL A q S ↦ λ h. clash h refl
          | FAILNEST A q S c w ↦ λ h. clash h refl
          | COMP A q c S ↦ λ h. clash h refl
          | DEV A q d S ↦ λ h. none_last (one (dev_at A d)) (settling_of (goto p A d S)) (goto_none A d S)
          | NESTSUC A q S c t ↦
              λ h.
              none_first (settling_of_all c) (host_steps A forward S (settle_all p ρ c)) (terminated_none c t)
              ∙ closes A S c c (terminated_still p ρ c t) t ∙ none_last (one (nestsuc_at A)) 0 refl
          | NESTFAIL A q S c t ↦
              λ h.
              none_first (settling_of_all c) (host_steps A forward S (settle_all p ρ c)) (compensated_none c t)
              ∙ leaves A S c t
          | NESTCOMP A q S c t ↦
              λ h.
              none_first (settling_of_all c) (host_steps A backward S (settle_all p ρ c)) (finished_none c t)
              ∙ (unfold host_steps in ap (host_steps A backward S) (finished_still p ρ c t) ∙ rw t)
          | NEST A q r S {c = c} {d = d} {a = a} (s → ih) ↦
              λ h.
              inner (settling_of_all c) (one a) (settling_of_all d) (host_steps A r S (settle_all p ρ c)) (host_steps A r S (settle_all p ρ d)) (ih h)
              (ap (host_steps A r S) (silent_same p ρ ok s h))
          | VECT α β {n = n} {m = m} {a = a} (s → ih) ↦ λ h. member_less (one a) α β n m (ih h)
        ]
      where
        inner : (a b c d e : ℕ) → a ≡ b + c → d ≡ e → a + d ≡ b + (c + e)
        inner a b c d e x y = omega arith

        leaves : (A : ℕ) (S : Stack) (c : Conf) → has_compensated p c ≡ true → host_steps A forward S (settle_all p ρ c) ≡ one (nestfail_at A) + dev_steps A S
        leaves A S c t = unfold host_steps in ap (host_steps A forward S) (compensated_still p ρ c t) ∙ rw (not_both p ρ c t, t)

        finished_none : (c : Conf) → (has_terminated p c || has_compensated p c) ≡ true → settling_of_all c ≡ 0
        finished_none c t = elim (or_holds (has_terminated p c) (has_compensated p c) t) [ inl x ↦ terminated_none c x | inr x ↦ compensated_none c x ]

  -- where no silent rule applies
  mutual
    unfolding settling_of settling_of_all basic_steps dev_steps is_silent is_mute trace

    none_left : (n : NConf) → Still p ρ is_silent n → settling_of n ≡ 0
    none_left (Basic A q forward S) h = refl
    none_left (Basic A q backward []) h = refl
    none_left (Basic A q backward (Comp c ∷ S)) h = refl
    none_left (Basic A q backward (Dev d ∷ S)) h = absurd (h (dev_at A d) _ (DEV A q d S) refl)
    none_left (Nest A q forward S c) h =
        let x : Exhausted p ρ is_silent c = λ a d s. h a (Nest A q forward S d) (NEST A q forward S s) in
        both_none (settling_of_all c) (host_steps A forward S (settle_all p ρ c)) (none_left_all c x)
        (waits A S c c (settled_still p ρ c x) (refuted (has_terminated p c) (λ t. h (nestsuc_at A) _ (NESTSUC A q S c t) refl))
        (refuted (has_compensated p c) (λ t. h (nestfail_at A) _ (NESTFAIL A q S c t) refl)))
    none_left (Nest A q backward S c) h =
        let x : Exhausted p ρ is_silent c = λ a d s. h a (Nest A q backward S d) (NEST A q backward S s) in
        both_none (settling_of_all c) (host_steps A backward S (settle_all p ρ c)) (none_left_all c x)
        (waits_back A S c (settled_still p ρ c x) (refuted (has_terminated p c || has_compensated p c) (λ t. h (nestcomp_at A) _ (NESTCOMP A q S c t) refl)))

    none_left_all : (c : Conf) → Exhausted p ρ is_silent c → settling_of_all c ≡ 0
    none_left_all end h = refl
    none_left_all (next n c) h =
        both_none (settling_of n) (settling_of_all c) (none_left n (first_still p ρ is_silent n c h)) (none_left_all c (later_still p ρ is_silent n c h))

  module _ (ok : Accepted p) where
    steps_less : {c d : Conf} (s : Steps p ρ is_silent c d) → settling_of_all c ≡ number_of f (acts_in p ρ s) + settling_of_all d
    unfolding acts_in number_of
    steps_less {c} stay = let a : ℕ = settling_of_all c in let e : a ≡ 0 + a = omega arith in e
    steps_less {c} {d} (more {d = b} {a = a} v h s) =
        let i = steps_less s in
        let j : settling_of_all c ≡ cond (f a) 1 0 + settling_of_all b = unfold one in silent_less ok v h in
        let x : ℕ = settling_of_all c in let y : ℕ = settling_of_all b in let z : ℕ = settling_of_all d in let w : ℕ = number_of f (acts_in p ρ s) in
        let u : ℕ = cond (f a) 1 0 in
        let i' : y ≡ w + z = i in let j' : x ≡ u + y = j in let g : x ≡ (u + w) + z = omega arith in g

    all_steps : {c d : Conf} (s : Steps p ρ is_silent c d) → Exhausted p ρ is_silent d → number_of f (acts_in p ρ s) ≡ settling_of_all c
    all_steps {c} {d} s h =
        let i = steps_less s in
        let k = none_left_all d h in
        let x : ℕ = settling_of_all c in let z : ℕ = settling_of_all d in let w : ℕ = number_of f (acts_in p ρ s) in
        let i' : x ≡ w + z = i in let k' : z ≡ 0 = k in let g : w ≡ x = omega arith in g

    -- two ways to settle: as many steps that pass the test
    pub same_steps : {c b d e : Conf} → c ≡ b → (s : Steps p ρ is_silent c d) → Exhausted p ρ is_silent d → (r : Steps p ρ is_silent b e) → Exhausted p ρ is_silent e
        → number_of f (acts_in p ρ s) ≡ number_of f (acts_in p ρ r)
    same_steps q s h r k = all_steps s h ∙ ap settling_of_all q ∙ sym (all_steps r k)
