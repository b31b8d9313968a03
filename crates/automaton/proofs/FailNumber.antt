-- A society's FAIL until none applies is always the same number of steps: each turns one of the configurations that it may turn, and in the end
-- none is left. So the figure turned is read off a signal's big step, in whatever order that takes them. Assumes nothing.
use mathlib.Core.Path.{◌≡◌, refl, sym, ap, ◌∙◌}
use mathlib.Core.Logic.{inl, inr}
use mathlib.Core.Bool.{Bool, true, cond}
use mathlib.Core.List.{List, [], ◌∷◌, ◌++◌}
use Prim.Native.Nat.{ℕ, suc, ◌+◌}
use native.Mathlib.Omega.{arith}
use Rattle.rules.specs.Names.{Society}
use Rattle.rules.specs.Fold.{count_below}
use Rattle.rules.specs.Plan.{Plan, track_count}
use Rattle.rules.specs.Rights.{signal_right, is_permitted}
use Rattle.rules.specs.Ledger.{Ledger}
use Rattle.rules.specs.Signal.{turnings}
use Rattle.rules.specs.Call.{SignalArguments, signal, figures}
use Rattle.rules.proofs.Tests.{look, clash}
use Rattle.rules.proofs.Acceptance.{Accepted}
use Rattle.theory.proofs.Nesting.{Nested}
use Rattle.automaton.specs.Configuration.{Direction, forward, backward, NConf, Basic, Nest, Conf, end, next, Vect, is_forwards}
use Rattle.automaton.specs.Semantics.{FailReading, basic_alone, nested_too, Act, suc_at, fail_at, comp_at, dev_at, nestsuc_at, nestfail_at, nestcomp_at, SUC, FAIL, FAILNEST, COMP, DEV, NESTSUC, NESTFAIL, NESTCOMP, NEST, VStep, VECT}
use Rattle.automaton.specs.View.{view, is_going, is_turning, turners}
use Rattle.automaton.specs.CountedSteps.{is_turned_early}
use Rattle.automaton.specs.StepTests.{is_fail, is_fail_for, number_of}
use Rattle.automaton.specs.BigSteps.{Steps, stay, more, acts_in, Exhausted}
use Rattle.automaton.proofs.Figures.{all_down, forward_split}
use Rattle.automaton.proofs.TurningSteps.{turning_run}
use Rattle.automaton.proofs.Confluence.{Still, first_still, later_still, run_steps, run_acts}
use Rattle.automaton.proofs.BigSteps.{turners_fail, none_going}

host_turns : FailReading → Direction → ℕ
host_turns basic_alone r = 0
host_turns nested_too r = cond (is_forwards r) 1 0

host_less : (ρ : FailReading) → ρ ≡ nested_too → (n : ℕ) → host_turns ρ forward + n ≡ suc (host_turns ρ backward + n)
unfolding host_turns is_forwards
host_less basic_alone w n = let z : ◌≡◌ {A = ℕ} 0 1 = cc in absurd (omega arith)
host_less nested_too w n = omega arith

host_back : (ρ : FailReading) → host_turns ρ backward ≡ 0
unfolding host_turns is_forwards
host_back basic_alone = refl
host_back nested_too = refl

host_none : (ρ : FailReading) → (ρ ≡ nested_too → ⊥) → host_turns ρ forward ≡ 0
unfolding host_turns
host_none basic_alone h = refl
host_none nested_too h = absurd (h refl)

pub both_none : (a b : ℕ) → a ≡ 0 → b ≡ 0 → a + b ≡ 0
both_none a b e f = omega arith

inner_less : (a b c : ℕ) → b ≡ suc c → a + b ≡ suc (a + c)
inner_less a b c e = omega arith

-- a society's FAIL is a FAIL
for_fail : (p : Plan) (society : Society) (a : Act) → is_fail_for p society a ≡ true → is_fail a ≡ true
unfolding is_fail_for is_fail
for_fail p society (suc_at A i) h = h
for_fail p society (fail_at A) h = refl
for_fail p society (comp_at A c) h = h
for_fail p society (dev_at A d) h = h
for_fail p society (nestsuc_at A) h = h
for_fail p society (nestfail_at A) h = h
for_fail p society (nestcomp_at A) h = h

-- how many configurations FAIL may turn, of those that the society may
module _ (ρ : FailReading) (p : Plan) (society : Society) where
  abbrev may : ℕ → Bool
  may = is_permitted p signal_right society

  abbrev test : Act → Bool
  test = is_fail_for p society

  mutual
    turns_in : NConf → ℕ
    turns_in (Basic A q r S) = cond (may A) (cond (is_forwards r) 1 0) 0
    turns_in (Nest A q r S c) = cond (may A) (host_turns ρ r) 0 + turns_in_all c

    turns_in_all : Conf → ℕ
    turns_in_all end = 0
    turns_in_all (next n c) = turns_in n + turns_in_all c

  member_less : (α β : List NConf) (n m : NConf) → turns_in n ≡ suc (turns_in m) → turns_in_all (Vect (α ++ (n ∷ β))) ≡ suc (turns_in_all (Vect (α ++ (m ∷ β))))
  unfolding turns_in_all Vect
  member_less [] β n m h =
      let a : ℕ = turns_in n in let b : ℕ = turns_in m in let c : ℕ = turns_in_all (Vect β) in
      let e : a ≡ suc b = h in let g : a + c ≡ suc (b + c) = omega arith in g
  member_less (x ∷ α) β n m h = inner_less (turns_in x) (turns_in_all (Vect (α ++ (n ∷ β)))) (turns_in_all (Vect (α ++ (m ∷ β)))) (member_less α β n m h)

  one_less : {c d : Conf} {a : Act} → VStep p ρ c a d → is_fail_for p society a ≡ true → turns_in_all c ≡ suc (turns_in_all d)
  unfolding turns_in is_fail_for is_forwards
  one_less s =
      elim s as (λ n a m x. is_fail_for p society a ≡ true → turns_in n ≡ suc (turns_in m)) (λ c a d x. is_fail_for p society a ≡ true → turns_in_all c ≡ suc (turns_in_all d)) [
        | SUC A q i x S b e f g m y ↦ λ h. clash h refl
        | FAIL A q S ↦ λ h. rw h
        | FAILNEST A q S c w ↦ λ h. rw h (host_less ρ w (turns_in_all c))
        | COMP A q c S ↦ λ h. clash h refl
        | DEV A q d S ↦ λ h. clash h refl
        | NESTSUC A q S c t ↦ λ h. clash h refl
        | NESTFAIL A q S c t ↦ λ h. clash h refl
        | NESTCOMP A q S c t ↦ λ h. clash h refl
        | NEST A q r S {c = c} {d = d} (s → ih) ↦ λ h. inner_less (cond (may A) (host_turns ρ r) 0) (turns_in_all c) (turns_in_all d) (ih h)
        | VECT α β {n = n} {m = m} (s → ih) ↦ λ h. member_less α β n m (ih h)
      ]

  none_here : (A k : ℕ) → (may A ≡ true → k ≡ 0) → cond (may A) k 0 ≡ 0
  none_here A k h = elim (look (may A)) [ inl y ↦ rw y (h y) | inr y ↦ rw y ]

  mutual
    unfolding turns_in turns_in_all is_fail_for is_forwards

    none_left : (n : NConf) → Still p ρ (is_fail_for p society) n → turns_in n ≡ 0
    none_left (Basic A q forward S) h = none_here A 1 (λ y. absurd (h (fail_at A) _ (FAIL A q S) y))
    none_left (Basic A q backward S) h = none_here A 0 (λ y. refl)
    none_left (Nest A q forward S c) h =
        both_none (cond (may A) (host_turns ρ forward) 0) (turns_in_all c)
        (none_here A (host_turns ρ forward) (λ y. host_none ρ (λ w. h (fail_at A) _ (FAILNEST A q S c w) y)))
        (none_left_all c (λ a d s. h a (Nest A q forward S d) (NEST A q forward S s)))
    none_left (Nest A q backward S c) h =
        both_none (cond (may A) (host_turns ρ backward) 0) (turns_in_all c) (none_here A (host_turns ρ backward) (λ y. host_back ρ))
        (none_left_all c (λ a d s. h a (Nest A q backward S d) (NEST A q backward S s)))

    none_left_all : (c : Conf) → Exhausted p ρ (is_fail_for p society) c → turns_in_all c ≡ 0
    none_left_all end h = refl
    none_left_all (next n c) h =
        both_none (turns_in n) (turns_in_all c) (none_left n (first_still p ρ test n c h)) (none_left_all c (later_still p ρ test n c h))

  steps_less : {c d : Conf} (s : Steps p ρ (is_fail_for p society) c d) → turns_in_all c ≡ number_of is_fail (acts_in p ρ s) + turns_in_all d
  unfolding acts_in number_of
  steps_less {c} stay = let a : ℕ = turns_in_all c in let e : a ≡ 0 + a = omega arith in e
  steps_less {c} {d} (more {d = b} {a = a} v h s) =
      let i = steps_less s in
      let j = one_less v h in
      let x : ℕ = turns_in_all c in let y : ℕ = turns_in_all b in let z : ℕ = turns_in_all d in let w : ℕ = number_of is_fail (acts_in p ρ s) in
      let u : ℕ = cond (is_fail a) 1 0 in
      let k : u ≡ 1 = ap (λ t. cond t 1 0) (for_fail p society a h) in
      let i' : y ≡ w + z = i in let j' : x ≡ suc y = j in let g : x ≡ (u + w) + z = omega arith in g

  all_steps : {c d : Conf} (s : Steps p ρ (is_fail_for p society) c d) → Exhausted p ρ (is_fail_for p society) d → number_of is_fail (acts_in p ρ s) ≡ turns_in_all c
  all_steps {c} {d} s h =
      let i = steps_less s in
      let k = none_left_all d h in
      let x : ℕ = turns_in_all c in let z : ℕ = turns_in_all d in let w : ℕ = number_of is_fail (acts_in p ρ s) in
      let i' : x ≡ w + z = i in let k' : z ≡ 0 = k in let g : w ≡ x = omega arith in g

module _ (p : Plan) (ρ : FailReading) (ok : Accepted p) (l : Ledger) (n : Nested p l) (a : SignalArguments) where
  fails_counted : (d : Conf) (s : Steps p ρ (is_fail_for p a.society) (view p ρ l) d) → Exhausted p ρ (is_fail_for p a.society) d
      → number_of is_fail (acts_in p ρ s) ≡ count_below (track_count p) (is_turning p ρ a.society l)
  fails_counted d s h =
      let test = is_fail_for p a.society in
      let made = turners_fail p ρ a.society l in
      all_steps ρ p a.society s h
      ∙ sym (all_steps ρ p a.society (run_steps p ρ test (turning_run p ρ ok l n a) made) (none_going p ρ ok l n a))
      ∙ ap (number_of is_fail) (run_acts p ρ test (turning_run p ρ ok l n a) made)
      ∙ (unfold turners in all_down is_fail (is_turning p ρ a.society l) fail_at (λ k. unfold is_fail in refl) (track_count p))

  -- turned is the number of FAIL in any big step, and of the hosts that turn early
  pub turned_counted : (d : Conf) (s : Steps p ρ (is_fail_for p a.society) (view p ρ l) d) → Exhausted p ρ (is_fail_for p a.society) d
      → figures p l (signal a) ≡ (number_of is_fail (acts_in p ρ s) + count_below (track_count p) (is_turned_early p ρ l a.society)) ∷ []
  unfolding figures
  turned_counted d s h =
      ap (λ x. x ∷ []) (forward_split p l ρ a.society ∙ ap (λ x. x + count_below (track_count p) (is_turned_early p ρ l a.society)) (sym (fails_counted d s h)))

-- where FAIL turns nested configurations too, the number of FAIL alone
pub turned_fails : (p : Plan) → Accepted p → (l : Ledger) → Nested p l → (a : SignalArguments)
    → (d : Conf) (s : Steps p nested_too (is_fail_for p a.society) (view p nested_too l) d) → Exhausted p nested_too (is_fail_for p a.society) d
    → figures p l (signal a) ≡ number_of is_fail (acts_in p nested_too s) ∷ []
unfolding figures turnings is_turning is_going
turned_fails p ok l n a d s h = ap (λ x. x ∷ []) (sym (fails_counted p nested_too ok l n a d s h))
