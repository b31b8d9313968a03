-- The figures of the answers as numbers of steps: a call's steps are lists of one rule each, and each list is as long as document 01 counts.
-- Assumes nothing.
use mathlib.Core.Path.{◌≡◌, refl, sym, ap, ap₂, ◌∙◌}
use mathlib.Core.Logic.{inl, inr}
use mathlib.Core.Bool.{Bool, true, false, cond, not, ◌&&◌}
use mathlib.Core.List.{List, [], ◌∷◌, ◌++◌}
use mathlib.Core.Option.{Option, none, some}
use Prim.Native.Nat.{ℕ, zero, suc, ◌+◌}
use native.Mathlib.Omega.{arith}
use lib.ListN.{length}
use lib.Dec.{eqb}
use borrow.Author.Tests.{eqb-true}
use Rattle.rules.specs.Names.{Society}
use Rattle.rules.specs.declared.Terms.{Terms}
use Rattle.rules.specs.Fold.{count_below}
use Rattle.rules.specs.Plan.{Plan, track_count, no_state, optional}
use Rattle.rules.specs.Rights.{signal_right, is_permitted}
use Rattle.rules.specs.Ledger.{Ledger, is_forward}
use Rattle.rules.specs.Event.{moves, moved, closes_scope}
use Rattle.rules.specs.Signal.{turned, turnings}
use Rattle.rules.specs.Fire.{newest, fired}
use Rattle.rules.specs.Call.{Call, event, signal, fire, figures}
use Rattle.rules.proofs.Tests.{look, clash, and_holds, and_both}
use Rattle.rules.proofs.Acceptance.{Accepted}
use Rattle.theory.proofs.Nesting.{Nested}
use Rattle.restoration.proofs.Theorems01.{moved_nested}
use Rattle.automaton.specs.Listing.{listed_from, listed, listed_down}
use Rattle.automaton.specs.Semantics.{FailReading, basic_alone, nested_too, Act, suc_at, fail_at, nestsuc_at, trace}
use Rattle.automaton.specs.View.{leaves_scope, is_going, is_turning, leave_at, abandonings, deviation_step, movings, closers, turners, acts_of}
use Rattle.automaton.specs.CountedSteps.{is_turned_early, counted_steps}
use Rattle.automaton.specs.StepTests.{is_suc, is_nestsuc, is_fail, number_of, code_in, codes_in, deviation_in}
use Rattle.automaton.proofs.Listings.{listed_length}
use Rattle.automaton.proofs.ClosingSteps.{closings_counted}
use Rattle.automaton.proofs.TurningSteps.{going_forward}

-- Steps of joined lists, of a list all of one rule, and of one with none of it.
number_joined : (f : Act → Bool) (v w : List Act) → number_of f (v ++ w) ≡ number_of f v + number_of f w
unfolding number_of
number_joined f [] w = let a : ℕ = number_of f w in omega arith
number_joined f (x ∷ v) w =
    let i = number_joined f v w in
    let a : ℕ = cond (f x) 1 0 in
    let b : ℕ = number_of f v in
    let c : ℕ = number_of f w in
    ap (λ z. cond (f x) 1 0 + z) i ∙ (let e : a + (b + c) ≡ (a + b) + c = omega arith in e)

module _ (f : Act → Bool) (h : ℕ → Bool) (g : ℕ → Act) where
  all_from : ((k : ℕ) → f (g k) ≡ true) → (n i : ℕ) → number_of f (listed_from n i h g) ≡ length (listed_from n i h g)
  unfolding number_of listed_from
  all_from y zero i = refl
  all_from y (suc n) i =
      let r = all_from y n (suc i) in
      elim (look (h i)) [ inl e ↦ rw (e, y i, r) (omega arith) | inr e ↦ rw e r ]

  none_from : ((k : ℕ) → f (g k) ≡ false) → (n i : ℕ) → number_of f (listed_from n i h g) ≡ 0
  unfolding number_of listed_from
  none_from y zero i = refl
  none_from y (suc n) i =
      let r = none_from y n (suc i) in
      elim (look (h i)) [ inl e ↦ rw (e, y i, r) (omega arith) | inr e ↦ rw e r ]

  pub none_down : ((k : ℕ) → f (g k) ≡ false) → (n : ℕ) → number_of f (listed_down n h g) ≡ 0
  unfolding number_of listed_down
  none_down y zero = refl
  none_down y (suc n) =
      let r = none_down y n in
      elim (look (h n)) [ inl e ↦ rw (e, y n, r) (omega arith) | inr e ↦ rw e r ]

  pub all_down : ((k : ℕ) → f (g k) ≡ true) → (n : ℕ) → number_of f (listed_down n h g) ≡ count_below n h
  unfolding number_of listed_down count_below
  all_down y zero = refl
  all_down y (suc n) =
      let r = all_down y n in
      let x : ℕ = count_below n h in
      elim (look (h n)) [ inl e ↦ rw (e, y n, r) (let e : 1 + x ≡ x + 1 = omega arith in e) | inr e ↦ rw (e, r) (let e : x ≡ x + 0 = omega arith in e) ]

  pub all_listed : ((k : ℕ) → f (g k) ≡ true) → (n : ℕ) → number_of f (listed n h g) ≡ count_below n h
  unfolding listed
  all_listed y n = all_from y n 0 ∙ listed_length n h g

  none_listed : ((k : ℕ) → f (g k) ≡ false) → (n : ℕ) → number_of f (listed n h g) ≡ 0
  unfolding listed
  none_listed y n = none_from y n 0

-- An abandoned scope's step has no label of its own and deviates to nothing, by whichever rule it is.
leave_code : (ρ : FailReading) (k : ℕ) → code_in (trace (leave_at ρ k)) ≡ []
unfolding code_in trace leave_at
leave_code basic_alone k = refl
leave_code nested_too k = refl

leave_fail : (ρ : FailReading) (k : ℕ) → is_fail (leave_at ρ k) ≡ false
unfolding is_fail leave_at
leave_fail basic_alone k = refl
leave_fail nested_too k = refl

leave_deviation : (ρ : FailReading) (k : ℕ) (w : List Act) → deviation_in (leave_at ρ k ∷ w) ≡ deviation_in w
unfolding deviation_in leave_at
leave_deviation basic_alone k w = refl
leave_deviation nested_too k w = refl

no_codes_down : (ρ : FailReading) (h : ℕ → Bool) (n : ℕ) → codes_in (listed_down n h (leave_at ρ)) ≡ []
unfolding codes_in listed_down
no_codes_down ρ h zero = refl
no_codes_down ρ h (suc n) = elim (look (h n)) [ inl e ↦ rw (e, leave_code ρ n) (no_codes_down ρ h n) | inr e ↦ rw e (no_codes_down ρ h n) ]

no_deviation_down : (ρ : FailReading) (h : ℕ → Bool) (n : ℕ) → deviation_in (listed_down n h (leave_at ρ)) ≡ no_state
unfolding deviation_in listed_down
no_deviation_down ρ h zero = refl
no_deviation_down ρ h (suc n) =
    elim (look (h n)) [
      | inl e ↦ rw e (leave_deviation ρ n (listed_down n h (leave_at ρ)) ∙ no_deviation_down ρ h n)
      | inr e ↦ rw e (no_deviation_down ρ h n)
    ]

-- the deviation of an entry is the state of its DEV, 65535 where it has none
step_deviation : (t d : ℕ) (w : List Act) → deviation_in w ≡ no_state → deviation_in (deviation_step t (optional d) ++ w) ≡ d
unfolding optional deviation_step deviation_in
step_deviation t d w h = elim (look (eqb d no_state)) [ inl e ↦ rw e (h ∙ sym (eqb-true d no_state e)) | inr e ↦ rw e ]

step_code : (t : ℕ) (o : Option ℕ) (w : List Act) → codes_in w ≡ [] → codes_in (deviation_step t o ++ w) ≡ []
unfolding deviation_step codes_in code_in trace
step_code t none w h = h
step_code t (some d) w h = h

-- those of a part, and the others of the whole
one_split : (a b : Bool) → (b ≡ true → a ≡ true) → cond a 1 0 ≡ cond b 1 0 + cond (a && not b) 1 0
one_split true true h = omega arith
one_split true false h = omega arith
one_split false true h = clash (h refl) refl
one_split false false h = omega arith

count_split : (n : ℕ) (f g : ℕ → Bool) → ((t : ℕ) → g t ≡ true → f t ≡ true) → count_below n f ≡ count_below n g + count_below n (λ t. f t && not (g t))
unfolding count_below
count_split zero f g h = omega arith
count_split (suc n) f g h =
    let i = count_split n f g h in
    let j = one_split (f n) (g n) (h n) in
    let a : ℕ = count_below n g in
    let b : ℕ = count_below n (λ t. f t && not (g t)) in
    let c : ℕ = cond (g n) 1 0 in
    let d : ℕ = cond (f n && not (g n)) 1 0 in
    ap₂ (λ x y. x + y) i j ∙ (let e : (a + b) + (c + d) ≡ (a + c) + (b + d) = omega arith in e)

-- a signal turns the tracks that FAIL turns, and the hosts that turn early
pub forward_split : (p : Plan) (l : Ledger) (ρ : FailReading) (society : Society)
    → turnings p society l ≡ count_below (track_count p) (is_turning p ρ society l) + count_below (track_count p) (is_turned_early p ρ l society)
unfolding turnings is_turned_early is_turning
forward_split p l ρ society =
    count_split (track_count p) (λ t. is_permitted p signal_right society t && is_forward (l t).mode) (is_turning p ρ society l)
    (λ t h.
    let (y, i) = and_holds (is_permitted p signal_right society t) (is_going p ρ l t) h in
    and_both (is_permitted p signal_right society t) (is_forward (l t).mode) y (going_forward p l ρ t i))

module _ (p : Plan) (ρ : FailReading) (ok : Accepted p) (l : Ledger) (n : Nested p l) where
  right_none : (a b c : ℕ) → a ≡ c → b ≡ 0 → a + b ≡ c
  right_none a b c e f = omega arith

  left_none : (a b c : ℕ) → a ≡ 0 → b ≡ c → a + b ≡ c
  left_none a b c e f = omega arith

  -- moved and closed are the numbers of SUC and NESTSUC, turned that of FAIL and of the hosts that turn early; a firing tells its COMP and its DEV
  pub figures_counted : (terms : Terms) (c : Call) → figures p l c ≡ counted_steps p ρ l c
  unfolding figures counted_steps acts_of movings closers turners abandonings
  figures_counted terms (event a) =
      let m = moved p l a in
      let T = track_count p in
      let go : ℕ → Act = λ t. suc_at t a in
      ap₂ (λ x y. x ∷ y ∷ [])
      (sym (number_joined is_suc (listed T (moves p l a) go) (listed T (closes_scope p m) nestsuc_at)
      ∙ right_none _ _ _ (all_listed is_suc (moves p l a) go (λ k. unfold is_suc in refl) T) (none_listed is_suc (closes_scope p m) nestsuc_at (λ k. unfold is_suc in refl) T)))
      (closings_counted p ρ ok m (moved_nested p l a ok n) ∙ listed_length T (closes_scope p m) nestsuc_at
      ∙ sym (number_joined is_nestsuc (listed T (moves p l a) go) (listed T (closes_scope p m) nestsuc_at)
      ∙ left_none _ _ _ (none_listed is_nestsuc (moves p l a) go (λ k. unfold is_nestsuc in refl) T) (all_listed is_nestsuc (closes_scope p m) nestsuc_at (λ k. unfold is_nestsuc in refl) T)))
  figures_counted terms (signal a) =
      let T = track_count p in
      ap (λ x. x ∷ [])
      (forward_split p l ρ a.society
      ∙ ap (λ x. x + count_below T (is_turned_early p ρ l a.society))
      (sym (number_joined is_fail (listed_down T (is_turning p ρ a.society l) fail_at) (listed_down T (leaves_scope p (turned p a.society l)) (leave_at ρ))
      ∙ right_none _ _ _ (all_down is_fail (is_turning p ρ a.society l) fail_at (λ k. unfold is_fail in refl) T) (none_down is_fail (leaves_scope p (turned p a.society l)) (leave_at ρ) (leave_fail ρ) T))))
  figures_counted terms (fire a) =
      let t = a.track in
      let e = newest (l t).held in
      let w = listed_down (track_count p) (leaves_scope p (fired p l t)) (leave_at ρ) in
      unfold codes_in code_in trace deviation_in in
      ap₂ (λ x y. (e.code ∷ x) ++ (y ∷ [])) (sym (step_code t (optional e.deviation) w (no_codes_down ρ (leaves_scope p (fired p l t)) (track_count p))))
      (sym (step_deviation t e.deviation w (no_deviation_down ρ (leaves_scope p (fired p l t)) (track_count p))))
