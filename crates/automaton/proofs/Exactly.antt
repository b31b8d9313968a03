-- Property 2's word "exactly", of every accepted call on every sound ledger. That each of its big steps tells the call's figures: the automata that
-- move are those that the event moves, FAIL and the settling are the same steps in whatever order, COMP is of the newest code. Assumes
-- nothing.
use mathlib.Core.Path.{◌≡◌, refl, sym, ap, ap₂, ◌∙◌}
use mathlib.Core.Logic.{inl, inr}
use mathlib.Core.Bool.{Bool, true, false, cond, not, ◌||◌}
use mathlib.Core.List.{List, [], ◌∷◌, ◌++◌}
use Prim.Native.Nat.{ℕ, zero, suc, ◌+◌, ◌<◌}
use native.Mathlib.Omega.{arith}
use lib.ListN.{length}
use lib.Dec.{eqb}
use borrow.Author.Tests.{eqb-true, eqb-false, eq-eqb, ne_eqb, not-true}
use Rattle.rules.specs.Fold.{count_below}
use Rattle.rules.specs.Names.{Day}
use Rattle.rules.specs.declared.Terms.{Terms}
use Rattle.rules.specs.Plan.{Plan, track_count, no_state, optional}
use Rattle.rules.specs.Ledger.{Ledger}
use Rattle.rules.specs.Event.{EventArguments, moves, moved, closes_scope}
use Rattle.rules.specs.Fire.{newest, fired}
use Rattle.rules.specs.Call.{FireArguments, Call, event, signal, fire, call_refusal, figures}
use Rattle.rules.proofs.Tests.{look, and_holds, or_right}
use Rattle.rules.proofs.Folds.{count_same}
use Rattle.rules.proofs.Acceptance.{Accepted}
use Rattle.theory.proofs.Nesting.{Nested}
use Rattle.restoration.proofs.Theorems01.{Sound, mover_awake, moved_nested}
use Rattle.automaton.specs.Listing.{listed_down}
use Rattle.automaton.specs.Configuration.{Conf}
use Rattle.automaton.specs.Semantics.{FailReading, basic_alone, nested_too, Act, suc_at, fail_at, comp_at, dev_at, nestsuc_at, nestfail_at, nestcomp_at}
use Rattle.automaton.specs.View.{view, leaves_scope, leave_at, abandonings, deviation_step, closers}
use Rattle.automaton.specs.StepTests.{is_nestsuc, number_of, deviation_in}
use Rattle.automaton.specs.BigSteps.{has, is_once_each, acts_in, OnEvent, OnFiring, Big}
use Rattle.automaton.specs.Exactly.{told_by, Exactly}
use Rattle.automaton.proofs.Listings.{listed_length}
use Rattle.automaton.proofs.MovingSteps.{moves_some}
use Rattle.automaton.proofs.ClosingSteps.{closings_counted}
use Rattle.automaton.proofs.Figures.{all_listed, none_down}
use Rattle.automaton.proofs.CallSteps.{stepwise}
use Rattle.automaton.proofs.Enabled.{comp_newest}
use Rattle.automaton.proofs.OnePlace.{comp_unique, view_once}
use Rattle.automaton.proofs.SettlingSteps.{same_steps}
use Rattle.automaton.proofs.FailNumber.{turned_counted}
use Rattle.automaton.proofs.BigSteps.{order_moves, event_between, event_settling, event_settling_acts, firing_acts, fire_fired, exactly_big}

-- A list without repetitions is as long as there are numbers in it.
count_nothing : (n : ℕ) → count_below n (λ u. false) ≡ 0
unfolding count_below
count_nothing zero = refl
count_nothing (suc n) = let x : ℕ = count_below n (λ u. false) in let e : x ≡ 0 = count_nothing n in let g : x + 0 ≡ 0 = omega arith in g

count_one_more : (n : ℕ) (g : ℕ → Bool) (B : ℕ) → B < n → g B ≡ false → count_below n (λ A. eqb B A || g A) ≡ suc (count_below n g)
unfolding count_below
count_one_more zero g B b h = absurd (omega arith)
count_one_more (suc n) g B b h =
    elim (look (eqb B n)) [
      | inl e ↦
          let z : B ≡ n = eqb-true B n e in
          let same : count_below n (λ A. eqb B A || g A) ≡ count_below n g =
          count_same n (λ A. eqb B A || g A) g (λ A c. ap (λ x. x || g A) (ne_eqb B A (λ w. let w' : B ≡ A = w in absurd (omega arith)))) in
          let x : ℕ = count_below n g in
          let last : g n ≡ false = ap g (sym z) ∙ h in
          rw (same, e, last) (let k : x + 1 ≡ suc (x + 0) = omega arith in k)
      | inr e ↦
          let d = eqb-false B n e in
          let i = count_one_more n g B (omega arith) h in
          let x : ℕ = count_below n g in
          let y : ℕ = cond (g n) 1 0 in
          rw (i, e) (let k : suc x + y ≡ suc (x + y) = omega arith in k)
    ]

once_length : (n : ℕ) (order : List ℕ) → is_once_each order ≡ true → ((A : ℕ) → has order A ≡ true → A < n) → count_below n (has order) ≡ length order
unfolding has is_once_each
once_length n [] o b = count_nothing n
once_length n (B ∷ order) o b =
    let (x, y) = and_holds (not (has order B)) (is_once_each order) o in
    count_one_more n (has order) B (b B (ap (λ z. z || has order B) (eq-eqb B B refl))) (not-true (has order B) x)
    ∙ ap suc (once_length n order y (λ A h. b A (or_right (eqb B A) (has order A) h)))

-- DEV: whether there is one, and whether there is one to another state.
is_dev : Act → Bool
is_dev (suc_at A i) = false
is_dev (fail_at A) = false
is_dev (comp_at A c) = false
is_dev (dev_at A q) = true
is_dev (nestsuc_at A) = false
is_dev (nestfail_at A) = false
is_dev (nestcomp_at A) = false

is_dev_elsewhere : ℕ → Act → Bool
is_dev_elsewhere d (suc_at A i) = false
is_dev_elsewhere d (fail_at A) = false
is_dev_elsewhere d (comp_at A c) = false
is_dev_elsewhere d (dev_at A q) = not (eqb q d)
is_dev_elsewhere d (nestsuc_at A) = false
is_dev_elsewhere d (nestfail_at A) = false
is_dev_elsewhere d (nestcomp_at A) = false

dev_none : (w : List Act) → number_of is_dev w ≡ 0 → deviation_in w ≡ no_state
unfolding number_of is_dev deviation_in
dev_none [] h = refl
dev_none (suc_at A i ∷ w) h = dev_none w (let x : ℕ = number_of is_dev w in let e : 0 + x ≡ 0 = h in omega arith)
dev_none (fail_at A ∷ w) h = dev_none w (let x : ℕ = number_of is_dev w in let e : 0 + x ≡ 0 = h in omega arith)
dev_none (comp_at A c ∷ w) h = dev_none w (let x : ℕ = number_of is_dev w in let e : 0 + x ≡ 0 = h in omega arith)
dev_none (dev_at A q ∷ w) h = let x : ℕ = number_of is_dev w in let e : 1 + x ≡ 0 = h in absurd (omega arith)
dev_none (nestsuc_at A ∷ w) h = dev_none w (let x : ℕ = number_of is_dev w in let e : 0 + x ≡ 0 = h in omega arith)
dev_none (nestfail_at A ∷ w) h = dev_none w (let x : ℕ = number_of is_dev w in let e : 0 + x ≡ 0 = h in omega arith)
dev_none (nestcomp_at A ∷ w) h = dev_none w (let x : ℕ = number_of is_dev w in let e : 0 + x ≡ 0 = h in omega arith)

rest_same : (a b : ℕ) → 0 + a ≡ b → a ≡ b
rest_same a b h = omega arith

dev_some : (d : ℕ) (w : List Act) → number_of is_dev w ≡ 1 → number_of (is_dev_elsewhere d) w ≡ 0 → deviation_in w ≡ d
unfolding number_of is_dev is_dev_elsewhere deviation_in
dev_some d [] h k = absurd (omega arith)
dev_some d (suc_at A i ∷ w) h k = dev_some d w (rest_same (number_of is_dev w) 1 h) (rest_same (number_of (is_dev_elsewhere d) w) 0 k)
dev_some d (fail_at A ∷ w) h k = dev_some d w (rest_same (number_of is_dev w) 1 h) (rest_same (number_of (is_dev_elsewhere d) w) 0 k)
dev_some d (comp_at A c ∷ w) h k = dev_some d w (rest_same (number_of is_dev w) 1 h) (rest_same (number_of (is_dev_elsewhere d) w) 0 k)
dev_some d (dev_at A q ∷ w) h k =
    elim (look (eqb q d)) [
      | inl e ↦ eqb-true q d e
      | inr e ↦
          let x : ℕ = number_of (is_dev_elsewhere d) w in
          let y : ℕ = cond (not (eqb q d)) 1 0 in
          let z : y ≡ 1 = ap (λ b. cond (not b) 1 0) e in
          let g : y + x ≡ 0 = k in
          absurd (omega arith)
    ]
dev_some d (nestsuc_at A ∷ w) h k = dev_some d w (rest_same (number_of is_dev w) 1 h) (rest_same (number_of (is_dev_elsewhere d) w) 0 k)
dev_some d (nestfail_at A ∷ w) h k = dev_some d w (rest_same (number_of is_dev w) 1 h) (rest_same (number_of (is_dev_elsewhere d) w) 0 k)
dev_some d (nestcomp_at A ∷ w) h k = dev_some d w (rest_same (number_of is_dev w) 1 h) (rest_same (number_of (is_dev_elsewhere d) w) 0 k)

leave_dev : (ρ : FailReading) (k : ℕ) → is_dev (leave_at ρ k) ≡ false
unfolding is_dev leave_at
leave_dev basic_alone k = refl
leave_dev nested_too k = refl

leave_elsewhere : (d : ℕ) (ρ : FailReading) (k : ℕ) → is_dev_elsewhere d (leave_at ρ k) ≡ false
unfolding is_dev_elsewhere leave_at
leave_elsewhere d basic_alone k = refl
leave_elsewhere d nested_too k = refl

-- steps that settle as a firing's do: they deviate where its entry does
deviates_so : (t d : ℕ) (u v : List Act) → ((f : Act → Bool) → number_of f v ≡ number_of f (nestcomp_at t ∷ (deviation_step t (optional d) ++ u)))
    → number_of is_dev u ≡ 0 → number_of (is_dev_elsewhere d) u ≡ 0 → deviation_in v ≡ d
unfolding optional deviation_step number_of is_dev is_dev_elsewhere
deviates_so t d u v h x y =
    elim (look (eqb d no_state)) [
      | inl e ↦
          let i : number_of is_dev v ≡ 0 + number_of is_dev u = rw e at (h is_dev) in
          let a : ℕ = number_of is_dev v in let b : ℕ = number_of is_dev u in
          let i' : a ≡ 0 + b = i in let x' : b ≡ 0 = x in
          dev_none v (let g : a ≡ 0 = omega arith in g) ∙ sym (eqb-true d no_state e)
      | inr e ↦
          let i : number_of is_dev v ≡ 0 + (1 + number_of is_dev u) = rw e at (h is_dev) in
          let j : number_of (is_dev_elsewhere d) v ≡ 0 + (0 + number_of (is_dev_elsewhere d) u) = rw (e, eq-eqb d d refl) at (h (is_dev_elsewhere d)) in
          let a : ℕ = number_of is_dev v in let b : ℕ = number_of is_dev u in
          let a' : ℕ = number_of (is_dev_elsewhere d) v in let b' : ℕ = number_of (is_dev_elsewhere d) u in
          let i' : a ≡ 0 + (1 + b) = i in let x' : b ≡ 0 = x in let j' : a' ≡ 0 + (0 + b') = j in let y' : b' ≡ 0 = y in
          dev_some d v (let g : a ≡ 1 = omega arith in g) (let g : a' ≡ 0 = omega arith in g)
    ]

module _ (p : Plan) (ρ : FailReading) (ok : Accepted p) (terms : Terms) (day : Day) (l : Ledger) (s : Sound terms p l) where
  abbrev n : Nested p l
  n = s.formed.nested

  event_told_lem : (a : EventArguments) (d : Conf) (x : OnEvent p ρ a (view p ρ l) d)
      → figures p l (event a) ≡ length x.order ∷ number_of is_nestsuc (acts_in p ρ x.settling.0) ∷ []
  unfolding figures closers
  event_told_lem a d x =
      let m = moved p l a in
      ap₂ (λ u v. u ∷ v ∷ [])
      (count_same (track_count p) (moves p l a) (has x.order) (λ A b. sym (order_moves p ρ ok terms day l s a d x A))
      ∙ once_length (track_count p) x.order x.once
      (λ A h. let (y, q) = moves_some p l a A (sym (order_moves p ρ ok terms day l s a d x A) ∙ h) in n.below A (mover_awake p l a A y q)))
      (closings_counted p ρ ok m (moved_nested p l a ok n) ∙ listed_length (track_count p) (closes_scope p m) nestsuc_at
      ∙ sym (all_listed is_nestsuc (closes_scope p m) nestsuc_at (λ k. unfold is_nestsuc in refl) (track_count p))
      ∙ ap (number_of is_nestsuc) (sym (event_settling_acts p ρ ok terms day l s a))
      ∙ sym (same_steps p ρ is_nestsuc ok (event_between p ρ ok terms day l s a d x) x.settling.0 x.settling.1 (event_settling p ρ ok terms day l s a).0 (event_settling p ρ ok terms day l s a).1))

  fire_told_lem : (a : FireArguments) → call_refusal terms p day l (fire a) ≡ 0 → (k : ℕ) (d : Conf) (x : OnFiring p ρ a.track k (view p ρ l) d)
      → figures p l (fire a) ≡ k ∷ deviation_in (acts_in p ρ x.settling.0) ∷ []
  unfolding figures firing_acts abandonings
  fire_told_lem a h k d x =
      let t = a.track in
      let y = fire_fired p ρ ok terms day l s a h in
      let same = comp_unique p ρ t k (newest (l t).held).code (view p ρ l) x.between y.between (view_once p ρ ok l n t) x.firing y.firing in
      ap₂ (λ u v. u ∷ v ∷ []) (sym (comp_newest p ρ l ok n t k x.between x.firing).1)
      (sym (deviates_so t (newest (l t).held).deviation (listed_down (track_count p) (leaves_scope p (fired p l t)) (leave_at ρ)) (acts_in p ρ x.settling.0)
      (λ f. same_steps p ρ f ok same x.settling.0 x.settling.1 y.settling.0 y.settling.1 ∙ ap (number_of f) y.acts)
      (none_down is_dev (leaves_scope p (fired p l t)) (leave_at ρ) (leave_dev ρ) (track_count p))
      (none_down (is_dev_elsewhere (newest (l t).held).deviation) (leaves_scope p (fired p l t)) (leave_at ρ) (leave_elsewhere (newest (l t).held).deviation ρ) (track_count p))))

  tells : (c : Call) → call_refusal terms p day l c ≡ 0 → (d : Conf) (x : Big p ρ c (view p ρ l) d) → figures p l c ≡ told_by p ρ l c (view p ρ l) d x
  unfolding Big told_by
  tells (event a) h d x = event_told_lem a d x
  tells (signal a) h d x = turned_counted p ρ ok l n a x.between x.turning.0 x.turning.1
  tells (fire a) h d x = fire_told_lem a h x.0 d x.1

  -- every accepted call
  pub exactly : (c : Call) → call_refusal terms p day l c ≡ 0 → Exactly p ρ terms l c
  exactly c h = record { steps = stepwise p ρ ok terms day l s c h; ends = exactly_big p ρ ok terms day l s c h; tells = tells c h }
