-- SUC at several automata leads to one configuration, whatever the order, and so does COMP at one, where each of them stands at one place
-- and none is nested in another; and so it is in a view. Assumes nothing.
use mathlib.Core.Path.{◌≡◌, refl, sym, ap, ap₂, ◌∙◌, subst}
use mathlib.Core.Logic.{◌⊎◌, inl, inr}
use mathlib.Core.Bool.{Bool, true, false, cond, not, ◌||◌}
use mathlib.Core.List.{List, [], ◌∷◌, ◌++◌}
use mathlib.Core.Option.{Option, none, some}
use Prim.Native.Nat.{ℕ, zero, suc, ◌+◌, ◌<◌, ◌≤◌}
use native.Mathlib.Nat.{zero-add}
use native.Mathlib.Omega.{arith}
use lib.Dec.{eqb}
use borrow.Author.Tests.{eqb-true, eqb-false, eq-eqb, ne_eqb, not-true}
use Rattle.rules.specs.Plan.{Plan, track_count, transition_count, transition, optional, mover, is_state_of, is_in, is_hosted_by, is_hosting, is_above, first_state, transition_for, may_take, taken_on}
use Rattle.rules.specs.Event.{EventArguments}
use Rattle.rules.specs.Ledger.{Ledger}
use Rattle.rules.specs.Scope.{has_open_scope}
use Rattle.rules.proofs.Tests.{look, clash, refuted, and_holds, or_right}
use Rattle.rules.proofs.Acceptance.{Accepted}
use Rattle.rules.proofs.Scopes.{in_host, host_by}
use Rattle.rules.proofs.Forest.{Reaches, above_lower}
use Rattle.rules.proofs.Abandoning.{hosts_higher}
use Rattle.theory.proofs.Nesting.{Awake, Nested, state_of}
use Rattle.automaton.specs.Listing.{listed_from, listed}
use Rattle.automaton.specs.Configuration.{forward, backward, Comp, Dev, Stack, NConf, Basic, Nest, Conf, end, next, Vect, push, init_by, goto_to, goto}
use Rattle.automaton.specs.Semantics.{FailReading, Act, suc_at, fail_at, comp_at, dev_at, nestsuc_at, nestfail_at, nestcomp_at, SUC, FAIL, FAILNEST, COMP, DEV, NESTSUC, NESTFAIL, NESTCOMP, NEST, VStep, VECT, Run, stop, step}
use Rattle.automaton.specs.StepTests.{is_suc}
use Rattle.automaton.specs.BigSteps.{has, is_once_each, sucs}
use Rattle.automaton.specs.View.{is_within, basic, nested, view_of, is_on_top, view}
use Rattle.automaton.proofs.Frames.{down, reach_up, beside, roots_beside, within_parts, top_parts, shown_free, shown_busy, view_law}
use Rattle.automaton.proofs.MovingSteps.{takes_it}

-- at how many places an automaton stands
mutual
  count : ℕ → NConf → ℕ
  count A (Basic B q r S) = cond (eqb B A) 1 0
  count A (Nest B q r S c) = cond (eqb B A) 1 0 + count_all A c

  pub count_all : ℕ → Conf → ℕ
  count_all A end = 0
  count_all A (next n c) = count A n + count_all A c

count_join : (A : ℕ) (α β : List NConf) (n : NConf) → count_all A (Vect (α ++ (n ∷ β))) ≡ count_all A (Vect α) + (count A n + count_all A (Vect β))
unfolding count_all Vect
count_join A [] β n = let x : ℕ = count A n + count_all A (Vect β) in omega arith
count_join A (m ∷ α) β n =
    let i = count_join A α β n in
    let x : ℕ = count A m in
    let y : ℕ = count_all A (Vect α) in
    let z : ℕ = count A n + count_all A (Vect β) in
    ap (λ w. count A m + w) i ∙ (let e : x + (y + z) ≡ (x + y) + z = omega arith in e)

is_comp : Act → Bool
is_comp (suc_at A i) = false
is_comp (fail_at A) = false
is_comp (comp_at A c) = true
is_comp (dev_at A d) = false
is_comp (nestsuc_at A) = false
is_comp (nestfail_at A) = false
is_comp (nestcomp_at A) = false

-- COMP at one automaton
mutual
  cut : ℕ → NConf → NConf
  cut A (Basic B q forward S) = Basic B q forward S
  cut A (Basic B q backward []) = Basic B q backward []
  cut A (Basic B q backward (Comp c ∷ S)) = cond (eqb B A) (Nest B q backward S end) (Basic B q backward (Comp c ∷ S))
  cut A (Basic B q backward (Dev d ∷ S)) = Basic B q backward (Dev d ∷ S)
  cut A (Nest B q r S c) = Nest B q r S (cut_all A c)

  cut_all : ℕ → Conf → Conf
  cut_all A end = end
  cut_all A (next n c) = next (cut A n) (cut_all A c)

mutual
  unfolding count count_all cut cut_all

  cut_none : (A : ℕ) (n : NConf) → count A n ≡ 0 → cut A n ≡ n
  cut_none A (Basic B q forward S) h = refl
  cut_none A (Basic B q backward []) h = refl
  cut_none A (Basic B q backward (Comp c ∷ S)) h = go (eqb B A) h
    where
      go : (b : Bool) → ◌≡◌ {A = ℕ} (cond b 1 0) 0 → cond b (Nest B q backward S end) (Basic B q backward (Comp c ∷ S)) ≡ Basic B q backward (Comp c ∷ S)
      go true h = absurd (omega arith)
      go false h = refl
  cut_none A (Basic B q backward (Dev d ∷ S)) h = refl
  cut_none A (Nest B q r S c) h = let x : ℕ = cond (eqb B A) 1 0 in let y : ℕ = count_all A c in let e : x + y ≡ 0 = h in ap (Nest B q r S) (cut_none_all A c (omega arith))

  cut_none_all : (A : ℕ) (c : Conf) → count_all A c ≡ 0 → cut_all A c ≡ c
  cut_none_all A end h = refl
  cut_none_all A (next n c) h =
      let x : ℕ = count A n in let y : ℕ = count_all A c in let e : x + y ≡ 0 = h in ap₂ next (cut_none A n (omega arith)) (cut_none_all A c (omega arith))

cut_join : (A : ℕ) (α β : List NConf) (n m : NConf) → count_all A (Vect α) ≡ 0 → count_all A (Vect β) ≡ 0 → cut A n ≡ m → cut_all A (Vect (α ++ (n ∷ β))) ≡ Vect (α ++ (m ∷ β))
unfolding count_all Vect cut_all
cut_join A [] β n m x y h = ap₂ next h (cut_none_all A (Vect β) y)
cut_join A (k ∷ α) β n m x y h =
    let u : ℕ = count A k in let v : ℕ = count_all A (Vect α) in let e : u + v ≡ 0 = x in
    ap₂ next (cut_none A k (omega arith)) (cut_join A α β n m (omega arith) y h)

module _ (p : Plan) (ρ : FailReading) where
  comp_cut : (A k : ℕ) {c d : Conf} {a : Act} → VStep p ρ c a d → a ≡ comp_at A k → (1 ≤ count_all A c) × (count_all A c ≤ 1 → cut_all A c ≡ d)
  unfolding count count_all cut cut_all is_comp
  comp_cut A k s =
      elim s as (λ n a m x. a ≡ comp_at A k → (1 ≤ count A n) × (count A n ≤ 1 → cut A n ≡ m)) (λ c a d x. a ≡ comp_at A k → (1 ≤ count_all A c) × (count_all A c ≤ 1 → cut_all A c ≡ d)) [
        | SUC B q i x S b e f g m y ↦ λ h. clash (ap is_comp h) refl
        | FAIL B q S ↦ λ h. clash (ap is_comp h) refl
        | FAILNEST B q S c w ↦ λ h. clash (ap is_comp h) refl
        | COMP B q c S ↦ λ h. let z : B ≡ A = cc in rw (eq-eqb B A z) (omega arith, λ w. refl)
        | DEV B q d S ↦ λ h. clash (ap is_comp h) refl
        | NESTSUC B q S c t ↦ λ h. clash (ap is_comp h) refl
        | NESTFAIL B q S c t ↦ λ h. clash (ap is_comp h) refl
        | NESTCOMP B q S c t ↦ λ h. clash (ap is_comp h) refl
        | NEST B q r S {c = c} (s → ih) ↦
            λ h.
            let (u, v) = ih h in
            let x : ℕ = cond (eqb B A) 1 0 in let y : ℕ = count_all A c in
            let u' : 1 ≤ y = u in
            (let g : 1 ≤ x + y = omega arith in g, λ w. let w' : x + y ≤ 1 = w in ap (Nest B q r S) (v (omega arith)))
        | VECT α β {n = n} {m = m} (s → ih) ↦
            λ h.
            let (u, v) = ih h in
            let j = count_join A α β n in
            let x : ℕ = count_all A (Vect α) in let y : ℕ = count A n in let z : ℕ = count_all A (Vect β) in
            let w : ℕ = count_all A (Vect (α ++ (n ∷ β))) in
            let j' : w ≡ x + (y + z) = j in
            let u' : 1 ≤ y = u in
            (let g : 1 ≤ w = omega arith in g, λ (k : w ≤ 1). cut_join A α β n m (omega arith) (omega arith) (v (omega arith)))
      ]

  -- COMP at an automaton that stands at one place
  pub comp_unique : (A k j : ℕ) (c d e : Conf) → count_all A c ≤ 1 → VStep p ρ c (comp_at A k) d → VStep p ρ c (comp_at A j) e → d ≡ e
  comp_unique A k j c d e h s r = sym ((comp_cut A k s refl).1 h) ∙ (comp_cut A j r refl).1 h

-- SUC on an event at the automata of a set, all at once
module _ (p : Plan) (i : EventArguments) where
  leaves : ℕ → ℕ → Stack → Option ℕ → NConf
  leaves A q S none = Basic A q forward S
  leaves A q S (some x) = goto p A (transition p x).destination (push (transition p x).code (optional (transition p x).deviation) S)

  mutual
    went : (ℕ → Bool) → NConf → NConf
    went f (Basic A q forward S) = cond (f A) (leaves A q S (taken_on p i.day (transition_for p q i.event))) (Basic A q forward S)
    went f (Basic A q backward S) = Basic A q backward S
    went f (Nest A q r S c) = Nest A q r S (went_all f c)

    went_all : (ℕ → Bool) → Conf → Conf
    went_all f end = end
    went_all f (next n c) = next (went f n) (went_all f c)

  one_here : (A B : ℕ) → A ≡ B → ◌≡◌ {A = ℕ} (cond (eqb A B) 1 0) 1
  one_here A B e = rw (eq-eqb A B e)

  -- sets that agree on the automata that stand there
  mutual
    unfolding count count_all went went_all

    went_same : (f g : ℕ → Bool) (n : NConf) → ((B : ℕ) → 1 ≤ count B n → f B ≡ g B) → went f n ≡ went g n
    went_same f g (Basic A q forward S) h =
        let e = one_here A A refl in
        ap (λ x. cond x (leaves A q S (taken_on p i.day (transition_for p q i.event))) (Basic A q forward S)) (h A (let w : ℕ = cond (eqb A A) 1 0 in let e' : w ≡ 1 = e in let g : 1 ≤ w = omega arith in g))
    went_same f g (Basic A q backward S) h = refl
    went_same f g (Nest A q r S c) h =
        ap (Nest A q r S)
        (went_same_all f g c
        (λ B (b : 1 ≤ count_all B c). h B (let x : ℕ = cond (eqb A B) 1 0 in let y : ℕ = count_all B c in let g : 1 ≤ x + y = omega arith in g)))

    went_same_all : (f g : ℕ → Bool) (c : Conf) → ((B : ℕ) → 1 ≤ count_all B c → f B ≡ g B) → went_all f c ≡ went_all g c
    went_same_all f g end h = refl
    went_same_all f g (next n c) h =
        ap₂ next
        (went_same f g n (λ B (b : 1 ≤ count B n). h B (let x : ℕ = count B n in let y : ℕ = count_all B c in let g : 1 ≤ x + y = omega arith in g)))
        (went_same_all f g c (λ B (b : 1 ≤ count_all B c). h B (let x : ℕ = count B n in let y : ℕ = count_all B c in let g : 1 ≤ x + y = omega arith in g)))

  mutual
    unfolding went went_all

    went_none : (n : NConf) → went (λ B. false) n ≡ n
    went_none (Basic A q forward S) = refl
    went_none (Basic A q backward S) = refl
    went_none (Nest A q r S c) = ap (Nest A q r S) (went_none_all c)

    went_none_all : (c : Conf) → went_all (λ B. false) c ≡ c
    went_none_all end = refl
    went_none_all (next n c) = ap₂ next (went_none n) (went_none_all c)

  went_join : (f g : ℕ → Bool) (α β : List NConf) (n m : NConf) → ((B : ℕ) → 1 ≤ count_all B (Vect α) → f B ≡ g B) → ((B : ℕ) → 1 ≤ count_all B (Vect β) → f B ≡ g B)
      → went f n ≡ went g m → went_all f (Vect (α ++ (n ∷ β))) ≡ went_all g (Vect (α ++ (m ∷ β)))
  unfolding Vect count_all went_all
  went_join f g [] β n m x y h = ap₂ next h (went_same_all f g (Vect β) y)
  went_join f g (k ∷ α) β n m x y h =
      ap₂ next
      (went_same f g k (λ B (b : 1 ≤ count B k). x B (let u : ℕ = count B k in let v : ℕ = count_all B (Vect α) in let g : 1 ≤ u + v = omega arith in g)))
      (went_join f g α β n m
      (λ B (b : 1 ≤ count_all B (Vect α)). x B (let u : ℕ = count B k in let v : ℕ = count_all B (Vect α) in let g : 1 ≤ u + v = omega arith in g)) y h)

module _ (p : Plan) (ρ : FailReading) (ok : Accepted p) where
  -- what goto enters is below
  listed_none_there : (A n i : ℕ) (f : ℕ → Bool) (g : ℕ → NConf) → ((k : ℕ) → i ≤ k → k < i + n → f k ≡ true → count A (g k) ≡ 0) → count_all A (Vect (listed_from n i f g)) ≡ 0
  unfolding listed_from Vect count_all
  listed_none_there A zero i f g h = refl
  listed_none_there A (suc n) i f g h = go (f i) refl (listed_none_there A n (suc i) f g (λ k b c. h k (omega arith) (omega arith)))
    where
      go : (x : Bool) → f i ≡ x → count_all A (Vect (listed_from n (suc i) f g)) ≡ 0 → count_all A (Vect (cond x (g i ∷ listed_from n (suc i) f g) (listed_from n (suc i) f g))) ≡ 0
      go true e r = let w = h i (omega arith) (omega arith) e in rw (w, r)
      go false e r = r

  goto_count : (B n A q : ℕ) (S : Stack) → is_state_of p A q ≡ true → (Reaches p ok A B → ⊥) → count B (goto_to p n A q S) ≡ 0
  unfolding goto_to init_by count listed
  goto_count B zero A q S o r = rw (ne_eqb A B (λ e. r (inl e)))
  goto_count B (suc n) A q S o r =
      elim (look (is_hosting p q)) [
        | inr e ↦ rw (e, ne_eqb A B (λ e. r (inl e)))
        | inl e ↦
            rw (e, ne_eqb A B (λ e. r (inl e)))
            (zero-add _
            ∙ listed_none_there B (track_count p) 0 (is_in p q) (λ C. goto_to p n C (first_state p C) [])
            (λ C a b y.
            goto_count B n C (first_state p C) [] (ok.first_own C (omega arith))
            (λ z. r (reach_up p ok A C B (subst (λ x. is_hosted_by p x C ≡ true) (state_of p A q o).1 (host_by p C q (in_host p q C y))) z))))
      ]

  module _ (i : EventArguments) (A : ℕ) (f g : ℕ → Bool) (agree : (B : ℕ) → (B ≡ A → ⊥) → f B ≡ g B) (here : f A ≡ true)
      (clear : (B : ℕ) → Reaches p ok A B → g B ≡ false) where
    -- the transition is the state's, on the day
    takes_on : (q x : ℕ) → x < transition_count p → (transition p x).source ≡ q → (transition p x).event ≡ i.event → may_take p i.day x ≡ true
        → taken_on p i.day (transition_for p q i.event) ≡ some x
    unfolding taken_on
    takes_on q x b s e m = rw (takes_it p ok i.event q x b s e, taken_on, m)

    goto_quiet : (q : ℕ) (S : Stack) → is_state_of p A q ≡ true → went p i g (goto p A q S) ≡ goto p A q S
    unfolding goto
    goto_quiet q S o =
        went_same p i g (λ B. false) (goto_to p (track_count p) A q S)
        (λ B b.
        refuted (g B)
        (λ y.
        let z = goto_count B (track_count p) A q S o (λ r. clash y (clear B r)) in
        let x : ℕ = count B (goto_to p (track_count p) A q S) in let b' : 1 ≤ x = b in let z' : x ≡ 0 = z in omega arith))
        ∙ went_none p i (goto_to p (track_count p) A q S)

    goto_absent : (B q : ℕ) (S : Stack) → is_state_of p A q ≡ true → g B ≡ true → count B (goto p A q S) ≡ 0
    unfolding goto
    goto_absent B q S o y = goto_count B (track_count p) A q S o (λ r. clash y (clear B r))

    record Went (n m : NConf) : Type 0 where
      there : 1 ≤ count A n
      same : count A n ≤ 1 → went p i f n ≡ went p i g m
      rest : (B : ℕ) → g B ≡ true → count B m ≤ count B n

    record WentAll (c d : Conf) : Type 0 where
      there : 1 ≤ count_all A c
      same : count_all A c ≤ 1 → went_all p i f c ≡ went_all p i g d
      rest : (B : ℕ) → g B ≡ true → count_all B d ≤ count_all B c

    suc_went_basic : (q x : ℕ) (S : Stack) → x < transition_count p → mover p x ≡ A → (transition p x).source ≡ q → (transition p x).event ≡ i.event
        → may_take p i.day x ≡ true
        → Went (Basic A q forward S) (goto p A (transition p x).destination (push (transition p x).code (optional (transition p x).deviation) S))
    unfolding count went leaves
    suc_went_basic q x S b e s v y =
        let t = (transition p x).destination in
        let S' = push (transition p x).code (optional (transition p x).deviation) S in
        let own : is_state_of p A t ≡ true = subst (λ y. is_state_of p y t ≡ true) e (ok.destination_own x b) in
        record {
          there = let e = one_here p i A A refl in let w : ℕ = cond (eqb A A) 1 0 in let e' : w ≡ 1 = e in let g : 1 ≤ w = omega arith in g;
          same = λ w. rw (here, takes_on q x b s v y, leaves) (sym (goto_quiet t S' own));
          rest = λ B y. let z = goto_absent B t S' own y in let w : ℕ = count B (goto p A t S') in let z' : w ≡ 0 = z in let k : ℕ = cond (eqb A B) 1 0 in let g : w ≤ k = omega arith in g;
        }

    suc_went : {c d : Conf} {a : Act} → VStep p ρ c a d → a ≡ suc_at A i → WentAll c d
    unfolding count count_all went went_all is_suc
    suc_went s =
        elim s as (λ n a m x. a ≡ suc_at A i → Went n m) (λ c a d x. a ≡ suc_at A i → WentAll c d) [
          | SUC B q j x S b e k v y o ↦
              λ h.
              let z : A ≡ B = cc in
              let w : i ≡ j = cc in
              subst (λ C. Went (Basic C q forward S) (goto p C (transition p x).destination (push (transition p x).code (optional (transition p x).deviation) S))) z
              (suc_went_basic q x S b (e ∙ sym z) k (v ∙ ap (λ (a : EventArguments). a.event) (sym w)) (ap (λ (a : EventArguments). may_take p a.day x) w ∙ y))
          | FAIL B q S ↦ λ h. clash (ap is_suc h) refl
          | FAILNEST B q S c w ↦ λ h. clash (ap is_suc h) refl
          | COMP B q c S ↦ λ h. clash (ap is_suc h) refl
          | DEV B q d S ↦ λ h. clash (ap is_suc h) refl
          | NESTSUC B q S c t ↦ λ h. clash (ap is_suc h) refl
          | NESTFAIL B q S c t ↦ λ h. clash (ap is_suc h) refl
          | NESTCOMP B q S c t ↦ λ h. clash (ap is_suc h) refl
          | NEST B q r S {c = c} {d = d} (s → ih) ↦
              λ h.
              let u = ih h in
              let x : ℕ = cond (eqb B A) 1 0 in
              let y : ℕ = count_all A c in
              let t : 1 ≤ y = u.there in
              record {
                there = let g : 1 ≤ x + y = omega arith in g;
                same = λ (w : x + y ≤ 1). ap (Nest B q r S) (u.same (let g : y ≤ 1 = omega arith in g));
                rest =
                    λ C k.
                    let v = u.rest C k in
                    let x : ℕ = cond (eqb B C) 1 0 in let y : ℕ = count_all C c in let z : ℕ = count_all C d in
                    let v' : z ≤ y = v in let g : x + z ≤ x + y = omega arith in g;
              }
          | VECT α β {n = n} {m = m} (s → ih) ↦
              λ h.
              let u = ih h in
              let j = count_join A α β n in
              let x : ℕ = count_all A (Vect α) in let y : ℕ = count A n in let z : ℕ = count_all A (Vect β) in
              let w : ℕ = count_all A (Vect (α ++ (n ∷ β))) in
              let j' : w ≡ x + (y + z) = j in
              let t : 1 ≤ y = u.there in
              record {
                there = let g : 1 ≤ w = omega arith in g;
                same =
                    λ (k : w ≤ 1).
                    let zx : x ≡ 0 = omega arith in
                    let zz : z ≡ 0 = omega arith in
                    went_join p i f g α β n m (λ B b. agree B (λ e. absent A (Vect α) zx B b e)) (λ B b. agree B (λ e. absent A (Vect β) zz B b e))
                    (u.same (let g : y ≤ 1 = omega arith in g));
                rest =
                    λ C k.
                    let v = u.rest C k in
                    let j = count_join C α β n in
                    let l = count_join C α β m in
                    let x : ℕ = count_all C (Vect α) in let y : ℕ = count C n in let y' : ℕ = count C m in let z : ℕ = count_all C (Vect β) in
                    let w : ℕ = count_all C (Vect (α ++ (n ∷ β))) in
                    let w' : ℕ = count_all C (Vect (α ++ (m ∷ β))) in
                    let j' : w ≡ x + (y + z) = j in
                    let l' : w' ≡ x + (y' + z) = l in
                    let v' : y' ≤ y = v in
                    let g : w' ≤ w = omega arith in g;
              }
        ]
      where
        absent : (A : ℕ) (c : Conf) → count_all A c ≡ 0 → (B : ℕ) → 1 ≤ count_all B c → B ≡ A → ⊥
        absent A c z B b e = let b' : 1 ≤ count_all A c = subst (λ x. 1 ≤ count_all x c) e b in omega arith

  -- SUC at the automata of a list one after the other, each standing at one place and none nested in another
  suc_run : (i : EventArguments) {c d : Conf} {w : List Act} → Run p ρ c w d → (order : List ℕ) → w ≡ sucs i order → is_once_each order ≡ true
      → ((A : ℕ) → has order A ≡ true → count_all A c ≤ 1) → ((A B : ℕ) → has order A ≡ true → has order B ≡ true → is_above p A B ≡ true → ⊥)
      → went_all p i (has order) c ≡ d
  unfolding sucs has is_once_each
  suc_run i {c} stop [] e o one apart = went_none_all p i c
  suc_run i stop (A ∷ order) e o one apart = let z : ◌≡◌ {A = ℕ} 0 1 = cc in absurd (omega arith)
  suc_run i (step s r) [] e o one apart = let z : ◌≡◌ {A = ℕ} 0 1 = cc in absurd (omega arith)
  suc_run i {c} (step {d = d} {a = a} {w = w} s r) (A ∷ order) e o one apart =
      let ea : a ≡ suc_at A i = cc in
      let ew : w ≡ sucs i order = cc in
      let (x, y) = and_holds (not (has order A)) (is_once_each order) o in
      let here : (eqb A A || has order A) ≡ true = rw (eq-eqb A A refl) in
      let later : (B : ℕ) → has order B ≡ true → (eqb A B || has order B) ≡ true = λ B h. or_right (eqb A B) (has order B) h in
      let u =
      suc_went i A (λ B. eqb A B || has order B) (has order) (λ B n. rw (ne_eqb A B (λ z. n (sym z)))) here
      (λ B q. elim q [ inl z ↦ subst (λ C. has order C ≡ false) z (not-true (has order A) x) | inr z ↦ refuted (has order B) (λ h. apart A B here (later B h) z) ]) s ea in
      u.same (one A here)
      ∙ suc_run i r order ew y
      (λ B h. let v = u.rest B h in let k = one B (later B h) in let m : ℕ = count_all B c in let n : ℕ = count_all B d in let v' : n ≤ m = v in let k' : m ≤ 1 = k in let g : n ≤ 1 = omega arith in g)
      (λ B C h k z. apart B C (later B h) (later C k) z)

  pub suc_unique : (i : EventArguments) (c d e : Conf) (v w : List ℕ) → Run p ρ c (sucs i v) d → Run p ρ c (sucs i w) e → is_once_each v ≡ true → is_once_each w ≡ true
      → has v ≡ has w → ((A : ℕ) → count_all A c ≤ 1) → ((A B : ℕ) → has v A ≡ true → has v B ≡ true → is_above p A B ≡ true → ⊥) → d ≡ e
  suc_unique i c d e v w r s x y h one apart =
      sym (suc_run i r v refl x (λ A k. one A) apart) ∙ ap (λ f. went_all p i f c) h
      ∙ suc_run i s w refl y (λ A k. one A) (λ A B j k z. apart A B (ap (λ f. f A) h ∙ j) (ap (λ f. f B) h ∙ k) z)

  -- In a view each automaton stands at one place at most.
  listed_once : (A n i : ℕ) (f : ℕ → Bool) (g : ℕ → NConf) → ((k : ℕ) → k < i + n → f k ≡ true → count A (g k) ≤ 1)
      → ((k j : ℕ) → k < i + n → j < i + n → f k ≡ true → f j ≡ true → (k ≡ j → ⊥) → 1 ≤ count A (g k) → count A (g j) ≡ 0)
      → count_all A (Vect (listed_from n i f g)) ≤ 1
  unfolding listed_from Vect count_all
  listed_once A zero i f g h q = omega arith
  listed_once A (suc n) i f g h q = go (f i) refl (listed_once A n (suc i) f g (λ k b. h k (omega arith)) (λ k j b c. q k j (omega arith) (omega arith)))
    where
      go : (x : Bool) → f i ≡ x → count_all A (Vect (listed_from n (suc i) f g)) ≤ 1
          → count_all A (Vect (cond x (g i ∷ listed_from n (suc i) f g) (listed_from n (suc i) f g))) ≤ 1
      go false e r = r
      go true e r = cases (count A (g i)) refl
        where
          cases : (m : ℕ) → count A (g i) ≡ m → count A (g i) + count_all A (Vect (listed_from n (suc i) f g)) ≤ 1
          cases zero z = let y : ℕ = count_all A (Vect (listed_from n (suc i) f g)) in let x : ℕ = count A (g i) in let z' : x ≡ 0 = z in let r' : y ≤ 1 = r in let g : x + y ≤ 1 = omega arith in g
          cases (suc m) z =
              let x : ℕ = count A (g i) in
              let y : ℕ = count_all A (Vect (listed_from n (suc i) f g)) in
              let z' : x ≡ suc m = z in
              let one : x ≤ 1 = h i (omega arith) e in
              let w : y ≡ 0 =
              listed_none_there A n (suc i) f g
              (λ k b c t. q i k (omega arith) (omega arith) e t (λ j. let j' : i ≡ k = j in absurd (omega arith)) (let g : 1 ≤ x = omega arith in g)) in
              let g : x + y ≤ 1 = omega arith in g

  -- whether a track is at or above another
  reaches : (t u : ℕ) → (Reaches p ok t u) ⊎ (Reaches p ok t u → ⊥)
  reaches t u =
      elim (look (eqb t u)) [
        | inl e ↦ inl (inl (eqb-true t u e))
        | inr e ↦
            elim (look (is_above p t u)) [
              | inl a ↦ inl (inr a)
              | inr a ↦ inr (λ r. elim r [ inl z ↦ absurd (eqb-false t u e z) | inr z ↦ clash z a ])
            ]
      ]

  module _ (l : Ledger) (n : Nested p l) (A : ℕ) where
    record Placed (t : ℕ) : Type 0 where
      once : count A (view_of p ρ l t) ≤ 1
      below : (Reaches p ok t A → ⊥) → count A (view_of p ρ l t) ≡ 0

    there_reaches : (t : ℕ) → Placed t → 1 ≤ count A (view_of p ρ l t) → Reaches p ok t A
    there_reaches t w b =
        elim (reaches t A) [
          | inl r ↦ r
          | inr r ↦ let x : ℕ = count A (view_of p ρ l t) in let b' : 1 ≤ x = b in let z : x ≡ 0 = w.below r in absurd (omega arith)
        ]

    basic_count : (t : ℕ) → count A (basic p l t) ≡ cond (eqb t A) 1 0
    unfolding basic count
    basic_count t = refl

    nested_count : (t : ℕ) (c : Conf) → count A (nested p ρ l t c) ≡ cond (eqb t A) 1 0 + count_all A c
    unfolding nested count
    nested_count t c = refl

    at_most : (b : Bool) → cond b 1 0 ≤ 1
    at_most true = omega arith
    at_most false = omega arith

    not_there : (t : ℕ) → (t ≡ A → ⊥) → ◌≡◌ {A = ℕ} (cond (eqb t A) 1 0) 0
    not_there t d = rw (ne_eqb t A d)

    free_placed : (t : ℕ) → view_of p ρ l t ≡ basic p l t → Placed t
    free_placed t e =
        let q = ap (count A) e ∙ basic_count t in
        let x : ℕ = count A (view_of p ρ l t) in
        let y : ℕ = cond (eqb t A) 1 0 in
        let q' : x ≡ y = q in
        let m : y ≤ 1 = at_most (eqb t A) in
        record {
          once = let g : x ≤ 1 = omega arith in g;
          below = λ r. q ∙ not_there t (λ e. r (inl e));
        }

    self_below : (t k : ℕ) → is_hosted_by p t k ≡ true → t ≡ A → Reaches p ok k A → ⊥
    self_below t k i e (inl z) = let c = hosts_higher p ok t k i in omega arith
    self_below t k i e (inr z) = let c = hosts_higher p ok t k i in let d = above_lower p ok k A z in omega arith

    busy_placed : (t : ℕ) → view_of p ρ l t ≡ nested p ρ l t (Vect (listed (track_count p) (is_within p l t) (view_of p ρ l)))
        → ((k : ℕ) → k < track_count p → is_hosted_by p t k ≡ true → Awake l k → Placed k) → Placed t
    unfolding listed
    busy_placed t e inner =
        let c : Conf = Vect (listed (track_count p) (is_within p l t) (view_of p ρ l)) in
        let q = ap (count A) e ∙ nested_count t c in
        let x : ℕ = count A (view_of p ρ l t) in
        let y : ℕ = cond (eqb t A) 1 0 in
        let z : ℕ = count_all A c in
        let q' : x ≡ y + z = q in
        let m : y ≤ 1 = at_most (eqb t A) in
        let none_in : ((k : ℕ) → is_hosted_by p t k ≡ true → Reaches p ok k A → ⊥) → z ≡ 0 =
        λ w.
        listed_none_there A (track_count p) 0 (is_within p l t) (view_of p ρ l)
        (λ k a b f. let (i, v) = within_parts p l t k f in (inner k (omega arith) i v).below (w k i)) in
        let inside : z ≤ 1 =
        listed_once A (track_count p) 0 (is_within p l t) (view_of p ρ l)
        (λ k b f. let (i, v) = within_parts p l t k f in (inner k (omega arith) i v).once)
        (λ k j b d f g u w.
        let (i, v) = within_parts p l t k f in
        let (i', v') = within_parts p l t j g in
        (inner j (omega arith) i' v').below (λ r. beside p ok t k j A i i' u r (there_reaches k (inner k (omega arith) i v) w))) in
        record {
          once =
              elim (look (eqb t A)) [
                | inl s ↦
                    let z' : z ≡ 0 = none_in (λ k i r. self_below t k i (eqb-true t A s) r) in let g : x ≤ 1 = omega arith in g
                | inr s ↦ let y' : y ≡ 0 = not_there t (eqb-false t A s) in let g : x ≤ 1 = omega arith in g
              ];
          below =
              λ r.
              let y' : y ≡ 0 = not_there t (λ s. r (inl s)) in
              let z' : z ≡ 0 = none_in (λ k i w. r (reach_up p ok t k A i w)) in
              let g : x ≡ 0 = omega arith in g;
        }

    placed : (t : ℕ) → t < track_count p → Placed t
    placed =
        down (track_count p) Placed
        (λ t b ih.
        elim (look (has_open_scope p l t)) [
          | inr f ↦ free_placed t (view_law p ρ l ok t b ∙ shown_free p ρ l t (view_of p ρ l) f)
          | inl f ↦ busy_placed t (view_law p ρ l ok t b ∙ shown_busy p ρ l t (view_of p ρ l) f) (λ k c i a. ih k c (hosts_higher p ok t k i))
        ])

    pub view_once : count_all A (view p ρ l) ≤ 1
    unfolding view listed
    view_once =
        listed_once A (track_count p) 0 (is_on_top p l) (view_of p ρ l) (λ k b f. (placed k (omega arith)).once)
        (λ k j b d f g u w.
        (placed j (omega arith)).below
        (λ r. roots_beside p ok k j A (top_parts p l k f).0 (top_parts p l j g).0 u r (there_reaches k (placed k (omega arith)) w)))
