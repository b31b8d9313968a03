-- Paths of transitions. A path with as many transitions as there are states comes to some state twice, so from its first state on one can go
-- round for ever; where there is no cycle, no transition is on a path twice. Assumes nothing.
use mathlib.Core.Path.{◌≡◌, refl, ap, ◌∙◌}
use mathlib.Core.Bool.{true, false}
use mathlib.Core.List.{List, [], ◌∷◌, ◌++◌}
use mathlib.Core.Logic.{inl, inr, ◌↔◌}
use Prim.Native.Nat.{ℕ, zero, suc, ◌+◌, ◌<◌, ◌≤◌}
use native.Mathlib.Nat.{not-suc-le-zero}
use native.Mathlib.Omega.{arith}
use lib.ListN.{length, length-append}
use lib.Dec.{eqb, ltb}
use borrow.Author.Tests.{eqb-true, eqb-false, eq-eqb, ltb-true, ltb-false, lt-ltb}
use Rattle.rules.specs.Plan.{Plan, state_count, transition_count, transition, is_state_of}
use Rattle.rules.specs.Largest.{of_transition, of_state, leaves, is_path, end_of, Leads, entries_along, goes_on, has_cycle, Cycle}
use Rattle.rules.proofs.Tests.{look, clash, refuted, and_holds, and_both}
use Rattle.rules.proofs.Folds.{some_at, some_not, some_find, some_none}
use Rattle.rules.proofs.Acceptance.{Accepted}
use Rattle.rules.proofs.Occurrences.{occurrences, one_same, one_other, longer_twice}

module _ (p : Plan) where
  pub leaves_told : (s x : ℕ) → leaves p s x ≡ true → (x < transition_count p) × ((transition p x).source ≡ s)
  unfolding leaves
  leaves_told s x h = let (a, b) = and_holds (ltb x (transition_count p)) _ h in (ltb-true _ _ a, eqb-true _ _ b)

  pub leaves_shown : (s x : ℕ) → x < transition_count p → (transition p x).source ≡ s → leaves p s x ≡ true
  unfolding leaves
  leaves_shown s x l e = rw (lt-ltb x (transition_count p) l, eq-eqb (transition p x).source s e)

  -- a path's first transition, and the rest
  pub path_parts : (s x : ℕ) (xs : List ℕ) → is_path p s (x ∷ xs) ≡ true → (leaves p s x ≡ true) × (is_path p (transition p x).destination xs ≡ true)
  unfolding is_path
  path_parts s x xs h = and_holds (leaves p s x) _ h

  pub path_from : (s x : ℕ) (xs : List ℕ) → leaves p s x ≡ true → is_path p (transition p x).destination xs ≡ true → is_path p s (x ∷ xs) ≡ true
  unfolding is_path
  path_from s x xs h k = and_both _ _ h k

  pub path_append : (s : ℕ) (xs ys : List ℕ) → is_path p s xs ≡ true → is_path p (end_of p s xs) ys ≡ true → is_path p s (xs ++ ys) ≡ true
  unfolding end_of
  path_append s [] ys h k = k
  path_append s (x ∷ xs) ys h k =
      let (a, b) = path_parts s x xs h in
      path_from s x (xs ++ ys) a (path_append (transition p x).destination xs ys b k)

  end_append : (s : ℕ) (xs ys : List ℕ) → end_of p s (xs ++ ys) ≡ end_of p (end_of p s xs) ys
  unfolding end_of
  end_append s [] ys = refl
  end_append s (x ∷ xs) ys = end_append (transition p x).destination xs ys

  -- a path made longer by one transition: it leads to that one's destination, and has its entries and the destination's more
  pub path_longer : (s : ℕ) (xs : List ℕ) (x : ℕ) → is_path p s xs ≡ true → leaves p (end_of p s xs) x ≡ true → is_path p s (xs ++ (x ∷ [])) ≡ true
  unfolding is_path
  path_longer s xs x h a = path_append s xs (x ∷ []) h (path_from (end_of p s xs) x [] a refl)

  pub end_longer : (s : ℕ) (xs : List ℕ) (x : ℕ) → end_of p s (xs ++ (x ∷ [])) ≡ (transition p x).destination
  unfolding end_of
  end_longer s xs x = end_append s xs (x ∷ [])

  pub entries_longer : (s : ℕ) (xs : List ℕ) (x : ℕ)
      → entries_along p s (xs ++ (x ∷ [])) ≡ entries_along p s xs + (of_transition p x + of_state p (transition p x).destination)
  unfolding entries_along
  entries_longer s [] x = refl
  entries_longer s (y ∷ xs) x = omega (arith, entries_longer (transition p y).destination xs x)

  -- one can go on n times from s exactly if some path from s is that long
  pub goes_along : (n s : ℕ) (xs : List ℕ) → is_path p s xs ≡ true → n ≤ length xs → goes_on p n s ≡ true
  unfolding goes_on
  goes_along zero s xs h l = refl
  goes_along (suc n) s [] h l = absurd (not-suc-le-zero l)
  goes_along (suc n) s (x ∷ xs) h l =
      let (a, b) = path_parts s x xs h in
      some_at (transition_count p) _ x (leaves_told s x a).0 (and_both _ _ a (goes_along n (transition p x).destination xs b (omega arith)))

  pub goes_path : (n s : ℕ) → goes_on p n s ≡ true → (xs : List ℕ) × (is_path p s xs ≡ true) × (length xs ≡ n)
  unfolding goes_on is_path
  goes_path zero s h = ([], refl, refl)
  goes_path (suc n) s h =
      let (x, l, q) = some_find (transition_count p) _ h in
      let (a, b) = and_holds (leaves p s x) _ q in
      let (xs, i, j) = goes_path n (transition p x).destination b in
      (x ∷ xs, path_from s x xs a i, ap suc j)

  pub goes_through : (n s x : ℕ) → leaves p s x ≡ true → goes_on p n (transition p x).destination ≡ true → goes_on p (suc n) s ≡ true
  unfolding goes_on
  goes_through n s x a b = some_at (transition_count p) _ x (leaves_told s x a).0 (and_both _ _ a b)

  pub goes_less : (m n s : ℕ) → m ≤ n → goes_on p n s ≡ true → goes_on p m s ≡ true
  goes_less m n s l h = let (xs, i, j) = goes_path n s h in goes_along m s xs i (omega arith)

  -- where no transition's destination lets one go on n times
  pub goes_nowhere : (n s : ℕ) → ((x : ℕ) → leaves p s x ≡ true → goes_on p n (transition p x).destination ≡ false) → goes_on p (suc n) s ≡ false
  unfolding goes_on
  goes_nowhere n s h =
      some_none (transition_count p) _
      (λ x l. elim (look (leaves p s x)) [ inl a ↦ rw (a, h x a) | inr a ↦ rw a ])

  -- the states along a path, the first and the last included
  along : ℕ → List ℕ → List ℕ
  along s [] = s ∷ []
  along s (x ∷ xs) = s ∷ along (transition p x).destination xs

  length-along_lem : (s : ℕ) (xs : List ℕ) → length (along s xs) ≡ suc (length xs)
  unfolding along
  length-along_lem s [] = refl
  length-along_lem s (x ∷ xs) = ap suc (length-along_lem (transition p x).destination xs)

  pub leads_none : (s : ℕ) → Leads p s s
  unfolding is_path end_of
  leads_none s = record { by = []; path = refl; to = refl }

  pub leads_first : (s x u : ℕ) → leaves p s x ≡ true → Leads p (transition p x).destination u → Leads p s u
  unfolding end_of
  leads_first s x u a w = record { by = x ∷ w.by; path = path_from s x w.by a w.path; to = w.to }

  -- the states along a path are led to
  along_led : (u s : ℕ) (xs : List ℕ) → is_path p s xs ≡ true → (occurrences u (along s xs) ≡ 0 → ⊥) → Leads p s u
  unfolding along occurrences
  along_led u s [] h d =
      elim (look (eqb u s)) [
        | inl e ↦ rw (eqb-true u s e) (leads_none s)
        | inr e ↦ absurd (d (let z = one_other u s (eqb-false u s e) in omega arith))
      ]
  along_led u s (x ∷ xs) h d =
      elim (look (eqb u s)) [
        | inl e ↦ rw (eqb-true u s e) (leads_none s)
        | inr e ↦
            let (a, b) = path_parts s x xs h in
            leads_first s x u a
            (along_led u (transition p x).destination xs b
            (λ (z : occurrences u (along (transition p x).destination xs) ≡ 0). d (let y = one_other u s (eqb-false u s e) in omega arith)))
      ]

  -- a path from s to a cycle
  pub record Loops (s : ℕ) : Type 0 where
    pub cycle : Cycle p
    pub to : Leads p s cycle.from

  twice_loops : (u s : ℕ) (xs : List ℕ) → is_path p s xs ≡ true → 1 < occurrences u (along s xs) → Loops s
  unfolding along occurrences end_of
  twice_loops u s [] h d =
      elim (look (eqb u s)) [
        | inl e ↦ let z = one_same u s (eqb-true u s e) in absurd (omega arith)
        | inr e ↦ let z = one_other u s (eqb-false u s e) in absurd (omega arith)
      ]
  twice_loops u s (x ∷ xs) h d =
      let (a, b) = path_parts s x xs h in
      elim (look (eqb u s)) [
        | inl e ↦
            let q : u ≡ s = eqb-true u s e in
            let z = one_same u s q in
            let w = along_led u (transition p x).destination xs b (λ (n : occurrences u (along (transition p x).destination xs) ≡ 0). omega arith) in
            record {
              cycle = record { from = s; first = x; leaving = a; back = record { by = w.by; path = w.path; to = w.to ∙ q } };
              to = leads_none s;
            }
        | inr e ↦
            let z = one_other u s (eqb-false u s e) in
            let w = twice_loops u (transition p x).destination xs b (omega arith) in
            record { cycle = w.cycle; to = leads_first s x w.cycle.from a w.to }
      ]

  -- round a cycle as often as one likes
  round : (c : Cycle p) (n : ℕ) → (xs : List ℕ) × (is_path p c.from xs ≡ true) × (n ≤ length xs)
  unfolding is_path end_of
  round c zero = ([], refl, omega arith)
  round c (suc n) =
      let (xs, h, l) = round c n in
      let w = c.back in
      let ys : List ℕ = c.first ∷ w.by in
      let m : length (ys ++ xs) ≡ suc (length w.by) + length xs = length-append ys xs in
      (ys ++ xs, path_append c.from ys xs (path_from c.from c.first w.by c.leaving w.path) (rw w.to h), omega arith)

  pub loops_on : (s : ℕ) → Loops s → (n : ℕ) → goes_on p n s ≡ true
  loops_on s w n =
      let (xs, h, l) = round w.cycle n in
      let t = w.to in
      let m = length-append t.by xs in
      goes_along n s (t.by ++ xs) (path_append s t.by xs t.path (rw t.to h)) (omega arith)

  -- a transition that leads back to its source, at any remove
  pub led_back : (s x : ℕ) → leaves p s x ≡ true → Leads p (transition p x).destination s → Loops s
  led_back s x a w = record { cycle = record { from = s; first = x; leaving = a; back = w }; to = leads_none s }

  module _ (ok : Accepted p) where
    destination_state : (x : ℕ) → x < transition_count p → (transition p x).destination < state_count p
    unfolding is_state_of
    destination_state x l = ltb-true _ _ (and_holds (ltb (transition p x).destination (state_count p)) _ (ok.destination_own x l)).0

    pub leaves_states : (s x : ℕ) → leaves p s x ≡ true → (s < state_count p) × ((transition p x).destination < state_count p)
    leaves_states s x h =
        let (l, e) = leaves_told s x h in
        (rw e at (ok.source_state x l), destination_state x l)

    -- the states along a path are states
    along_states : (s : ℕ) → s < state_count p → (xs : List ℕ) → is_path p s xs ≡ true → (u : ℕ) → state_count p ≤ u → occurrences u (along s xs) ≡ 0
    unfolding along occurrences
    along_states s l [] h u m = let z = one_other u s (λ (e : u ≡ s). omega arith) in omega arith
    along_states s l (x ∷ xs) h u m =
        let (a, b) = path_parts s x xs h in
        let z = one_other u s (λ (e : u ≡ s). omega arith) in
        let i = along_states (transition p x).destination (leaves_states s x a).1 xs b u m in
        omega arith

    -- as many transitions as states, and one can go round for ever
    pub long_loops : (s : ℕ) → s < state_count p → goes_on p (state_count p) s ≡ true → Loops s
    long_loops s l h =
        let (xs, i, j) = goes_path (state_count p) s h in
        let m = length-along_lem s xs in
        let (u, d) = longer_twice (state_count p) (along s xs) (along_states s l xs i) (omega arith) in
        twice_loops u s xs i d

    pub ends_somewhere : (n s : ℕ) → s < state_count p → goes_on p n s ≡ false → goes_on p (state_count p) s ≡ false
    ends_somewhere n s l h = refuted _ (λ k. clash (loops_on s (long_loops s l k) n) h)

    -- what lies behind a transition ends too
    pub ends_behind : (s x : ℕ) → goes_on p (state_count p) s ≡ false → leaves p s x ≡ true → goes_on p (state_count p) (transition p x).destination ≡ false
    ends_behind s x h a = refuted _ (λ k. clash (goes_less (state_count p) (suc (state_count p)) s (omega arith) (goes_through (state_count p) s x a k)) h)

    -- 29's test of a plan finds a cycle exactly where there is one
    pub cycle_exactly : (has_cycle p ≡ true) ↔ Cycle p
    unfolding has_cycle
    cycle_exactly = (
      (λ h. let (s, l, g) = some_find (state_count p) _ h in (long_loops s l g).cycle),
      (λ c.
          let w : Loops c.from = record { cycle = c; to = leads_none c.from } in
          some_at (state_count p) _ c.from (leaves_states c.from c.first c.leaving).0 (loops_on c.from w (state_count p))),
    )

    pub never_round : has_cycle p ≡ false → (s : ℕ) → s < state_count p → goes_on p (state_count p) s ≡ false
    unfolding has_cycle
    never_round h s l = some_not (state_count p) _ h s l

    -- from where one cannot go on for ever, paths are shorter than the states are many
    pub path_short : (s : ℕ) → goes_on p (state_count p) s ≡ false → (xs : List ℕ) → is_path p s xs ≡ true → length xs < state_count p
    path_short s e xs h =
        elim (look (ltb (length xs) (state_count p))) [
          | inl a ↦ ltb-true _ _ a
          | inr a ↦ clash (goes_along (state_count p) s xs h (ltb-false _ _ a)) e
        ]

    -- a transition on a path comes no more often than its source
    once_source : (x s : ℕ) (xs : List ℕ) → is_path p s xs ≡ true → occurrences x xs ≤ occurrences (transition p x).source (along s xs)
    unfolding along occurrences
    once_source x s [] h = omega arith
    once_source x s (y ∷ ys) h =
        let (a, b) = path_parts s y ys h in
        let i = once_source x (transition p y).destination ys b in
        elim (look (eqb x y)) [
          | inl e ↦
              let q : (transition p x).source ≡ s = ap (λ (z : ℕ). (transition p z).source) (eqb-true x y e) ∙ (leaves_told s y a).1 in
              let m = one_same x y (eqb-true x y e) in
              let n = one_same (transition p x).source s q in
              omega arith
          | inr e ↦ let m = one_other x y (eqb-false x y e) in omega arith
        ]

    pub once_on_path : has_cycle p ≡ false → (s : ℕ) → s < state_count p → (xs : List ℕ) → is_path p s xs ≡ true → (x : ℕ) → occurrences x xs ≤ 1
    once_on_path c s l xs h x =
        elim (look (ltb 1 (occurrences x xs))) [
          | inl e ↦
              let m = ltb-true 1 (occurrences x xs) e in
              let i = once_source x s xs h in
              clash (loops_on s (twice_loops (transition p x).source s xs h (omega arith)) (state_count p)) (never_round c s l)
          | inr e ↦ ltb-false 1 (occurrences x xs) e
        ]
