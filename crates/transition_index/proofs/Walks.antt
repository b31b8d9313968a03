-- A walk along the chain of a cell: what it left behind is no transition of that source for that event, and what it finds is the only one.
-- Assumes nothing.
use Rattle.std.proofs.Common.{◌≡◌, refl, sym, ap, ◌∙◌, true, false, rules, ⊎_elim, inl, inr, List, ℕ, suc, ◌<◌, ◌≤◌, eq-or-lt_of_le, arith, get_or, eqb, ltb, eqb-true, ltb-true, ltb-false, eq-eqb, ne_eqb}
use Rattle.std.proofs.Math.Option.{none, some}
use borrow.Author.Tests.{eqb-false}
use Rattle.rules.specs.declared.Counts.{Counts}
use Rattle.rules.specs.Plan.{Plan, plan_of, transition, transition_count, transition_for}
use Rattle.rules.proofs.Tests.{look, look_option, clash, and_holds, and_not}
use Rattle.rules.proofs.Folds.{some_not, first_none}
use Rattle.rules.proofs.Acceptance.{accepts, transition_for_lem}
use Rattle.plan.specs.Chain.{last_below, has, Chained, cell}
use Rattle.plan.proofs.ChainLaws.{last_most, last_passes, last_skips}
use Rattle.plan.proofs.FieldLaws.{transition_count_lem}
use Rattle.ledger.specs.Ladder.{Accepts}
use Rattle.transition_index.specs.Indexed.{is_for, cell_of, Indexed}

pub cell_told : (p : Plan) (x s e : ℕ) → s ≡ (transition p x).source → e ≡ (transition p x).event → cell_of s e ≡ cell p x
unfolding cell_of cell
cell_told p x s e h k = rw (h, k)

pub cell_low : (p : Plan) (x : ℕ) → cell p x < 256
unfolding cell
cell_low p x = search rules

module _ (p : Plan) (s e : ℕ) where
  for_told : (x : ℕ) → is_for p s e x ≡ true → ((transition p x).source ≡ s) × ((transition p x).event ≡ e)
  unfolding is_for
  for_told x h = let (a, b) = and_holds _ _ h in (eqb-true _ _ a, eqb-true _ _ b)

  for_shown : (x : ℕ) → (transition p x).source ≡ s → (transition p x).event ≡ e → is_for p s e x ≡ true
  unfolding is_for
  for_shown x a b = rw (eq-eqb _ _ a, eq-eqb _ _ b)

  -- what the two tests tell
  pub other_source : (x a : ℕ) → a ≡ (transition p x).source → (a ≡ s → ⊥) → false ≡ is_for p s e x
  unfolding is_for
  other_source x a h k = rw (ne_eqb (transition p x).source s (λ q. k (h ∙ q)))

  pub same_source : (x a b : ℕ) → a ≡ (transition p x).source → a ≡ s → b ≡ (transition p x).event → eqb b e ≡ is_for p s e x
  unfolding is_for
  same_source x a b h k i = rw (eq-eqb (transition p x).source s (sym h ∙ k), i)

  for_none : (x : ℕ) → transition_for p s e ≡ none → x < transition_count p → is_for p s e x ≡ false
  unfolding transition_for is_for
  for_none x h l = some_not (transition_count p) _ (first_none (transition_count p) _ h) x l

  -- the transitions of another cell are none of these
  other_cell : (x : ℕ) → has (cell p) (cell_of s e) x ≡ false → is_for p s e x ≡ false
  unfolding has is_for
  other_cell x h =
      and_not _ _
      (λ (a : eqb (transition p x).source s ≡ true) (b : eqb (transition p x).event e ≡ true).
      eqb-false _ _ h (sym (cell_told p x s e (sym (eqb-true _ _ a)) (sym (eqb-true _ _ b)))))

  -- y is where the walk stands, of n transitions
  pub record Walk (n y : ℕ) : Type 0 where
    pub within : y ≤ n
    pub behind : (z : ℕ) → y ≤ z → z < n → is_for p s e z ≡ false
    pub same : (z : ℕ) → y ≡ suc z → cell p z ≡ cell_of s e

  walk_at : (n m : ℕ) → m ≤ n → ((z : ℕ) → m ≤ z → z < n → is_for p s e z ≡ false) → Walk n (last_below m (has (cell p) (cell_of s e)))
  walk_at n m l h =
      record {
        within = let q = last_most m (has (cell p) (cell_of s e)) in omega arith;
        behind = λ z a b.
            ⊎_elim (λ (k : ltb z m ≡ true). other_cell z (last_skips m (has (cell p) (cell_of s e)) z a (ltb-true z m k)))
            (λ (k : ltb z m ≡ false). h z (ltb-false z m k) b) (look (ltb z m));
        same = λ z i. unfold has in eqb-true _ _ (last_passes m (has (cell p) (cell_of s e)) z i);
      }

  -- the next of the chain
  pub record Next (n y m : ℕ) : Type 0 where
    pub walk : Walk n m
    pub lower : m < y

  pub walk_on : (n k : ℕ) (before : List ℕ) → Walk n (suc k) → is_for p s e k ≡ false → Chained (cell p) n before → Next n (suc k) (get_or before k 0)
  unfolding Chained
  walk_on n k before w h c =
      let l = w.within in
      let q : get_or before k 0 ≡ last_below k (has (cell p) (cell_of s e)) =
      c k (omega arith) ∙ ap (λ (j : ℕ). last_below k (has (cell p) j)) (w.same k refl) in
      let t = last_most k (has (cell p) (cell_of s e)) in
      record {
        walk =
            rw q
            (walk_at n k (omega arith)
            (λ v a b. ⊎_elim (λ (g : k ≡ v). rw (← g) h) (λ (g : k < v). w.behind v g b) (eq-or-lt_of_le a)));
        lower = rw q (omega arith);
      }

module _ (bs : List ℕ) (c : Counts) (s e : ℕ) where
  pub walk_start : (last before : List ℕ) → Indexed bs c last before → (k : ℕ) → k ≡ cell_of s e → k < 256 → Walk (plan_of bs c) s e c.transitions (get_or last k 0)
  walk_start last before h k i l =
      rw (h.last k l, i) (walk_at (plan_of bs c) s e c.transitions c.transitions (omega arith) (λ z a b. absurd (omega arith)))

  -- nothing was found
  pub none_found : (y : ℕ) → y ≡ 0 → Walk (plan_of bs c) s e c.transitions y → none ≡ transition_for (plan_of bs c) s e
  none_found y z w =
      elim (look_option (transition_for (plan_of bs c) s e)) [
        | inl h ↦ sym h
        | inr (x, h) ↦
            let (l, a, b) = transition_for_lem (plan_of bs c) s e x h in
            let n : x < c.transitions = rw transition_count_lem at l in
            clash (for_shown (plan_of bs c) s e x a b) (w.behind x (omega arith) n)
      ]

  -- what was found is the only one
  pub one_found : Accepts bs c → (x : ℕ) → x < c.transitions → is_for (plan_of bs c) s e x ≡ true → some x ≡ transition_for (plan_of bs c) s e
  one_found g x n f =
      let m : x < transition_count (plan_of bs c) = rw transition_count_lem n in
      elim (look_option (transition_for (plan_of bs c) s e)) [
        | inl h ↦ clash f (for_none (plan_of bs c) s e x h m)
        | inr (z, h) ↦
            let (l, a, b) = transition_for_lem (plan_of bs c) s e z h in
            let (d, k) = for_told (plan_of bs c) s e x f in
            let i = g.holds.transitions in
            rw h (ap some ((accepts bs c g.read).deterministic x z m l (d ∙ sym a) (k ∙ sym b)))
      ]
