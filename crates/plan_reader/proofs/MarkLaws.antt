-- Events marked group by group, along the chain of a group: a mark that stands already tells a later transition with that source and event, and
-- a chain whose marks were all new has no two with one event. In a group, the place of an event tells it. Assumes nothing.
use Rattle.std.proofs.Common.{◌≡◌, refl, sym, ap, ◌∙◌, true, false, ⊎_elim, List, ℕ, zero, suc, ◌+◌, ◌%◌, ◌<◌, ◌≤◌, eq-or-lt_of_le, arith, length, get_or, set, replicate, length-set, get_or-set_same, get_or-set_other, eqb, ltb, eqb-true, ltb-true, ltb-false}
use Rattle.std.proofs.Math.ListN.{length-replicate}
use borrow.Author.Tests.{eqb-false}
use Rattle.rules.specs.Fold.{some_below}
use Rattle.rules.specs.Plan.{Plan, transition}
use Rattle.rules.specs.Acceptance.{repeats_event}
use Rattle.rules.proofs.Tests.{look}
use Rattle.rules.proofs.Folds.{some_at, some_none}
use Rattle.plan.specs.Chain.{has}
use Rattle.plan.specs.Passes.{Last, Chains}
use Rattle.plan_reader.specs.Keys.{group}
use Rattle.plan.proofs.ChainLaws.{keyed}
use Rattle.plan_reader.proofs.CellLaws.{shares, repeats_some, shared, other_key}

-- what stands at every place of a list after one was set
set_all : (C : ℕ → Type 0) (l : List ℕ) (i v : ℕ) → i < length l → C v → ((k : ℕ) → C (get_or l k 0)) → (k : ℕ) → C (get_or (set l i v) k 0)
set_all C l i v h cv cl k =
    ⊎_elim (λ (q : eqb k i ≡ true). rw (eqb-true k i q, get_or-set_same l i v 0 h) cv)
    (λ (q : eqb k i ≡ false). rw (get_or-set_other l i k v 0 (eqb-false k i q)) (cl k)) (look (eqb k i))

-- what had v has it after v was set
set_keeps : (l : List ℕ) (i v k : ℕ) → i < length l → get_or l k 0 ≡ v → get_or (set l i v) k 0 ≡ v
set_keeps l i v k h e =
    ⊎_elim (λ (q : eqb k i ≡ true). rw (eqb-true k i q) (get_or-set_same l i v 0 h))
    (λ (q : eqb k i ≡ false). get_or-set_other l i k v 0 (eqb-false k i q) ∙ e) (look (eqb k i))

zeros : (n k : ℕ) → ◌≡◌ {A = ℕ} (get_or (replicate n 0) k 0) 0
zeros zero k = refl
zeros (suc n) zero = refl
zeros (suc n) (suc k) = zeros n k

module _ (p : Plan) (n : ℕ) where
  -- an event's place in its group
  unfoldable pub place : ℕ → ℕ
  place x = (transition p x).event % 4096

  pub place_at : (x e : ℕ) → e ≡ (transition p x).event → e % 4096 ≡ place x
  unfolding place
  place_at x e h = rw h

  other_group : (x y : ℕ) → (group p y ≡ group p x → ⊥) → shares p x y ≡ false
  unfolding group
  other_group = other_key p (group p) (λ a b s e. rw (s, e))

  other_place : (x y : ℕ) → (place y ≡ place x → ⊥) → shares p x y ≡ false
  unfolding place
  other_place = other_key p place (λ a b s e. rw e)

  both : (x y : ℕ) → (transition p x).event < 65536 → (transition p y).event < 65536 → group p y ≡ group p x → place y ≡ place x
      → shares p x y ≡ true
  unfolding group place
  both x y a b g h = shared p x y (omega arith) (omega arith)

  -- the groups below g are done
  pub record Done (g : ℕ) (marks : List ℕ) : Type 0 where
    pub size : length marks ≡ 4096
    pub most : (e : ℕ) → get_or marks e 0 ≤ g
    pub apart : (x : ℕ) → x < n → group p x < g → repeats_event p x ≡ false

  -- and the transitions of the group g from y on are marked: they have their events apart
  pub record Marked (g y : ℕ) (marks : List ℕ) : Type 0 where
    pub size : length marks ≡ 4096
    pub most : (e : ℕ) → get_or marks e 0 ≤ g + 1
    pub done : (x : ℕ) → x < n → group p x < g → repeats_event p x ≡ false
    pub within : y ≤ n
    pub same : (z : ℕ) → y ≡ suc z → group p z ≡ g
    pub seen : (z : ℕ) → y ≤ z → z < n → group p z ≡ g → get_or marks (place z) 0 ≡ g + 1
    pub told : (e : ℕ) → get_or marks e 0 ≡ g + 1
        → (z : ℕ) × (y ≤ z) × (z < n) × (group p z ≡ g) × (place z ≡ e) × ((transition p z).event < 65536)
    pub apart : (z w : ℕ) → y ≤ w → w < z → z < n → group p z ≡ g → shares p z w ≡ false

  pub done_none : (m : ℕ) (marks : List ℕ) → marks ≡ replicate m 0 → m ≡ 4096 → Done 0 marks
  done_none m marks e l =
      rw e
      (record {
        size = length-replicate {A = ℕ} m 0 ∙ l;
        most = λ k. let q = zeros m k in omega arith;
        apart = λ x l h. absurd (omega arith);
      })

  -- between the links of a chain nothing is of its group
  between : (g m y z : ℕ) → Last m (has (group p) g) y → y ≤ z → z < m → group p z ≡ g → ⊥
  unfolding has
  between g m y z w a b = eqb-false _ _ (w.none_after z a b)

  linked : (g m y z : ℕ) → Last m (has (group p) g) y → y ≡ suc z → group p z ≡ g
  unfolding has
  linked g m y z w e = eqb-true _ _ (w.passes z e)

  pub mark_start : (g y : ℕ) (marks : List ℕ) → Done g marks → Last n (has (group p) g) y → Marked g y marks
  mark_start g y marks d w =
      record {
        size = d.size;
        most = λ k. let q = d.most k in omega arith;
        done = d.apart;
        within = w.within;
        same = λ z. linked g n y z w;
        seen = λ z a b q. absurd (between g n y z w a b q);
        told = λ k q. let m = d.most k in absurd (omega arith);
        apart = λ z v a b l q. absurd (between g n y z w (let m : y ≤ z = omega arith in m) l q);
      }

  pub mark_found : (g y e : ℕ) (marks : List ℕ) → Marked g (suc y) marks → e ≡ place y → (transition p y).event < 65536
      → get_or marks e 0 ≡ g + 1 → some_below n (repeats_event p) ≡ true
  mark_found g y e marks m q b h =
      let (x, a, k, f, o, t) = m.told e h in
      some_at n (repeats_event p) x k
      (repeats_some p x ∙ some_at x (shares p x) y a (both x y t b (m.same y refl ∙ sym f) (sym q ∙ sym o)))

  pub record Step (g y v : ℕ) (marks : List ℕ) : Type 0 where
    pub marked : Marked g v marks
    pub lower : v < y

  pub mark_on : (g y e : ℕ) (marks last before : List ℕ) → Marked g (suc y) marks → e ≡ place y → (transition p y).event < 65536
      → (get_or marks e 0 ≡ g + 1 → ⊥) → e < 4096 → Chains (has (group p)) 2048 n last before → Step g (suc y) (get_or before y 0) (set marks e (g + 1))
  mark_on g y e marks last before m o t h b c =
      let i = m.within in
      let l = c.links g y (omega arith) (keyed (group p) y g (sym (m.same y refl))) in
      let k = l.within in
      record { marked = rw o (on l (rw o at h) (rw o at b) t); lower = omega arith }
    where
      on : {v : ℕ} → Last y (has (group p) g) v → (get_or marks (place y) 0 ≡ g + 1 → ⊥) → place y < 4096 → (transition p y).event < 65536
          → Marked g v (set marks (place y) (g + 1))
      on {v} w h b t =
          let i = m.within in
          let j = m.size in
          let r : place y < length marks = omega arith in
          let k = w.within in
          record {
            size = length-set marks (place y) (g + 1) ∙ m.size;
            most = set_all (λ w. w ≤ g + 1) marks (place y) (g + 1) r (omega arith) m.most;
            done = m.done;
            within = omega arith;
            same = λ z. linked g y v z w;
            seen = λ x a t u.
                ⊎_elim (λ (q : ltb x y ≡ true). absurd (between g y v x w a (ltb-true x y q) u))
                (λ (q : ltb x y ≡ false).
                ⊎_elim (λ (f : y ≡ x). rw (← f) (get_or-set_same marks (place y) (g + 1) 0 r))
                (λ (f : y < x). set_keeps marks (place y) (g + 1) (place x) r (m.seen x f t u)) (eq-or-lt_of_le (ltb-false x y q)))
                (look (ltb x y));
            told = λ d u.
                ⊎_elim (λ (q : eqb d (place y) ≡ true). (y, k, i, m.same y refl, sym (eqb-true d _ q), t))
                (λ (q : eqb d (place y) ≡ false).
                let (x, a, f, o, s, e) = m.told d (sym (get_or-set_other marks (place y) d (g + 1) 0 (eqb-false d _ q)) ∙ u) in
                (x, (let l : v ≤ x = omega arith in l), f, o, s, e))
                (look (eqb d (place y)));
            apart = λ x z a t u d.
                ⊎_elim (λ (q : ltb z y ≡ true). other_group x z (λ f. between g y v z w a (ltb-true z y q) (f ∙ d)))
                (λ (q : ltb z y ≡ false).
                ⊎_elim
                (λ (f : y ≡ z).
                let e : y < x = omega arith in
                rw (← f) (other_place x y (λ (o : place y ≡ place x). h (ap (λ (b : ℕ). get_or marks b 0) o ∙ m.seen x e u d))))
                (λ (f : y < z). m.apart x z f t u d) (eq-or-lt_of_le (ltb-false z y q)))
                (look (ltb z y));
          }

  pub mark_end : (g y : ℕ) (marks : List ℕ) → y ≡ 0 → Marked g y marks → Done (g + 1) marks
  mark_end g y marks e m =
      record {
        size = m.size;
        most = m.most;
        apart = λ x l h.
            ⊎_elim
            (λ (q : group p x ≡ g). repeats_some p x ∙ some_none x (shares p x) (λ w k. m.apart x w (omega arith) k l q))
            (λ (q : group p x < g). m.done x l q)
            (eq-or-lt_of_le (let f : group p x ≤ g = omega arith in f));
      }

  pub done_all : (g m : ℕ) (marks : List ℕ) → m ≤ g → ((x : ℕ) → x < n → group p x < m) → Done g marks → some_below n (repeats_event p) ≡ false
  done_all g m marks l h d = some_none n (repeats_event p) (λ x k. d.apart x k (let q = h x k in omega arith))
