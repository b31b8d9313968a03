-- Transitions with one source and one event have one key, so a walk along the chain of x meets every earlier transition with the source and the
-- event of x, if there is one. Assumes nothing.
use Rattle.std.proofs.Common.{◌≡◌, refl, sym, ◌∙◌, Bool, true, false, ◌&&◌, ⊎_elim, List, ℕ, suc, ◌+◌, ◌*◌, ◌%◌, ◌<◌, ◌≤◌, eq-or-lt_of_le, arith, get_or, eqb, ltb, eqb-true, ltb-true, ltb-false, eq-eqb, ne_eqb}
use Rattle.std.proofs.Math.Bool.{and-false}
use borrow.Author.Tests.{eqb-false}
use Rattle.rules.specs.Fold.{some_below}
use Rattle.rules.specs.Plan.{Plan, transition}
use Rattle.rules.specs.Acceptance.{repeats_event}
use Rattle.rules.proofs.Tests.{look, and_not}
use Rattle.rules.proofs.Folds.{some_none}
use Rattle.plan.specs.Chain.{has, cell}
use Rattle.plan.specs.Passes.{Last, Chains}
use Rattle.plan.proofs.ChainLaws.{keyed}
use Rattle.plan_reader.specs.Keys.{Step}

module _ (p : Plan) where
  -- an earlier transition has the source and the event of x
  unfoldable pub shares : ℕ → ℕ → Bool
  shares x y = eqb (transition p y).source (transition p x).source && eqb (transition p y).event (transition p x).event

  pub repeats_some : (x : ℕ) → repeats_event p x ≡ some_below x (shares x)
  unfolding repeats_event shares
  repeats_some x = refl

  pub shared : (x y : ℕ) → (transition p y).source ≡ (transition p x).source → (transition p y).event ≡ (transition p x).event → shares x y ≡ true
  unfolding shares
  shared x y h k = rw (eq-eqb _ _ h, eq-eqb _ _ k)

  pub other_source : (x y : ℕ) → ((transition p y).source ≡ (transition p x).source → ⊥) → shares x y ≡ false
  unfolding shares
  other_source x y h = rw (ne_eqb _ _ h)

  pub other_event : (x y : ℕ) → ((transition p y).event ≡ (transition p x).event → ⊥) → shares x y ≡ false
  unfolding shares
  other_event x y h = rw (ne_eqb _ _ h) (and-false (eqb (transition p y).source (transition p x).source))

  -- told by source and event as one number
  same_step : (x y a b : ℕ) → Step p x a → Step p y b → b ≡ a → shares x y ≡ true
  same_step x y a b s r e =
      let h = s.number in let k = r.number in let m = s.source in let n = r.source in shared x y (omega arith) (omega arith)

  other_step : (x y a b : ℕ) → Step p x a → Step p y b → (b ≡ a → ⊥) → shares x y ≡ false
  unfolding shares
  other_step x y a b s r e =
      and_not _ _
      (λ h k.
      let i : (transition p y).source ≡ (transition p x).source = eqb-true _ _ h in
      let j : (transition p y).event ≡ (transition p x).event = eqb-true _ _ k in
      let m = s.number in
      let n = r.number in
      e (omega arith))

  pub by_step : (x y a b : ℕ) → Step p x a → Step p y b → eqb b a ≡ shares x y
  by_step x y a b s r =
      ⊎_elim (λ (q : eqb b a ≡ true). q ∙ sym (same_step x y a b s r (eqb-true b a q)))
      (λ (q : eqb b a ≡ false). q ∙ sym (other_step x y a b s r (eqb-false b a q))) (look (eqb b a))

  pub cell_at : (x s e : ℕ) → s ≡ (transition p x).source → e ≡ (transition p x).event → (2 * s + e) % 256 ≡ cell p x
  unfolding cell
  cell_at x s e h k = rw (h, k)

  -- a key that source and event give
  pub other_key : (key : ℕ → ℕ)
      → ((x y : ℕ) → (transition p y).source ≡ (transition p x).source → (transition p y).event ≡ (transition p x).event → key y ≡ key x)
      → (x y : ℕ) → (key y ≡ key x → ⊥) → shares x y ≡ false
  other_key key f x y h =
      ⊎_elim
      (λ (a : eqb (transition p y).source (transition p x).source ≡ true).
      other_event x y (λ (e : (transition p y).event ≡ (transition p x).event). h (f x y (eqb-true _ _ a) e)))
      (λ (a : eqb (transition p y).source (transition p x).source ≡ false). other_source x y (eqb-false _ _ a))
      (look (eqb (transition p y).source (transition p x).source))

  other_cell : (x y : ℕ) → has (cell p) (cell p x) y ≡ false → shares x y ≡ false
  unfolding has cell
  other_cell x y h = other_key (cell p) (λ a b s e. rw (s, e)) x y (eqb-false (cell p y) (cell p x) h)

  -- a walk along the chain of x: what it left behind, from y on, does not share source and event with x
  pub record Walk (x y : ℕ) : Type 0 where
    pub within : y ≤ x
    pub behind : (z : ℕ) → y ≤ z → z < x → shares x z ≡ false
    pub same : (z : ℕ) → y ≡ suc z → cell p z ≡ cell p x

  walk_at : (x m y : ℕ) → m ≤ x → ((z : ℕ) → m ≤ z → z < x → shares x z ≡ false) → Last m (has (cell p) (cell p x)) y → Walk x y
  walk_at x m y l h w =
      record {
        within = let q = w.within in omega arith;
        behind = λ z a b.
            ⊎_elim (λ (k : ltb z m ≡ true). other_cell x z (w.none_after z a (ltb-true z m k)))
            (λ (k : ltb z m ≡ false). h z (ltb-false z m k) b) (look (ltb z m));
        same = λ z e. unfold has in eqb-true _ _ (w.passes z e);
      }

  pub walk_start : (x y : ℕ) → Last x (has (cell p) (cell p x)) y → Walk x y
  walk_start x y = walk_at x x y (omega arith) (λ z a b. absurd (omega arith))

  pub walk_end : (x y : ℕ) → y ≡ 0 → Walk x y → repeats_event p x ≡ false
  walk_end x y e w = repeats_some x ∙ some_none x (shares x) (λ k lt. w.behind k (omega arith) lt)

  -- the next of the chain
  pub record Onward (x y n : ℕ) : Type 0 where
    pub walk : Walk x n
    pub lower : n < y

  pub walk_on : (x y : ℕ) (last before : List ℕ) → Walk x (suc y) → ((transition p y).event ≡ (transition p x).event → ⊥)
      → Chains (has (cell p)) 256 x last before → Onward x (suc y) (get_or before y 0)
  walk_on x y last before w h c =
      let i = w.within in
      let l = c.links (cell p x) y (omega arith) (keyed (cell p) y (cell p x) (sym (w.same y refl))) in
      let b = l.within in
      record {
        walk =
            walk_at x y _ (omega arith)
            (λ v a b.
            ⊎_elim (λ (k : y ≡ v). rw (← k) (other_event x y h)) (λ (k : y < v). w.behind v k b) (eq-or-lt_of_le a)) l;
        lower = omega arith;
      }
