-- A pass over the grants marks the roots where the society has the right; a pass over the tracks gives each hosted one the mark of its host's track,
-- which it has already, since its number is lower. Assumes nothing.
use Rattle.std.proofs.Common.{◌≡◌, refl, sym, ap, ◌∙◌, inl, inr, Bool, true, false, cond, ◌&&◌, ◌||◌, List, ℕ, ◌+◌, ◌<◌, ◌≤◌, ◌/◌, ◌%◌, arith, eqb, ltb, get_or, set, replicate, eqb-true, eq-eqb, ne_eqb, lt-ltb, le-ltb, ltb-true, ltb-false}
use Rattle.std.proofs.Math.Bool.{and-false, or-false}
use Rattle.std.proofs.Math.Option.{none}
use borrow.Author.Tests.{eqb-false}
use Rattle.rules.specs.declared.Counts.{Counts}
use Rattle.rules.specs.Fold.{some_below}
use Rattle.rules.specs.Plan.{Plan, plan_of, no_state, grant_count, grant, host, owner}
use Rattle.rules.specs.Rights.{gives, gives_to, holds, is_permitted, holds_somewhere}
use Rattle.rules.proofs.Tests.{look, or_right}
use Rattle.rules.proofs.Folds.{some_at, some_more}
use Rattle.rules.proofs.RightsLaws.{permitted_root, permitted_up}
use Rattle.plan.specs.Passes.{slots}
use Rattle.plan.proofs.FieldLaws.{track_count_lem, grant_count_lem}
use Rattle.ledger.specs.Ladder.{Accepts}
use Rattle.lookup.specs.Figures.{Figures}
use Rattle.lookup.specs.HostTrack.{host_track}
use Rattle.lookup.proofs.Facts.{plan_facts, no_host_track, host_of_track, host_track_low}
use Rattle.lookup.proofs.FiguresLaws.{set_size, set_at, figure_each}

module _ (p : Plan) (right society : ℕ) where
  -- a grant of another society gives nothing, one of its own what the sum has
  pub gives_other : (g : ℕ) {s : ℕ} → s ≡ (grant p g).society → (s ≡ society → ⊥) → false ≡ gives_to p right society g
  unfolding gives_to
  gives_other g e n = sym (rw (ne_eqb (grant p g).society society (λ q. n (e ∙ q))))

  pub gives_own : (g : ℕ) {s r : ℕ} → s ≡ (grant p g).society → s ≡ society → r ≡ (grant p g).rights → eqb (r / right % 2) 1 ≡ gives_to p right society g
  unfolding gives_to gives
  gives_own g e q f = sym (rw (eq-eqb (grant p g).society society (sym e ∙ q), ← f))

  -- somewhere, among the grants below n
  pub some_given : (n g : ℕ) → g < n → n ≡ grant_count p → {b : Bool} → b ≡ gives_to p right society g → b ≡ true → true ≡ holds_somewhere p right society
  unfolding holds_somewhere
  some_given n g l e q h = sym (some_at (grant_count p) (gives_to p right society) g (omega arith) (sym q ∙ h))

  pub none_more : (g : ℕ) → some_below g (gives_to p right society) ≡ false → {b : Bool} → b ≡ gives_to p right society g → b ≡ false
      → some_below (g + 1) (gives_to p right society) ≡ false
  none_more g i q h = some_more g (gives_to p right society) ∙ (rw (i, sym q ∙ h))

  pub none_given : {n : ℕ} → n ≡ grant_count p → some_below n (gives_to p right society) ≡ false → false ≡ holds_somewhere p right society
  unfolding holds_somewhere
  none_given e i = sym (ap (λ n. some_below n (gives_to p right society)) (sym e) ∙ i)

  -- over a root, by the grants below n
  abbrev pub held_below : ℕ → ℕ → Bool
  held_below n root = some_below n (λ g. eqb (grant p g).root root && gives_to p right society g)

  module _ (g n : ℕ) (few : n ≤ slots) {ms : List Bool} (m : Figures false ms n (held_below g)) {b : Bool} (q : b ≡ gives_to p right society g) where
    pub held_same : b ≡ false → Figures false ms n (held_below (g + 1))
    held_same h =
        record {
          size = m.size;
          at = λ t l.
              m.at t l
              ∙ sym (some_more g (λ f. eqb (grant p f).root t && gives_to p right society f)
              ∙ ap (λ k. held_below g t || k) (ap (λ k. eqb (grant p g).root t && k) (sym q ∙ h) ∙ and-false (eqb (grant p g).root t))
              ∙ or-false (held_below g t));
        }

    pub held_more : b ≡ true → {r : ℕ} → r ≡ (grant p g).root → r < slots → Figures false (set ms r true) n (held_below (g + 1))
    held_more h {r} e low =
        record {
          size = set_size false ms r true m.size low;
          at = λ t l.
              set_at false ms r true m.size low t
              ∙ elim (look (eqb t r)) [
                | inl k ↦
                    let z : (eqb (grant p g).root t && gives_to p right society g) ≡ true =
                    rw (eq-eqb (grant p g).root t (sym e ∙ sym (eqb-true t r k)), sym q ∙ h) in
                    rw k (sym (some_more g (λ f. eqb (grant p f).root t && gives_to p right society f) ∙ or_right (held_below g t) _ z))
                | inr k ↦
                    let z : (eqb (grant p g).root t && gives_to p right society g) ≡ false =
                    rw (ne_eqb (grant p g).root t (λ i. eqb-false t r k (sym i ∙ sym e))) in
                    rw k
                    (m.at t l
                    ∙ sym (some_more g (λ f. eqb (grant p f).root t && gives_to p right society f) ∙ ap (λ k. held_below g t || k) z
                    ∙ or-false (held_below g t)))
              ];
        }

  -- all grants together
  pub held_all : {g n : ℕ} {ms : List Bool} → g ≡ grant_count p → Figures false ms n (held_below g) → Figures false ms n (holds p right society)
  unfolding holds
  held_all e m = rw e at m

  -- no grant yet
  pub held_none : (n : ℕ) → n ≤ slots → Figures false (replicate slots false) n (held_below 0)
  unfolding some_below
  held_none n few = figure_each false (held_below 0) false n few (λ t l. refl)

  -- the marks of the tracks below k are final, those of the others say where they are roots
  abbrev pub marked_to : ℕ → ℕ → Bool
  marked_to k t = cond (ltb t k) (is_permitted p right society t) (holds p right society t)

  pub none_marked : {n : ℕ} {ms : List Bool} → Figures false ms n (holds p right society) → Figures false ms n (marked_to 0)
  none_marked m = record { size = m.size; at = λ t l. m.at t l ∙ sym (rw (le-ltb t 0 (omega arith))) }

  pub all_marked : {k n : ℕ} {ms : List Bool} → k ≡ n → Figures false ms n (marked_to k) → Figures false ms n (is_permitted p right society)
  all_marked {k} e m = record { size = m.size; at = λ t l. m.at t l ∙ (rw (lt-ltb t k (omega (arith, e, l)))) }

  marked_next : (k t : ℕ) → (t ≡ k → ⊥) → marked_to (k + 1) t ≡ marked_to k t
  marked_next k t n =
      elim (look (ltb t k)) [
        | inl l ↦ let a = ltb-true t k l in rw (l, lt-ltb t (k + 1) (omega arith))
        | inr l ↦ let a = ltb-false t k l in rw (l, le-ltb t (k + 1) (omega arith))
      ]

  marked_here : (k t : ℕ) → t ≡ k → marked_to (k + 1) t ≡ is_permitted p right society t
  marked_here k t e = rw (lt-ltb t (k + 1) (omega arith))

-- one track more
module _ (bs : List ℕ) (c : Counts) (a : Accepts bs c) (right society : ℕ) (t : ℕ) (l : t < c.tracks) {ms : List Bool}
    (m : Figures false ms c.tracks (marked_to (plan_of bs c) right society t)) {u : ℕ} (e : u ≡ host_track (plan_of bs c) t) where
  abbrev p : Plan
  p = plan_of bs c

  -- a root keeps its mark
  pub marked_root : u ≡ no_state → Figures false ms c.tracks (marked_to p right society (t + 1))
  marked_root z =
      record {
        size = m.size;
        at = λ v b.
            m.at v b
            ∙ elim (look (eqb v t)) [
              | inl k ↦
                  let i = eqb-true v t k in
                  let h : host p v ≡ none = ap (host p) i ∙ no_host_track bs c t a (sym e ∙ z) in
                  let o : ltb v t ≡ false = le-ltb v t (omega (arith, i)) in
                  rw o (sym (marked_here p right society t v i ∙ permitted_root p (plan_facts bs c a) right society v h))
              | inr k ↦ sym (marked_next p right society t v (eqb-false v t k))
            ];
      }

  -- a hosted one is given that of its host's track
  pub marked_hosted : (u ≡ no_state → ⊥) → t < slots → Figures false (set ms t (get_or ms u false)) c.tracks (marked_to p right society (t + 1))
  marked_hosted n low =
      record {
        size = set_size false ms t (get_or ms u false) m.size low;
        at = λ v b.
            set_at false ms t (get_or ms u false) m.size low v
            ∙ elim (look (eqb v t)) [
              | inl k ↦ rw k (up v (eqb-true v t k))
              | inr k ↦ rw k (m.at v b ∙ sym (marked_next p right society t v (eqb-false v t k)))
            ];
      }
    where
      up : (v : ℕ) → v ≡ t → get_or ms u false ≡ marked_to p right society (t + 1) v
      up v i =
          let (h, q, o) = host_of_track p t (λ z. n (e ∙ z)) in
          let d = (plan_facts bs c a).lower t h q in
          let w : u ≡ owner p h = e ∙ sym o in
          m.at u (host_track_low bs c t u a e n)
          ∙ (rw (lt-ltb u t (omega (arith, w, d))) (ap (is_permitted p right society) w))
          ∙ sym (marked_here p right society t v i ∙ ap (is_permitted p right society) i ∙ permitted_up p (plan_facts bs c a) right society t h q)

-- a grant names a track, of which there are at most 32
pub root_low : (bs : List ℕ) (c : Counts) → Accepts bs c → {g r : ℕ} → g < c.grants → r ≡ (grant (plan_of bs c) g).root → r < slots
root_low bs c a {g} b e =
    omega (arith, e, (plan_facts bs c a).grants.named g (omega (arith, grant_count_lem bs c)), track_count_lem bs c, a.holds.tracks)
