-- Following the transitions of a state along their chain: the best so far is the best of those met, and what lies behind these ends. When all are met,
-- the state ends too. Assumes nothing.
use Rattle.std.proofs.Common.{◌≡◌, refl, sym, subst, Bool, true, false, List, inl, inr, ℕ, suc, ◌+◌, ◌<◌, ◌≤◌, arith, eqb, ltb, get_or, eqb-true, ltb-true, ltb-false}
use borrow.Author.Tests.{eqb-false}
use Rattle.rules.specs.declared.Counts.{Counts}
use Rattle.rules.specs.Fold.{greatest_below}
use Rattle.rules.specs.Plan.{Plan, plan_of, state_count, transition}
use Rattle.rules.specs.Largest.{of_transition, leaves, goes_on}
use Rattle.rules.proofs.Tests.{look, clash}
use Rattle.rules.proofs.Acceptance.{Accepted, accepts}
use Rattle.rules.proofs.Paths.{leaves_told, leaves_states, goes_through, goes_nowhere, ends_somewhere}
use Rattle.rules.proofs.Figures.{most_few}
use Rattle.plan.specs.Passes.{Chains}
use Rattle.plan.proofs.Members.{of_member, Walk, walk_start, walk_item, walk_end}
use Rattle.plan.proofs.FieldLaws.{state_count_lem, transition_count_lem}
use Rattle.ledger.specs.Ladder.{Accepts}
use Rattle.largest.specs.declared.explore.Best.{Best}
use Rattle.largest.specs.Chosen.{most_from, gain, best_gain}
use Rattle.largest.specs.Table.{Known, Table, Kept, Done, Explored, Found, better_of}
use Rattle.largest.proofs.BestLaws.{better_most, value, Best-from, best_more, best_all}

pub kept_same : (ws : List ℕ) → Kept ws ws
kept_same ws = record { known = λ u h. h; entered = λ u h. h }

pub kept_then : (a b c : List ℕ) → Kept a b → Kept b c → Kept a c
kept_then a b c h k = record { known = λ u l. k.known u (h.known u l); entered = λ u e. h.entered u (k.entered u e) }

-- Following the transitions of a state: y is where the walk along its chain stands.
pub record Passing (p : Plan) (transitions s : ℕ) (before most step : List ℕ) (best : Best) (y : ℕ) : Type 0 where
  pub table : Table p most step
  pub kept : Kept before most
  pub walk : Walk (leaves p s) (value p s) (transitions) best.entries y
  pub straight : (x : ℕ) → y ≤ x → leaves p s x ≡ true → goes_on p (state_count p) (transition p x).destination ≡ false
  pub best_so_far : Best-from p s (transitions) y best

-- the transition that the walk stands at
pub record Here (p : Plan) (states transitions s x : ℕ) : Type 0 where
  pub there : x < transitions
  pub left : leaves p s x ≡ true
  pub to : (transition p x).destination < states

pub record Passed (p : Plan) (transitions s : ℕ) (before most step : List ℕ) (best : Best) (y z : ℕ) : Type 0 where
  pub on : Passing p transitions s before most step best z
  pub lower : z < y

module _ (bs : List ℕ) (c : Counts) (acc : Accepts bs c) where
  abbrev p : Plan
  p = plan_of bs c

  ok : Accepted p
  ok = accepts bs c acc.read

  -- a figure is far below the word of a state that is entered
  pub few : (s : ℕ) → most_from p s ≤ 257
  unfolding most_from
  few s = let i = state_count_lem bs c in omega (arith, most_few p (state_count p) s, acc.holds.states)

  pub pass_start : (s : ℕ) (head next most step : List ℕ) → s < c.states → Chains (leaves p) 128 c.transitions head next → Table p most step
      → Passing p c.transitions s most most step (record { entries = 0; step = 65535 }) (get_or head s 0)
  pass_start s head next most step l h t =
      let w = h.ends.at s (omega (arith, acc.holds.states)) in
      record {
        table = t;
        kept = kept_same most;
        walk = walk_start (leaves p s) (value p s) c.transitions (get_or head s 0) w;
        straight = λ x m a.
            let n : x < c.transitions = rw transition_count_lem at (leaves_told p s x a).0 in
            clash a (w.none_after x m n);
        best_so_far = record { none = λ e. refl; some = λ d. absurd (d refl) };
      }

  pub pass_here : (s : ℕ) (before most step : List ℕ) (best : Best) (x : ℕ) → Passing p c.transitions s before most step best (suc x)
      → Here p c.states c.transitions s x
  pass_here s before most step best x h =
      let a = h.walk.member x refl in
      record {
        there = omega (arith, h.walk.within);
        left = a;
        to = rw state_count_lem at (leaves_states p ok s x a).1;
      }

  pub pass_low : (s : ℕ) (before most step : List ℕ) (best : Best) (x d : ℕ) → Passing p c.transitions s before most step best (suc x)
      → d ≡ (transition p x).destination → d < c.states
  pass_low s before most step best x d h e = rw e (pass_here s before most step best x h).to

  -- it leads round
  pub pass_round : (s left : ℕ) (before most step most' step' : List ℕ) (best : Best) (x d : ℕ) (ends : Bool)
      → Passing p c.transitions s before most step best (suc x) → d ≡ (transition p x).destination → ends ≡ false
      → Explored p d left most most' step' ends → goes_on p (suc left) s ≡ true
  pass_round s left before most step most' step' best x d ends h e r k =
      goes_through p left s x (pass_here s before most step best x h).left (rw e at (k.round r))

  -- what is known of a state that was explored
  pub done_known : (s : ℕ) (before most step : List ℕ) → s < c.states → Done p s before most step → Known p s (get_or most s 0) (get_or step s 0)
  done_known s before most step l h = h.table.known s (rw state_count_lem l) h.known

  pub known_few : (s entries step : ℕ) → Known p s entries step → entries ≤ 257
  known_few s entries step h = let e = h.entries_are in omega (arith, few s)

  pub done_few : (s : ℕ) (before most step : List ℕ) → s < c.states → Done p s before most step → get_or most s 0 ≤ 257
  done_few s before most step l h = known_few s _ _ (done_known s before most step l h)

  pub pass_on : (s : ℕ) (head next before most step most' step' : List ℕ) (best : Best) (x d of : ℕ)
      → Chains (leaves p) 128 c.transitions head next → Passing p c.transitions s before most step best (suc x) → d ≡ (transition p x).destination
      → Done p d most most' step' → of ≡ of_transition p x
      → Passed p c.transitions s before most' step' (better_of best x (of + get_or most' d 0)) (suc x) (get_or next x 0)
  pass_on s head next before most step most' step' best x d of ch h e w o =
      let a = h.walk.member x refl in
      let below : x < c.transitions = omega (arith, h.walk.within) in
      let here = (pass_here s before most step best x h).to in
      let k = done_known d most most' step' (rw (← e) at here) w in
      let v : of + get_or most' d 0 ≡ value p s x = rw (k.entries_are, e, o) in
      let st =
      walk_item (leaves p) 128 s c.transitions head next (value p s) best.entries x (value p s x) (better_of best x (value p s x)).entries ch h.walk
      refl (better_most best x (value p s x)) in
      let links = ch.links s x below a in
      rw v
      (record {
        on =
            record {
              table = w.table;
              kept = kept_then before most most' h.kept w.kept;
              walk = st.walk;
              straight = λ y i b.
                  elim (look (ltb x y)) [
                    | inl g ↦ h.straight y (ltb-true x y g) b
                    | inr g ↦
                        elim (look (eqb y x)) [
                          | inl r ↦ rw (eqb-true y x r, ← e) k.ends
                          | inr r ↦
                              let f : y ≡ x → ⊥ = eqb-false y x r in
                              let j = ltb-false x y g in
                              clash b (links.none_after y i (omega arith))
                        ]
                  ];
              best_so_far = best_more p s c.transitions x (get_or next x 0) best below links a h.best_so_far;
            };
        lower = st.lower;
      })

  -- the greatest value of the chain's members is what lies behind the best
  best_gain_lem : (s entries : ℕ) → entries ≡ greatest_below c.transitions (of_member (leaves p s) (value p s)) → entries ≡ best_gain p s
  unfolding best_gain gain of_member
  best_gain_lem s entries q = rw transition_count_lem q

  pub pass_end : (s : ℕ) (before most step : List ℕ) (best : Best) (y : ℕ) → s < c.states → y ≡ 0 → Passing p c.transitions s before most step best y
      → Found p s before most step best
  pass_end s before most step best y l e h =
      let gains = best_gain_lem s best.entries (walk_end (leaves p s) (value p s) c.transitions best.entries y e h.walk) in
      record {
        table = h.table;
        kept = h.kept;
        ends =
            ends_somewhere p ok (suc (state_count p)) s (rw state_count_lem l)
            (goes_nowhere p (state_count p) s (λ x a. h.straight x (omega arith) a));
        entries_are = gains;
        step_is = best_all p s best gains (subst (λ n. Best-from p s n 0 best) (sym (transition_count_lem bs c)) (rw e at h.best_so_far));
      }
