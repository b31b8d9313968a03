-- Coming to a state: it is known; or it is entered, and leads back to itself; or it is entered now, and when its transitions are followed it is known.
-- Assumes nothing.
use Rattle.std.proofs.Common.{◌≡◌, refl, sym, ap, ◌∙◌, true, false, List, [], ◌∷◌, ◌++◌, inl, inr, ℕ, suc, ◌+◌, ◌-◌, ◌<◌, ◌≤◌, arith, eqb, get_or, set, length-set, get_or-set_same, get_or-set_other, eqb-true}
use borrow.Author.Tests.{eqb-false}
use Rattle.rules.specs.declared.Counts.{Counts}
use Rattle.rules.specs.Plan.{Plan, plan_of, transition}
use Rattle.rules.specs.Largest.{of_state, leaves, is_path, end_of, Leads, goes_on}
use Rattle.rules.proofs.Tests.{look, clash}
use Rattle.rules.proofs.Acceptance.{Accepted, accepts}
use Rattle.rules.proofs.Paths.{path_parts, path_longer, end_longer, leads_none, leads_first, led_back, loops_on}
use Rattle.ledger.specs.Ladder.{Accepts}
use Rattle.largest.specs.declared.explore.Best.{Best}
use Rattle.largest.specs.Table.{Known, Entering, Explored, Exploring, Found}
use Rattle.largest.proofs.ChosenLaws.{most_is}
use Rattle.largest.proofs.FollowingLaws.{kept_same, Passing, pass_here, few}

-- where a path ends, by its first transition
ends_none_of : (p : Plan) (u s : ℕ) → end_of p u [] ≡ s → s ≡ u
unfolding end_of
ends_none_of p u s e = sym e

ends_some_of : (p : Plan) (u s y : ℕ) (ys : List ℕ) → end_of p u (y ∷ ys) ≡ s → end_of p (transition p y).destination ys ≡ s
unfolding end_of
ends_some_of p u s y ys e = e

module _ (bs : List ℕ) (c : Counts) (acc : Accepts bs c) where
  abbrev p : Plan
  p = plan_of bs c

  ok : Accepted p
  ok = accepts bs c acc.read

  -- Coming to a state.
  leads_last : (u s x : ℕ) → leaves p s x ≡ true → Leads p u s → Leads p u (transition p x).destination
  leads_last u s x a w =
      record { by = w.by ++ (x ∷ []); path = path_longer p u w.by x w.path (rw w.to a); to = end_longer p u w.by x }

  -- what leads to a state leads by some transition to where its own lead
  comes_on : (u s x : ℕ) → leaves p s x ≡ true → Leads p u s
      → (y : ℕ) × (leaves p u y ≡ true) × Leads p (transition p y).destination (transition p x).destination
  comes_on u s x a w = go w.by w.path w.to
    where
      go : (xs : List ℕ) → is_path p u xs ≡ true → end_of p u xs ≡ s → (y : ℕ) × (leaves p u y ≡ true) × Leads p (transition p y).destination (transition p x).destination
      go [] h e = (x, rw (← ends_none_of p u s e) a, leads_none p (transition p x).destination)
      go (y ∷ ys) h e =
          let (b, i) = path_parts p u y ys h in
          (y, b, leads_last (transition p y).destination s x a (record { by = ys; path = i; to = ends_some_of p u s y ys e }))

  pub come_to_lem : (s : ℕ) (head next before most step step₀ : List ℕ) (best : Best) (x d : ℕ) → Exploring bs c head next s before step₀
      → Passing p c.transitions s before most step best (suc x) → d ≡ (transition p x).destination → Entering bs c head next d most step
  come_to_lem s head next before most step step₀ best x d k h e =
      let w = pass_here bs c acc s before most step best x h in
      rw e
      (record {
        accepts = acc;
        chains = k.chains;
        state = w.to;
        table = h.table;
        led = λ u i. comes_on u s x w.left (k.led u (h.kept.entered u i));
      })

  module _ (s : ℕ) (head next most step : List ℕ) (h : Entering bs c head next s most step) where
    -- it is known,
    pub come_known : (left : ℕ) → get_or most s 0 < 65534 → Explored p s left most most step true
    come_known left l =
        record { done = λ e. record { table = h.table; kept = kept_same most; known = l }; round = λ e. clash refl e }

    -- or entered, and leads back to itself,
    pub come_round : (left : ℕ) (most' step' : List ℕ) → get_or most s 0 ≡ 65534 → Explored p s left most most' step' false
    come_round left most' step' e =
        let (x, a, w) = h.led s e in
        record { done = λ q. clash q refl; round = λ q. loops_on p s (led_back p s x a w) left }

    pub come_far : (left : ℕ) (most' step' : List ℕ) → left ≡ 0 → Explored p s left most most' step' false
    unfolding goes_on
    come_far left most' step' e = record { done = λ q. clash q refl; round = λ q. rw e refl }

    low : s < 128
    low = omega (arith, h.state, acc.holds.states)

    -- or it is entered now
    entered_here : get_or (set most s 65534) s 0 ≡ 65534
    entered_here = get_or-set_same most s 65534 0 (omega (arith, low, h.table.most_size))

    pub enter : Exploring bs c head next s (set most s 65534) step
    enter =
        record {
          accepts = acc;
          chains = h.chains;
          state = h.state;
          table =
              record {
                most_size = length-set most s 65534 ∙ h.table.most_size;
                step_size = h.table.step_size;
                known = λ u l k.
                    elim (look (eqb u s)) [
                      | inl q ↦ let e = ap (λ (v : ℕ). get_or (set most s 65534) v 0) (eqb-true u s q) ∙ entered_here in absurd (omega arith)
                      | inr q ↦
                          let e = get_or-set_other most s u 65534 0 (eqb-false u s q) in
                          rw e (h.table.known u l (omega arith))
                    ];
              };
          led = λ u k.
              elim (look (eqb u s)) [
                | inl q ↦ rw (eqb-true u s q) (leads_none p s)
                | inr q ↦
                    let (x, a, w) = h.led u (sym (get_or-set_other most s u 65534 0 (eqb-false u s q)) ∙ k) in
                    leads_first p u x s a w
              ];
        }

    -- one of its transitions leads round,
    pub leave_round : (left : ℕ) (most' step' : List ℕ) → (left ≡ 0 → ⊥) → goes_on p (suc (left - 1)) s ≡ true → Explored p s left most most' step' false
    leave_round left most' step' d w =
        let q : suc (left - 1) ≡ left = omega arith in
        record { done = λ k. clash k refl; round = λ k. rw q at w }

    -- or all end, and it is known
    pub found_few : (best : Best) (before most' step' : List ℕ) → Found p s before most' step' best → of_state p s + best.entries ≤ 257
    found_few best before most' step' w = let e = w.entries_are in omega (arith, few bs c acc s, most_is p ok s w.ends)

    pub leave : (left : ℕ) (best : Best) (of : ℕ) (most' step' : List ℕ) → of ≡ of_state p s → Found p s (set most s 65534) most' step' best
        → Explored p s left most (set most' s (of + best.entries)) (set step' s best.step) true
    leave left best of most' step' o w =
        let v : ℕ = of + best.entries in
        let fw = found_few best (set most s 65534) most' step' w in
        let small : v < 65534 = omega arith in
        let size = w.table.most_size in
        let steps = w.table.step_size in
        let here : get_or (set most' s v) s 0 ≡ v = get_or-set_same most' s v 0 (omega (arith, low)) in
        let there : get_or (set step' s best.step) s 0 ≡ best.step = get_or-set_same step' s best.step 0 (omega (arith, low)) in
        let own : Known p s v best.step =
        record { ends = w.ends; entries_are = rw (o, w.entries_are) (sym (most_is p ok s w.ends)); step_is = w.step_is } in
        record {
          done = λ e.
              record {
                table =
                    record {
                      most_size = length-set most' s v ∙ size;
                      step_size = length-set step' s best.step ∙ steps;
                      known = λ u l k.
                          elim (look (eqb u s)) [
                            | inl q ↦ rw (eqb-true u s q, here, there) own
                            | inr q ↦
                                let i = get_or-set_other most' s u v 0 (eqb-false u s q) in
                                let j = get_or-set_other step' s u best.step 0 (eqb-false u s q) in
                                rw (i, j) (w.table.known u l (omega arith))
                          ];
                    };
                kept =
                    record {
                      known = λ u k.
                          elim (look (eqb u s)) [
                            | inl q ↦ let i = ap (λ (z : ℕ). get_or (set most' s v) z 0) (eqb-true u s q) ∙ here in omega arith
                            | inr q ↦
                                let i = get_or-set_other most' s u v 0 (eqb-false u s q) in
                                let j = get_or-set_other most s u 65534 0 (eqb-false u s q) in
                                let m = w.kept.known u (omega arith) in
                                omega arith
                          ];
                      entered = λ u k.
                          elim (look (eqb u s)) [
                            | inl q ↦ let i = ap (λ (z : ℕ). get_or (set most' s v) z 0) (eqb-true u s q) ∙ here in absurd (omega arith)
                            | inr q ↦
                                sym (get_or-set_other most s u 65534 0 (eqb-false u s q))
                                ∙ w.kept.entered u (sym (get_or-set_other most' s u v 0 (eqb-false u s q)) ∙ k)
                          ];
                    };
                known = omega arith;
              };
          round = λ e. clash refl e;
        }
