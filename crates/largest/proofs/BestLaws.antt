-- The best of a state's transitions, from the last one down: the more entries lie behind it the better, and of equal ones the lowest-numbered. Assumes
-- nothing.
use Rattle.std.proofs.Common.{◌≡◌, sym, ap, ◌∙◌, true, inl, inr, ℕ, suc, ◌+◌, ◌<◌, ◌≤◌, max, arith, eqb, ltb, eqb-true, ltb-true, ltb-false}
use borrow.Author.Tests.{eqb-false}
use Rattle.rules.specs.Plan.{Plan, transition_count, transition}
use Rattle.rules.specs.Largest.{of_transition, leaves}
use Rattle.rules.proofs.Tests.{look}
use Rattle.plan.specs.Passes.{Last}
use Rattle.largest.specs.declared.explore.Best.{Best}
use Rattle.largest.specs.Chosen.{most_from, gain, best_gain, step_word}
use Rattle.largest.specs.Table.{better_of}
use Rattle.largest.proofs.ChosenLaws.{gain_left, gain_other, step_ends, step_lowest, word_some, word_none}

-- the better of two has the more entries
pub better_most : (b : Best) (x v : ℕ) → (better_of b x v).entries ≡ max b.entries v
unfolding better_of
better_most b x v =
    elim (look (eqb v 0)) [
      | inl e ↦ let z = eqb-true v 0 e in rw e (omega arith)
      | inr e ↦
          elim (look (ltb v b.entries)) [
            | inl l ↦ let m = ltb-true v b.entries l in rw (e, l) (omega arith)
            | inr l ↦ let m = ltb-false v b.entries l in rw (e, l) (omega arith)
          ]
    ]

module _ (p : Plan) (s : ℕ) where
  -- what a transition of the state adds
  abbrev pub value : ℕ → ℕ
  value x = of_transition p x + most_from p (transition p x).destination

  -- the lowest-numbered transition from y on behind which so many entries lie
  pub record Lowest (n y entries step : ℕ) : Type 0 where
    pub there : step < n
    pub from : y ≤ step
    pub gains : gain p s step ≡ entries
    pub lowest : (x : ℕ) → y ≤ x → x < step → gain p s x ≡ entries → ⊥

  -- the best of the transitions from y on, of n
  pub record Best-from (n y : ℕ) (best : Best) : Type 0 where
    pub none : best.entries ≡ 0 → best.step ≡ 65535
    pub some : (best.entries ≡ 0 → ⊥) → Lowest n y best.entries best.step

  -- the best so far stays the lowest, where y and those down to z have not as many
  lower : (n y z entries step : ℕ) → (entries ≡ 0 → ⊥) → Last y (leaves p s) z → (gain p s y ≡ entries → ⊥) → Lowest n (suc y) entries step
      → Lowest n z entries step
  lower n y z entries step d w f k =
      let i = k.from in
      record {
        there = k.there;
        from = omega (arith, w.within);
        gains = k.gains;
        lowest = λ x b m q.
            elim (look (ltb x y)) [
              | inl l ↦ d (sym q ∙ gain_other p s x (w.none_after x b (ltb-true x y l)))
              | inr l ↦
                  elim (look (eqb x y)) [
                    | inl r ↦ f (ap (gain p s) (sym (eqb-true x y r)) ∙ q)
                    | inr r ↦
                        let g : x ≡ y → ⊥ = eqb-false x y r in
                        let h = ltb-false x y l in
                        k.lowest x (omega arith) m q
                  ]
            ];
      }

  -- one transition more, y, and those down to z leave other states
  pub best_more : (n y z : ℕ) (best : Best) → y < n → Last y (leaves p s) z → leaves p s y ≡ true → Best-from n (suc y) best
      → Best-from n z (better_of best y (value y))
  unfolding better_of
  best_more n y z best l w a h =
      let here : gain p s y ≡ value y = gain_left p s y a in
      elim (look (eqb (value y) 0)) [
        | inl e ↦
            rw e
            (record {
              none = h.none;
              some = λ d. lower n y z best.entries best.step d w (λ q. d (sym q ∙ here ∙ eqb-true (value y) 0 e)) (h.some d);
            })
        | inr e ↦
            elim (look (ltb (value y) best.entries)) [
              | inl m ↦
                  let i = ltb-true (value y) best.entries m in
                  rw (e, m)
                  (record {
                    none = h.none;
                    some = λ d. lower n y z best.entries best.step d w (λ (q : gain p s y ≡ best.entries). omega arith) (h.some d);
                  })
              | inr m ↦
                  rw (e, m)
                  (record {
                    none = λ q. absurd (eqb-false (value y) 0 e q);
                    some = λ d.
                        record {
                          there = l;
                          from = w.within;
                          gains = here;
                          lowest = λ x i j q. d (sym q ∙ gain_other p s x (w.none_after x i j));
                        };
                  })
            ]
      ]

  -- all transitions met
  pub best_all : (best : Best) → best.entries ≡ best_gain p s → Best-from (transition_count p) 0 best → best.step ≡ step_word p s
  best_all best e h =
      elim (look (eqb best.entries 0)) [
        | inl z ↦
            let q = eqb-true best.entries 0 z in
            h.none q ∙ sym (word_none p s (step_ends p s (sym e ∙ q)))
        | inr z ↦
            let k = h.some (eqb-false best.entries 0 z) in
            sym
            (word_some p s best.step
            (step_lowest p s best.step (λ q. eqb-false best.entries 0 z (e ∙ q)) k.there (k.gains ∙ e)
            (λ y m q. k.lowest y (omega arith) m (q ∙ sym e))))
      ]
