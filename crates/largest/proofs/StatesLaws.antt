-- All states one after the other: those so far are known, and none is entered, so that nothing leads to the next one. Assumes nothing.
use Rattle.std.proofs.Common.{◌≡◌, refl, ap, ◌∙◌, Bool, true, false, List, ◌⊎◌, inl, inr, ℕ, ◌+◌, ◌<◌, ◌≤◌, not-suc-le-zero, arith, eqb, ltb, length, get_or, replicate, eqb-true, ltb-true, ltb-false}
use Rattle.std.proofs.Math.ListN.{length-replicate, get_or-replicate, get_or-eq_default}
use borrow.Author.Tests.{eqb-false}
use Rattle.rules.specs.declared.Counts.{Counts}
use Rattle.rules.specs.Plan.{Plan, plan_of, state_count}
use Rattle.rules.specs.Largest.{leaves, has_cycle}
use Rattle.rules.proofs.Tests.{look, clash}
use Rattle.rules.proofs.Folds.{some_at, some_none}
use Rattle.rules.proofs.Acceptance.{Accepted, accepts}
use Rattle.plan.specs.Passes.{Chains}
use Rattle.plan.proofs.FieldLaws.{state_count_lem}
use Rattle.ledger.specs.Ladder.{Accepts}
use Rattle.largest.specs.Table.{Known, Table, Entering, Explored, Whole}

-- All states one after the other: those below n are known, and none is entered.
pub record Exploring-all (p : Plan) (states n : ℕ) (most step : List ℕ) : Type 0 where
  pub few_states : n ≤ states
  pub table : Table p most step
  pub known : (s : ℕ) → s < n → get_or most s 0 < 65534
  pub none : (u : ℕ) → get_or most u 0 ≡ 65534 → ⊥

module _ (bs : List ℕ) (c : Counts) (acc : Accepts bs c) where
  abbrev p : Plan
  p = plan_of bs c

  ok : Accepted p
  ok = accepts bs c acc.read

  pub all_start : (most step : List ℕ) → most ≡ replicate 128 65535 → step ≡ replicate 128 65535 → Exploring-all p c.states 0 most step
  all_start most step e f =
      let i : (s : ℕ) → (get_or most s 0 ≡ 65535) ⊎ (get_or most s 0 ≡ 0) =
      λ s. elim (look (ltb s 128)) [
        | inl l ↦ inl (rw e (get_or-replicate {A = ℕ} 128 s 65535 0 (ltb-true s 128 l)))
        | inr l ↦
            let m : length (replicate {A = ℕ} 128 65535) ≤ s = rw (length-replicate {A = ℕ} 128 65535) (ltb-false s 128 l) in
            inr (rw e (get_or-eq_default (replicate 128 65535) 0 m))
      ] in
      record {
        few_states = omega arith;
        table =
            record {
              most_size = ap length e ∙ length-replicate {A = ℕ} 128 65535;
              step_size = ap length f ∙ length-replicate {A = ℕ} 128 65535;
              known = λ s l k.
                  let m : s < 128 = let j = state_count_lem bs c in omega (arith, acc.holds.states) in
                  let j : get_or most s 0 ≡ 65535 = rw e (get_or-replicate {A = ℕ} 128 s 65535 0 m) in
                  absurd (omega arith);
            };
        known = λ s l. absurd (not-suc-le-zero l);
        none = λ u k. elim (i u) [ inl j ↦ omega arith | inr j ↦ omega arith ];
      }

  pub all_next : (s : ℕ) (head next most step : List ℕ) → s < c.states → Chains (leaves p) 128 c.transitions head next → Exploring-all p c.states s most step
      → Entering bs c head next s most step
  all_next s head next most step l ch h =
      record { accepts = acc; chains = ch; state = l; table = h.table; led = λ u e. absurd (h.none u e) }

  pub all_more : (s left : ℕ) (most step most' step' : List ℕ) (ends : Bool) → s < c.states → Exploring-all p c.states s most step → ends ≡ true
      → Explored p s left most most' step' ends → Exploring-all p c.states (s + 1) most' step'
  all_more s left most step most' step' ends l h e x =
      let d = x.done e in
      record {
        few_states = omega arith;
        table = d.table;
        known = λ u m.
            elim (look (eqb u s)) [
              | inl q ↦ rw (eqb-true u s q) d.known
              | inr q ↦ let f : u ≡ s → ⊥ = eqb-false u s q in d.kept.known u (h.known u (omega arith))
            ];
        none = λ u k. h.none u (d.kept.entered u k);
      }

  pub all_round : (s : ℕ) (most most' step' : List ℕ) (ends : Bool) → s < c.states → ends ≡ false
      → Explored p s c.states most most' step' ends → Whole p most' step' false
  unfolding has_cycle
  all_round s most most' step' ends l e x =
      record {
        known = λ q. clash q refl;
        straight = λ q. clash q refl;
        round = λ q. some_at (state_count p) _ s (rw state_count_lem l) (rw (state_count_lem bs c) (x.round e));
      }

  pub all_end : (n : ℕ) (most step : List ℕ) → c.states ≤ n → Exploring-all p c.states n most step → Whole p most step true
  unfolding has_cycle
  all_end n most step m h =
      let i = state_count_lem bs c in
      let k : (s : ℕ) → s < state_count p → Known p s (get_or most s 0) (get_or step s 0) = λ s l. h.table.known s l (h.known s (omega arith)) in
      record {
        known = λ q. k;
        straight = λ q. some_none (state_count p) _ (λ s l. (k s l).ends);
        round = λ q. clash refl q;
      }
