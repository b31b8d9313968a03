-- A transition leaves one state, its source, which is one of the plan's. Assumes nothing.
use Rattle.std.proofs.Common.{◌≡◌, sym, ◌∙◌, List, ℕ, ◌+◌, ◌<◌, arith, get_or, set}
use Rattle.rules.specs.declared.Counts.{Counts}
use Rattle.rules.specs.Plan.{plan_of, transition}
use Rattle.rules.specs.Largest.{leaves}
use Rattle.rules.proofs.Acceptance.{accepts}
use Rattle.rules.proofs.Paths.{leaves_told, leaves_shown}
use Rattle.plan.proofs.FieldLaws.{state_count_lem, transition_count_lem}
use Rattle.plan.proofs.ForestLaws.{Chained, chained_add}
use Rattle.ledger.specs.Ladder.{Accepts}

module _ (bs : List ℕ) (c : Counts) (acc : Accepts bs c) where
  pub source_low : (x s : ℕ) → x < c.transitions → s ≡ (transition (plan_of bs c) x).source → s < 128
  source_low x s l e =
      let q : (transition (plan_of bs c) x).source < c.states = rw state_count_lem at ((accepts bs c acc.read).source_state x (rw transition_count_lem l)) in
      omega (arith, acc.holds.states)

  -- one transition more
  pub chain_more : (x s : ℕ) (last before : List ℕ) → x < c.transitions → s ≡ (transition (plan_of bs c) x).source
      → Chained (leaves (plan_of bs c)) 128 x 256 last before
      → Chained (leaves (plan_of bs c)) 128 (x + 1) 256 (set last s (x + 1)) (set before x (get_or last s 0))
  chain_more x s last before l e w =
      chained_add (leaves (plan_of bs c)) 128 x 256 s last before (source_low x s l e) (omega (arith, acc.holds.transitions))
      (leaves_shown (plan_of bs c) s x (rw transition_count_lem l) (sym e)) (λ b h. sym (leaves_told (plan_of bs c) b x h).1 ∙ sym e) w
