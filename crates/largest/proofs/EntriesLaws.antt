-- What a state and a transition add, read off their codes: in an accepted plan a state with a replacement hosts a track. Assumes nothing.
use Rattle.std.proofs.Common.{◌≡◌, not, inl, inr, List, ℕ, ◌<◌, eqb}
use Rattle.std.specs.Int.{from_bool}
use Rattle.rules.specs.declared.Counts.{Counts}
use Rattle.rules.specs.Plan.{Plan, plan_of, transition, replacement, is_hosting}
use Rattle.rules.specs.Largest.{of_transition, of_state}
use Rattle.rules.proofs.Tests.{look}
use Rattle.rules.proofs.Acceptance.{accepts}
use Rattle.plan.proofs.FieldLaws.{state_count_lem}
use Rattle.ledger.specs.Ladder.{Accepts}

pub coded : (p : Plan) (x r : ℕ) → r ≡ (transition p x).code → from_bool (not (eqb r 0)) ≡ of_transition p x
unfolding of_transition
coded p x r e = rw e (elim (look (eqb (transition p x).code 0)) [ inl z ↦ rw z | inr z ↦ rw z ])

pub replaced : (bs : List ℕ) (c : Counts) → Accepts bs c → (s r : ℕ) → s < c.states → r ≡ replacement (plan_of bs c) s
    → from_bool (not (eqb r 0)) ≡ of_state (plan_of bs c) s
unfolding of_state
replaced bs c acc s r l e =
    rw e
    (elim (look (is_hosting (plan_of bs c) s)) [
      | inl h ↦ elim (look (eqb (replacement (plan_of bs c) s) 0)) [ inl z ↦ rw (h, z) | inr z ↦ rw (h, z) ]
      | inr h ↦ rw (h, (accepts bs c acc.read).unhosting s (rw state_count_lem l) h)
    ])
