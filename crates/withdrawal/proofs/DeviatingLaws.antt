-- Of all tracks, one alone enters a state: the words that say so, and a firing without a deviation. Assumes nothing.
use Rattle.std.proofs.Common.{◌≡◌, refl, sym, ap, ap₂, ◌∙◌, inl, inr, List, ℕ, ◌<◌, arith, eqb, get_or, set, replicate, get_or-set_same, get_or-set_other, eqb-true, eq-eqb}
use Rattle.std.proofs.Math.Option.{none}
use Rattle.std.proofs.Math.ListN.{length-replicate, get_or-replicate}
use borrow.Author.Tests.{eqb-false}
use Rattle.rules.specs.declared.Counts.{Counts}
use Rattle.rules.specs.declared.Terms.{Terms}
use Rattle.rules.specs.Plan.{Plan, plan_of, track_count, no_state, optional}
use Rattle.rules.specs.Ledger.{Ledger, written}
use Rattle.rules.specs.Opening.{fresh, wakes, entered, enter}
use Rattle.rules.proofs.Tests.{look}
use Rattle.rules.proofs.Opening.{wakes_same, enter_none}
use Rattle.rules.proofs.Stored.{written_same, written_read}
use Rattle.plan.specs.Passes.{slots}
use Rattle.plan.proofs.FieldLaws.{track_count_lem}
use Rattle.ledger.specs.Ladder.{Tidy, Accepts, ledger_of}
use Rattle.lookup.proofs.Facts.{plan_facts}
use Rattle.opening.specs.Entering.{states_of, Sleepers}
use Rattle.withdrawal.specs.Deviating.{deviating}

module _ (terms : Terms) (bs : List ℕ) (c : Counts) (acc : Accepts bs c) (t : ℕ) (b : t < c.tracks) (s : ℕ) where
  abbrev p : Plan
  p = plan_of bs c

  abbrev to : List ℕ
  to = set (replicate slots no_state) t s

  alone : (u : ℕ) → u < track_count p → states_of to u ≡ deviating t s u
  unfolding deviating optional states_of
  alone u k =
      let h = track_count_lem bs c in
      let n = acc.holds.tracks in
      elim (look (eqb u t)) [
        | inl e ↦
            let q : get_or to u 0 ≡ s =
            ap (λ (v : ℕ). get_or to v 0) (eqb-true u t e) ∙ get_or-set_same (replicate slots no_state) t s 0 (omega (arith, length-replicate slots no_state)) in
            rw (e, q)
        | inr e ↦
            let q : get_or to u 0 ≡ no_state =
            get_or-set_other (replicate slots no_state) t u s 0 (eqb-false u t e) ∙ get_or-replicate slots u no_state 0 (omega arith) in
            rw (e, q, eq-eqb no_state no_state refl)
      ]

  woken : (u : ℕ) → wakes p (states_of to) u ≡ wakes p (deviating t s) u
  woken = wakes_same p (plan_facts bs c acc) (states_of to) (deviating t s) alone

  pub deviating_sleepers : (l : Ledger) → Sleepers p (deviating t s) l → Sleepers p (states_of to) l
  deviating_sleepers l a u w = a u (sym (woken u) ∙ w)

  pub deviating_done : (ws : List ℕ) {vs : List ℕ} → vs ≡ written terms c.tracks (enter p (states_of to) (ledger_of terms c ws)) ws
      → vs ≡ written terms c.tracks (enter p (deviating t s) (ledger_of terms c ws)) ws
  unfolding enter
  deviating_done ws d =
      d
      ∙ written_same terms c.tracks _ _ ws
      (λ u h. let k = track_count_lem bs c in ap₂ (entered (ledger_of terms c ws u) (fresh p u)) (alone u (omega arith)) (woken u))

-- a firing without a deviation enters nothing, and opens nothing
pub deviates_not : (terms : Terms) (bs : List ℕ) (c : Counts) → Accepts bs c → (t s : ℕ) (ws : List ℕ) → Tidy terms ws c.tracks → s ≡ no_state
    → ws ≡ written terms c.tracks (enter (plan_of bs c) (deviating t s) (ledger_of terms c ws)) ws
deviates_not terms bs c acc t s ws o e =
    sym (ap (λ (m : Ledger). written terms c.tracks m ws) (enter_none (plan_of bs c) (plan_facts bs c acc) (deviating t s) (ledger_of terms c ws) to_none)
    ∙ unchanged)
  where
    to_none : (u : ℕ) → deviating t s u ≡ none
    to_none u = unfold deviating optional in elim (look (eqb u t)) [ inl q ↦ rw (q, eq-eqb s no_state e) | inr q ↦ rw q ]

    unchanged : written terms c.tracks (ledger_of terms c ws) ws ≡ ws
    unchanged = unfold ledger_of in written_read terms c.tracks ws o.tidy o.room.words
