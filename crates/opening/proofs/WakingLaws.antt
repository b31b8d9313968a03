-- Who wakes: a track's figure is worked out when its host's track, whose number is lower, has its own. Assumes nothing.
use Rattle.std.proofs.Common.{◌≡◌, sym, ap, ◌∙◌, Bool, true, false, ◌&&◌, List, ℕ, ◌<◌, eqb, get_or, eq-eqb, ne_eqb}
use Rattle.rules.specs.declared.Counts.{Counts}
use Rattle.rules.specs.Plan.{Plan, plan_of, no_state, optional, host_word, owner, first_state}
use Rattle.rules.specs.Opening.{wakes_in, wakes}
use Rattle.rules.proofs.Opening.{wakes_root, wakes_host}
use Rattle.plan.proofs.Hosting.{host_none}
use Rattle.ledger.specs.Ladder.{Accepts}
use Rattle.lookup.specs.Figures.{Figures}
use Rattle.lookup.proofs.Facts.{plan_facts, host_is, host_low, owner_low}
use Rattle.opening.specs.Entering.{states_of}

-- the track of a track's host is one of the plan
pub host_slot : (bs : List ℕ) (c : Counts) → Accepts bs c → (t h : ℕ) → h ≡ host_word (plan_of bs c) t → (h ≡ no_state → ⊥) → (u : ℕ)
    → u ≡ owner (plan_of bs c) h → u < c.tracks
host_slot bs c acc t h e n u o = rw o (owner_low bs c h acc (host_low bs c t h acc e n))

module _ (bs : List ℕ) (c : Counts) (acc : Accepts bs c) (to : List ℕ) (t h : ℕ) (e : h ≡ host_word (plan_of bs c) t) where
  abbrev p : Plan
  p = plan_of bs c

  pub root_asleep : h ≡ no_state → false ≡ wakes p (states_of to) t
  root_asleep z = sym (wakes_root p (plan_facts bs c acc) (states_of to) t (host_none p t (sym e ∙ z)))

  -- a hosted track: its host's track enters a state, or does not wake, or wakes
  module _ (n : h ≡ no_state → ⊥) (u : ℕ) (o : u ≡ owner p h) where
    host_lower : u < t
    host_lower = rw o ((plan_facts bs c acc).lower t h (host_is p t h e n))

    at_host : wakes p (states_of to) t ≡ wakes_in (first_state p u) (optional (get_or to u 0)) h (wakes p (states_of to) u)
    unfolding states_of
    at_host = rw o (wakes_host p (plan_facts bs c acc) (states_of to) t h (host_is p t h e n))

    pub wakes_entered : (get_or to u 0 ≡ no_state → ⊥) → eqb h (get_or to u 0) ≡ wakes p (states_of to) t
    unfolding optional wakes_in
    wakes_entered z = sym (at_host ∙ (rw (ne_eqb (get_or to u 0) no_state z, wakes_in)))

    module _ (z : get_or to u 0 ≡ no_state) (woken : List Bool) (m : Figures false woken t (wakes p (states_of to))) where
      none_entered : wakes p (states_of to) t ≡ (get_or woken u false && eqb h (first_state p u))
      unfolding optional wakes_in
      none_entered =
          at_host ∙ (rw (eq-eqb (get_or to u 0) no_state z, wakes_in)) ∙ ap (λ (b : Bool). b && eqb h (first_state p u)) (sym (m.at u host_lower))

      pub wakes_not : get_or woken u false ≡ false → false ≡ wakes p (states_of to) t
      wakes_not w = sym (none_entered ∙ (rw w))

      pub wakes_first : (firsts : List ℕ) → Figures 0 firsts c.tracks (first_state p) → get_or woken u false ≡ true
          → eqb h (get_or firsts u 0) ≡ wakes p (states_of to) t
      wakes_first firsts f w = sym (none_entered ∙ (rw (w, f.at u (host_slot bs c acc t h e n u o))))
