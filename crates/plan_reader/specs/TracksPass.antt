-- A plan in which no refusal 8 to 12 applies, and the tracks of its scopes in chains. Assumes nothing.
use Rattle.std.specs.Prelude.{◌≡◌, false, List, ℕ}
use Rattle.rules.specs.Names.{Bytes}
use Rattle.rules.specs.declared.Counts.{Counts}
use Rattle.rules.specs.Fold.{some_below}
use Rattle.rules.specs.Plan.{plan_of, is_in}
use Rattle.rules.specs.Acceptance.{no_track, bad_state, bad_host, bad_first, bad_hosting}
use Rattle.plan.specs.Holds.{Holds}
use Rattle.plan.specs.Passes.{state_slots, Chains}

-- no refusal so far, before the transitions are judged
pub record TracksPass (bs : Bytes) (c : Counts) (scopes beside : List ℕ) : Type 0 where
  pub holds : Holds bs c
  pub some_track : no_track (plan_of bs c) ≡ false
  pub states : some_below c.states (bad_state (plan_of bs c)) ≡ false
  pub hosts : some_below c.tracks (bad_host (plan_of bs c)) ≡ false
  pub firsts : some_below c.tracks (bad_first (plan_of bs c)) ≡ false
  pub hostings : some_below c.states (bad_hosting (plan_of bs c)) ≡ false
  pub chains : Chains (is_in (plan_of bs c)) state_slots c.tracks scopes beside
