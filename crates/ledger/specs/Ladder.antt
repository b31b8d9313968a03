-- The ladder of what code may rely on, each rung holding the one below it. Over words: one track's words, those of so many tracks, tidy ones. Over
-- bytes: a plan that is accepted. Over both: lent (checks 2 to 16, 25, 27 and 17 are passed), checked (24 and 18 too), going (and not over).
-- Assumes nothing.
use Rattle.std.specs.Prelude.{◌≡◌, true, false, ℕ, ◌+◌, ◌<◌, ◌≤◌, length}
use Rattle.rules.specs.Names.{Bytes, Words, TrackNumber}
use Rattle.rules.specs.declared.Counts.{Counts}
use Rattle.rules.specs.declared.Terms.{Terms}
use Rattle.rules.specs.Plan.{plan_of}
use Rattle.rules.specs.Layout.{track_place, track_width, word_count}
use Rattle.rules.specs.Leading.{other_plan}
use Rattle.rules.specs.Ledger.{Ledger, ledger_at}
use Rattle.rules.specs.Scope.{is_over}
use Rattle.rules.specs.Soundness.{are_tidy, is_sound}
pub use Rattle.plan.specs.Accepts.{Accepts}
use Rattle.plan.specs.declared.Records.{Records}

-- under the terms that the caller keeps to
module _ (terms : Terms) where
  -- the ledger has room for the words of the track
  pub record Within (ws : Words) (t : TrackNumber) : Type 0 where
    pub number : t < 32
    pub room : track_place terms t + track_width terms ≤ length ws

  -- it has room for the words of so many tracks
  pub record Room (ws : Words) (tracks : ℕ) : Type 0 where
    pub few : tracks ≤ 32
    pub words : word_count terms tracks ≤ length ws

  -- and each track's words are as the paper describes them
  pub record Tidy (ws : Words) (tracks : ℕ) : Type 0 where
    pub room : Room ws tracks
    pub tidy : are_tidy terms ws tracks ≡ true

  -- the plan is accepted, and the ledger has the words of its tracks: checks 2 to 16, 25, 27 and 17 are passed
  pub record Lent (bs : Bytes) (c : Counts) (ws : Words) : Type 0 where
    pub accepts : Accepts bs c
    pub room : Room ws c.tracks

  -- and it is this plan's own, and sound: all checks that a call makes first are passed
  pub record Checked (bs : Bytes) (c : Counts) (ws : Words) : Type 0 where
    pub lent : Lent bs c ws
    pub own : other_plan bs ws ≡ false
    pub sound : is_sound terms (plan_of bs c) ws ≡ true

  -- the ledger that words hold under a plan with these counts
  unfoldable pub ledger_of : Counts → Words → Ledger
  ledger_of c ws = ledger_at terms ws c.tracks

  -- and it is not over
  pub record Going (bs : Bytes) (c : Counts) (ws : Words) : Type 0 where
    pub checked : Checked bs c ws
    pub goes_on : is_over (plan_of bs c) (ledger_of c ws) ≡ false

  -- the same of a plan's records as the code has them
  abbrev pub IsLent : Records → Words → Type 0
  IsLent r ws = Lent r.bytes.now r.counts ws

  abbrev pub IsChecked : Records → Words → Type 0
  IsChecked r ws = Checked r.bytes.now r.counts ws

  abbrev pub IsGoing : Records → Words → Type 0
  IsGoing r ws = Going r.bytes.now r.counts ws
