-- What one record does: its call's words, its line, its figures in the tally. Assumes nothing.
use Rattle.std.specs.Prelude.{◌≡◌, Bool, true, false, cond, ◌++◌, ℕ, ◌+◌, ◌*◌, ◌<◌, ◌≤◌, ◌^◌, length}
use Rattle.rules.specs.Names.{Bytes, Words, Place}
use Rattle.rules.specs.declared.Counts.{Counts}
use Rattle.rules.specs.Fold.{sum_below}
use Rattle.rules.specs.Plan.{plan_of, first_state}
use Rattle.rules.specs.Call.{Call, call_outcome}
use Rattle.rules.specs.Journal.{Item, ended, broken, fire_lowest, called}
use Rattle.rules.specs.Transcript.{refusal_line, call_line, firings_of, held_total, tally_line}
use Rattle.ledger.specs.Ladder.{Checked, ledger_of}
use Rattle.lookup.specs.Figures.{Figures}
use Rattle.transition_index.specs.Indexed.{Indexed}
use Rattle.journal.specs.Records.{call_of}
use Rattle.journal.specs.Writing.{Wrote, Lined, line_room}
use Rattle.replay.specs.declared.carry_out.PlanTables.{PlanTables}
use Rattle.replay.specs.declared.carry_out.Progress.{Progress}
use Rattle.rules.specs.declared.Terms.{Terms}

-- the call that a record asks for on the ledger that the words hold
abbrev pub call_at : (terms : Terms) → Bytes → Counts → Words → Item → Call
call_at terms bs c ws x = call_of (plan_of bs c) (ledger_of terms c ws) x

-- There is room for a line, and for one firing more in the tally.
pub record Prepared (terms : Terms) (bs : Bytes) (c : Counts) (ws : Words) (out : Bytes) (from : Progress) : Type 0 where
  pub checked : Checked terms bs c ws
  pub room : from.place + line_room ≤ length out
  pub few : from.tally.fired + 1 < 2 ^ 32

-- What is read of the plan once: the first state of each track, and the index of its transitions.
pub record Tables (bs : Bytes) (c : Counts) (t : PlanTables) : Type 0 where
  pub started : Figures 0 t.firsts c.tracks (first_state (plan_of bs c))
  pub indexed : Indexed bs c t.index.chains.last t.index.chains.before

-- The place is reached, and the tally has n firings more and the ledger's entries.
pub record CameTo (terms : Terms) (c : Counts) (ws : Words) (from : Progress) (end : Place) (n : ℕ) (next : Progress) : Type 0 where
  pub place : next.place ≡ end
  pub fired : next.tally.fired ≡ from.tally.fired + n
  pub held : next.tally.held ≡ sum_below c.tracks (λ t. length (ledger_of terms c ws t).held)

-- The call was made, and its line written.
pub record CarriedOut (terms : Terms) (bs : Bytes) (c : Counts) (d : Call) (ws : Words) (out : Bytes) (from : Progress) (ws' : Words) (out' : Bytes) (next : Progress) : Type 0 where
  pub words : ws' ≡ (call_outcome terms bs ws d).words
  pub line : Lined out from.place (call_line d (call_outcome terms bs ws d).answer) out' next.place
  pub fired : next.tally.fired ≡ from.tally.fired + firings_of d (call_outcome terms bs ws d).answer
  pub held : next.tally.held ≡ held_total (plan_of bs c) (ledger_of terms c ws')

-- whether the reading ends at a broken record
abbrev pub is_broken_record : Item → Bool
is_broken_record ended = false
is_broken_record broken = true
is_broken_record (fire_lowest o) = false
is_broken_record (called c) = false

-- The last lines were written.
pub record Closed (x : Item) (out : Bytes) (from : Progress) (out' : Bytes) (end : Place) : Type 0 where
  pub wrote : Wrote out from.place
      (cond (is_broken_record x) (refusal_line 23 ++ tally_line from.tally.held from.tally.fired) (tally_line from.tally.held from.tally.fired))
      out' end
  pub short : end ≤ from.place + 2 * line_room
