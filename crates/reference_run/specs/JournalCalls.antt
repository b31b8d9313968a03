-- The calls that a journal's records are, and the lines that stand for them in the text. Assumes nothing.
use Rattle.std.specs.Prelude.{Bool, true, false, cond, List, [], ◌∷◌, ◌++◌, ℕ, zero, suc, ◌+◌}
use Rattle.rules.specs.Names.{Bytes, Words, Place}
use Rattle.rules.specs.declared.Terms.{Terms}
use Rattle.rules.specs.Record.{size_at}
use Rattle.rules.specs.Plan.{Plan}
use Rattle.rules.specs.Call.{Answer, Call, call_outcome}
use Rattle.rules.specs.Journal.{ended, broken, fire_lowest, called, item_at, fire_lowest_call}
use Rattle.rules.specs.Transcript.{refusal_line, call_line, ledger_of}

-- a line for each call and its answer
unfoldable pub call_lines : List Call → List Answer → Bytes
call_lines [] rs = []
call_lines (c ∷ cs) [] = []
call_lines (c ∷ cs) (r ∷ rs) = call_line c r ++ call_lines cs rs

-- "23 prints its `R` line and ends the reading, then `H` follows."
unfoldable pub broken_line : Bool → Bytes
broken_line b = cond b (refusal_line 23) []

module _ (js : Bytes) where
  -- whether the reading from a place on ends at a broken record
  unfoldable pub ends_broken : ℕ → ℕ → Bool
  ends_broken zero at = false
  ends_broken (suc n) at =
      elim (item_at js at) [
        | ended ↦ false
        | broken ↦ true
        | fire_lowest o ↦ ends_broken n (at + size_at js at)
        | called c ↦ ends_broken n (at + size_at js at)
      ]

module _ (terms : Terms) (bs js : Bytes) (p : Plan) where
  -- the calls that the records from a place on are, from the words ws; kind 19 is the firing that it comes to on the ledger before it
  unfoldable pub calls_from : ℕ → Place → Words → List Call
  calls_from zero at ws = []
  calls_from (suc n) at ws =
      elim (item_at js at) [
        | ended ↦ []
        | broken ↦ []
        | fire_lowest o ↦
            fire_lowest_call p (ledger_of terms p ws) o
            ∷ calls_from n (at + size_at js at) (call_outcome terms bs ws (fire_lowest_call p (ledger_of terms p ws) o)).words
        | called c ↦ c ∷ calls_from n (at + size_at js at) (call_outcome terms bs ws c).words
      ]
