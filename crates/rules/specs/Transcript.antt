-- The text that the program `unwind` prints, as bytes, from the bytes of the plan and of the journal. Assumes nothing.
use Rattle.std.specs.Prelude.{true, false, cond, ◌||◌, List, [], ◌∷◌, ◌++◌, ℕ, zero, suc, ◌+◌, length, get_or, replicate, ltb, eqb}
use Rattle.rules.specs.Names.{Bytes, Words, Place, Refusal, StateNumber}
use Rattle.rules.specs.declared.Counts.{Counts}
use Rattle.rules.specs.declared.Terms.{Terms}
use Rattle.rules.specs.Fold.{sum_below}
use Rattle.rules.specs.Record.{track_kind, size_at, most_of}
use Rattle.rules.specs.Plan.{Plan, track_count, no_state, plan_of}
use Rattle.rules.specs.Acceptance.{turned_back, accepted, read_plan}
use Rattle.rules.specs.Layout.{word_count}
use Rattle.rules.specs.Ledger.{Ledger, ledger_at}
use Rattle.rules.specs.Call.{Answer, refusal, done, Outcome, Call, event, signal, fire, begin_outcome, call_outcome}
use Rattle.rules.specs.Text.{ascii, decimal, line}
use Rattle.rules.specs.Journal.{ended, broken, fire_lowest, called, item_at, fire_lowest_call}

-- "`R` number"
unfoldable pub refusal_line : Refusal → Bytes
refusal_line n = line (ascii "R") (decimal n ∷ [])

-- "`PLAN` tracks states transitions"
unfoldable pub plan_line : Counts → Bytes
plan_line c = line (ascii "PLAN") (decimal c.tracks ∷ decimal c.states ∷ decimal c.transitions ∷ [])

-- "`H` entries held, firings done"
unfoldable pub tally_line : ℕ → ℕ → Bytes
tally_line held fired = line (ascii "H") (decimal held ∷ decimal fired ∷ [])

-- "deviation (`-` for 65535)"
unfoldable pub deviation_text : StateNumber → Bytes
deviation_text d = cond (eqb d no_state) (ascii "-") (decimal d)

-- "`E` event moved closed, `S` turned, `F` track code deviation"
unfoldable pub done_line : Call → List ℕ → Bytes
done_line (event a) figures = line (ascii "E") (decimal a.event ∷ decimal (get_or figures 0 0) ∷ decimal (get_or figures 1 0) ∷ [])
done_line (signal a) figures = line (ascii "S") (decimal (get_or figures 0 0) ∷ [])
done_line (fire a) figures =
    line (ascii "F") (decimal a.track ∷ decimal (get_or figures 0 0) ∷ deviation_text (get_or figures 1 0) ∷ [])

unfoldable pub call_line : Call → Answer → Bytes
call_line c (refusal n) = refusal_line n
call_line c (done figures) = done_line c figures

-- how many firings an answered call has done
unfoldable pub firings_of : Call → Answer → ℕ
firings_of c (refusal n) = 0
firings_of (event a) (done figures) = 0
firings_of (signal a) (done figures) = 0
firings_of (fire a) (done figures) = 1

-- and how many a list of calls
unfoldable pub firings_in : List Call → List Answer → ℕ
firings_in [] rs = 0
firings_in (c ∷ cs) [] = 0
firings_in (c ∷ cs) (r ∷ rs) = firings_of c r + firings_in cs rs

-- the entries that all tracks hold
unfoldable pub held_total : Plan → Ledger → ℕ
held_total p l = sum_below (track_count p) (λ t. length (l t).held)

unfoldable pub ledger_of : Terms → Plan → Words → Ledger
ledger_of terms p ws = ledger_at terms ws (track_count p)

unfoldable pub last_line : Terms → Plan → Words → ℕ → Bytes
last_line terms p ws fired = tally_line (held_total p (ledger_of terms p ws)) fired

module _ (terms : Terms) (bs js : Bytes) (p : Plan) where
  -- the line of a call, and what `rest` prints from the words and the firings after it
  unfoldable pub call_text : (Words → ℕ → Bytes) → Words → ℕ → Call → Bytes
  call_text rest ws fired c =
      let o : Outcome = call_outcome terms bs ws c in
      call_line c o.answer ++ rest o.words (fired + firings_of c o.answer)

  -- The lines of the records from a place on, with the ledger's words and the firings done so far. A record has 4 bytes or more, so as
  -- many steps as bytes, and one for the end, never run out.
  -- "23 prints its `R` line and ends the reading, then `H` follows."
  unfoldable pub replay : ℕ → Place → Words → ℕ → Bytes
  replay zero at ws fired = []
  replay (suc n) at ws fired =
      elim (item_at js at) [
        | ended ↦ last_line terms p ws fired
        | broken ↦ refusal_line 23 ++ last_line terms p ws fired
        | fire_lowest society ↦ call_text (replay n (at + size_at js at)) ws fired (fire_lowest_call p (ledger_of terms p ws) society)
        | called c ↦ call_text (replay n (at + size_at js at)) ws fired c
      ]

-- 1 "A file or journal is longer than 32,768 bytes"
abbrev pub most_bytes : ℕ
most_bytes = 32768

-- the program's own ledger, before it begins
unfoldable pub own_words : Terms → Words
own_words terms = replicate (word_count terms (most_of track_kind)) 0

-- "It begins, then prints `PLAN` ..; a line for each record ..; last `H` .." "A refusal 1 to 16 prints its `R` line alone", and 25
-- and 27 are "printed alone" too.
unfoldable pub transcript : Terms → Bytes → Bytes → Bytes
transcript terms bs js =
    elim (ltb most_bytes (length bs) || ltb most_bytes (length js)) [
      | true ↦ refusal_line 1
      | false ↦
          elim (read_plan bs) [
            | turned_back r ↦ refusal_line r
            | accepted c ↦ plan_line c ++ replay terms bs js (plan_of bs c) (suc (length js)) 0 (begin_outcome terms bs (own_words terms)).words 0
          ]
    ]
