-- What a run answers, and what it leaves in the lent output and the lent ledger. Assumes nothing.
use Rattle.std.specs.Prelude.{◌≡◌, cond, ◌++◌, ℕ, suc, ◌+◌, ◌*◌, ◌≤◌, length, ltb}
use Rattle.rules.specs.Names.{Bytes, Words, Place}
use Rattle.rules.specs.declared.Counts.{Counts}
use Rattle.rules.specs.Record.{most_of}
use Rattle.rules.specs.Plan.{plan_of}
use Rattle.rules.specs.Layout.{word_count}
use Rattle.rules.specs.Call.{begin_outcome}
use Rattle.rules.specs.Transcript.{plan_line, replay, most_bytes, transcript}
use Rattle.journal.specs.Writing.{written_at, Wrote}
use Rattle.replay.specs.declared.RunAnswer.{RunAnswer}
use Rattle.replay.specs.declared.RunAnswer.TheVariants.{Written, TooSmall, ShortLedger}
use Rattle.rules.specs.declared.Terms.{Terms}
use Rattle.replay.specs.Left.{words_from, words_left}

-- the bytes that hold any text of a journal
unfoldable pub text_room : Bytes → ℕ
text_room js = cond (ltb most_bytes (length js)) 72 (6 * length js + 72)

pub record Result : Type 0 where
  pub answer : RunAnswer
  pub words : Words
  pub bytes : Bytes

-- The text stands at the output's start, and the bytes beyond are as they were. Where the output or the ledger is too small nothing changes.
unfoldable pub run_outcome : (terms : Terms) → Bytes → Bytes → Words → Bytes → Result
run_outcome terms bs js ws out =
    cond (ltb (length out) (text_room js)) (record { answer = TooSmall (text_room js); words = ws; bytes = out })
    (cond (ltb (length ws) (word_count terms (most_of 1))) (record { answer = ShortLedger; words = ws; bytes = out })
    (record {
      answer = Written (length (transcript terms bs js));
      words = words_left terms bs js ws;
      bytes = written_at out 0 (transcript terms bs js);
    }))

-- What a run promises of its answer, of every lent word and of every lent byte.
pub record Ran (o : Result) (told : RunAnswer) (ws : Words) (out : Bytes) : Type 0 where
  pub answered : told ≡ o.answer
  pub left : ws ≡ o.words
  pub written : out ≡ o.bytes
  pub within : (n : ℕ) → told ≡ Written n → n ≤ length out

-- The same of a text that is written from a place on, and of the words that are left.
pub record RanFrom (out : Bytes) (start : Place) (text : Bytes) (words ws : Words) (out' : Bytes) (end : Place) : Type 0 where
  pub wrote : Wrote out start text out' end
  pub left : ws ≡ words
  pub short : end ≤ length out

-- The same of the journal's records and the last line, on a ledger that was begun, and of a plan's line before them.
abbrev pub RanRecords : (terms : Terms) → Bytes → Bytes → Counts → Words → Bytes → Place → Words → Bytes → Place → Type 0
RanRecords terms bs js c ws out start ws' out' end =
    RanFrom out start (replay terms bs js (plan_of bs c) (suc (length js)) 0 ws 0) (words_from terms bs js (plan_of bs c) (suc (length js)) 0 ws) ws' out' end

abbrev pub RanPlan : (terms : Terms) → Bytes → Bytes → Counts → Words → Bytes → Words → Bytes → Place → Type 0
RanPlan terms bs js c ws out ws' out' end =
    let vs : Words = (begin_outcome terms bs ws).words in
    RanFrom out 0 (plan_line c ++ replay terms bs js (plan_of bs c) (suc (length js)) 0 vs 0) (words_from terms bs js (plan_of bs c) (suc (length js)) 0 vs) ws' out' end
