-- What a run promises beside its contract: its words and its lines are the reference run's, and property 3 holds of them. Assumes nothing.
use Rattle.std.specs.Prelude.{◌≡◌, List, ◌++◌, ℕ, suc, length}
use Rattle.rules.specs.Names.{Bytes}
use Rattle.rules.specs.declared.Counts.{Counts}
use Rattle.rules.specs.declared.Terms.{Terms}
use Rattle.rules.specs.Plan.{Plan, plan_of}
use Rattle.rules.specs.Call.{Answer, Call, begin_outcome}
use Rattle.rules.specs.Transcript.{plan_line, tally_line, held_total, firings_in}
use Rattle.rules.specs.ReferenceRun.{words_after, answers_after, ledger_after}
use Rattle.rules.specs.History.{Property3}
use Rattle.reference_run.specs.JournalCalls.{call_lines, broken_line, ends_broken, calls_from}

module _ (terms : Terms) (bs js : Bytes) (c : Counts) (lent : List ℕ) where
  abbrev p : Plan
  p = plan_of bs c

  -- the calls that the journal's records are, after a begin on the lent ledger, and what document 01 answers to each
  abbrev pub calls : List Call
  calls = calls_from terms bs js p (suc (length js)) 0 (begin_outcome terms bs lent).words

  abbrev pub answers : List Answer
  answers = answers_after terms bs lent calls

  -- "It begins, then prints `PLAN` tracks states transitions; a line for each record ..; last `H` entries held, firings done."
  abbrev pub reference_text : List ℕ
  reference_text =
      plan_line c
      ++ (call_lines calls answers
      ++ (broken_line (ends_broken js (suc (length js)) 0) ++ tally_line (held_total p (ledger_after terms bs p lent calls)) (firings_in calls answers)))

  pub record AsReference (words text : List ℕ) : Type 1 where
    pub left : words ≡ words_after terms bs lent calls
    pub printed : text ≡ reference_text
    pub property3 : Property3 terms bs p lent calls answers words
