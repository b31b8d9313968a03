-- A run does what the reference run of its journal's calls does: from the reading of `run`'s own contract, the words that it leaves and the lines
-- that it prints are the reference run's, and so property 3 holds of them. Assumes nothing.
use mathlib.Core.Path.{◌≡◌, refl, sym, ap, subst, ◌∙◌}
use mathlib.Core.Bool.{Bool, true, false}
use mathlib.Core.List.{List, ◌++◌}
use Prim.Native.Nat.{ℕ, suc, ◌+◌, ◌≤◌}
use native.Mathlib.Nat.{zero-add}
use native.Mathlib.Omega.{arith}
use contract.Lifetimes.{Lfts}
use denote.Triple.Clauses.{AtExit}
use borrow.Fn.Kinds.{ended_of}
use borrow.Fn.World.{ArgsD, ResD}
use lib.Dec.{ltb}
use lib.ListN.{length, take, drop}
use lib.Seq.{take_at}
use borrow.Author.Tests.{ltb-false}
use Rattle.rules.specs.declared.Counts.{Counts}
use Rattle.rules.specs.Record.{most_of}
use Rattle.rules.specs.Plan.{plan_of}
use Rattle.rules.specs.Acceptance.{accepted, read_plan}
use Rattle.rules.specs.Layout.{word_count}
use Rattle.rules.specs.Call.{Answer, Outcome, Call, begin_outcome}
use Rattle.rules.specs.Transcript.{plan_line, ledger_of, last_line, most_bytes, transcript, firings_in}
use Rattle.rules.specs.ReferenceRun.{words_after, answers_after, ledger_after}
use Rattle.journal.specs.Writing.{written_at}
use Rattle.property3.proofs.Property3.{from_run}
use Rattle.replay.specs.declared.RunAnswer.{RunAnswer}
use Rattle.replay.specs.declared.RunAnswer.TheVariants.{Written, TooSmall, ShortLedger}
use Rattle.rules.specs.declared.Terms.{Terms}
use Rattle.replay.specs.Left.{words_left}
use Rattle.replay.specs.Runs.{text_room, run_outcome, Ran}
use Rattle.replay.proofs.Keeping.{begun_outcome}
use Rattle.replay.proofs.WholeText.{accepts, roomy, neither, accepted_text, accepted_words}
use Rattle.reference_run.specs.AsReference.{calls, answers, reference_text, AsReference}
use Rattle.reference_run.proofs.JournalCalls.{text_of, same_words, same_text}
use Rattle.replay.specs.contracts.run as run
use Rattle.replay.proofs.run.Kinds as run-kinds
use Rattle.replay.proofs.run.Reads as run-reads

module _ (terms : Terms) (bs js : List ℕ) (c : Counts) (lent : List ℕ)
    (read : read_plan bs ≡ accepted c) (short : length bs ≤ most_bytes) (short' : length js ≤ most_bytes) (room : word_count terms (most_of 1) ≤ length lent) where
  abbrev cs : List Call
  cs = calls terms bs js c lent

  abbrev rs : List Answer
  rs = answers terms bs js c lent

  words_left_lem : words_left terms bs js lent ≡ words_after terms bs lent cs
  unfolding words_after
  words_left_lem = accepted_words terms bs js lent c (neither terms bs js lent short short') read ∙ same_words terms bs js (plan_of bs c) (suc (length js)) 0 (begin_outcome terms bs lent).words

  text_printed : transcript terms bs js ≡ reference_text terms bs js c lent
  unfolding text_of last_line ledger_of ledger_after words_after answers_after
  text_printed =
      accepted_text terms bs js lent c (neither terms bs js lent short short') read room
      ∙ ap (λ (t : List ℕ). plan_line c ++ t)
      (same_text terms bs js (plan_of bs c) (suc (length js)) 0 (begin_outcome terms bs lent).words 0 (omega arith) (omega arith))
      ∙ rw (zero-add (firings_in cs rs)) refl

  as_reference : AsReference terms bs js c lent (words_left terms bs js lent) (transcript terms bs js)
  as_reference =
      record {
        left = words_left_lem;
        printed = text_printed;
        property3 = from_run terms bs c read lent
            (ap (λ (o : Outcome). o.answer) (begun_outcome terms bs c (accepts bs c read) lent (roomy terms bs c read lent room)))
            cs rs (words_left terms bs js lent) words_left_lem refl;
      }

-- a run that answered `Written`: there was room, and the text stands at the output's start
module _ (terms : Terms) (bs js lent out : List ℕ) (n : ℕ) where
  record Whole : Type 0 where
    room : word_count terms (most_of 1) ≤ length lent
    count : n ≡ length (transcript terms bs js)
    words : (run_outcome terms bs js lent out).words ≡ words_left terms bs js lent
    bytes : (run_outcome terms bs js lent out).bytes ≡ written_at out 0 (transcript terms bs js)

  whole : (run_outcome terms bs js lent out).answer ≡ Written n → Whole
  unfolding run_outcome
  whole h = go (ltb (length out) (text_room js)) (ltb (length lent) (word_count terms (most_of 1))) refl refl
    where
      go : (b d : Bool) → ltb (length out) (text_room js) ≡ b → ltb (length lent) (word_count terms (most_of 1)) ≡ d → Whole
      go true d e f = let q : TooSmall (text_room js) ≡ Written n = rw (e, run_outcome) at h in let z : ◌≡◌ {A = ℕ} 0 1 = cc in absurd (omega arith)
      go false true e f = let q : ShortLedger ≡ Written n = rw (e, f, run_outcome) at h in let z : ◌≡◌ {A = ℕ} 0 1 = cc in absurd (omega arith)
      go false false e f =
          let q : Written (length (transcript terms bs js)) ≡ Written n = rw (e, f, run_outcome) at h in
          let m : length (transcript terms bs js) ≡ n = cc in
          record {
            room = ltb-false (length lent) (word_count terms (most_of 1)) f;
            count = sym m;
            words = rw (e, f, run_outcome);
            bytes = rw (e, f, run_outcome);
          }

  text_taken : n ≡ length (transcript terms bs js) → take n (written_at out 0 (transcript terms bs js)) ≡ transcript terms bs js
  unfolding written_at
  text_taken e = take_at (transcript terms bs js) (drop (0 + length (transcript terms bs js)) out) n (sym e)

ran_as_reference : (terms : Terms) (bs js lent out : List ℕ) (told : RunAnswer) (ws out' : List ℕ) → Ran (run_outcome terms bs js lent out) told ws out'
    → (n : ℕ) → told ≡ Written n → (c : Counts) → read_plan bs ≡ accepted c → length bs ≤ most_bytes → length js ≤ most_bytes
    → AsReference terms bs js c lent ws (take n out')
ran_as_reference terms bs js lent out told ws out' m n e c read short short' =
    let w = whole terms bs js lent out n (sym m.answered ∙ e) in
    subst (λ (vs : List ℕ). AsReference terms bs js c lent vs (take n out')) (sym (m.left ∙ w.words))
    (subst (AsReference terms bs js c lent (words_left terms bs js lent)) (sym (ap (take n) (m.written ∙ w.bytes) ∙ text_taken terms bs js lent out n w.count))
    (as_reference terms bs js c lent read short short' w.room))

-- Where a run answered `Written n`, its plan is accepted and neither input is too long, the words that it leaves and its first n bytes are the
-- reference run's: a.0 are the terms, a.1.0 the plan, a.1.1.0 the journal, a.1.1.1.0 the lent ledger;
-- s.1.1.1.0 is the ledger afterwards, s.1.1.1.1.0 the output.
pub run_as_reference : (κs : Lfts 4) (a : ArgsD run.signature κs) (r : ResD run.signature κs) (s : AtExit (ended_of 4 run-kinds.ps run-kinds.r) κs)
    → run-reads.Post κs a r s → (n : ℕ) → r ≡ Written n
    → (c : Counts) → read_plan a.1.0.now ≡ accepted c → length a.1.0.now ≤ most_bytes → length a.1.1.0.now ≤ most_bytes
    → AsReference a.0 a.1.0.now a.1.1.0.now c a.1.1.1.0.now s.1.1.1.0.now (take n s.1.1.1.1.0.now)
run_as_reference κs a r s m = ran_as_reference a.0 _ _ _ _ r _ _ m
