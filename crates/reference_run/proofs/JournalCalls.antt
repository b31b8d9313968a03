-- A journal is a list of calls: the words after its records, and their lines, are those of the reference run of these calls. By induction on the
-- visits of the records; a record has 4 bytes or more, so they never run out. Assumes nothing.
use mathlib.Core.Path.{◌≡◌, refl, sym, ap, ◌∙◌}
use mathlib.Core.Bool.{Bool, true, false}
use mathlib.Core.List.{List, [], ◌∷◌, ◌++◌, append_assoc}
use Prim.Native.Nat.{ℕ, zero, suc, ◌+◌, ◌<◌, ◌≤◌}
use native.Mathlib.Omega.{arith}
use lib.ListN.{length}
use Rattle.rules.specs.declared.Terms.{Terms}
use Rattle.rules.specs.Record.{size_at}
use Rattle.rules.specs.Plan.{Plan}
use Rattle.rules.specs.Call.{Answer, Outcome, Call, event, signal, fire, call_outcome}
use Rattle.rules.specs.Journal.{Item, ended, broken, fire_lowest, called, item_at, fire_lowest_call}
use Rattle.rules.specs.Transcript.{call_line, firings_of, firings_in, ledger_of, last_line, call_text, replay}
use Rattle.rules.specs.ReferenceRun as clerk
use Rattle.journal.specs.Records.{size_of}
use Rattle.journal.proofs.Records.{stands}
use Rattle.replay.specs.Left as left
use Rattle.reference_run.specs.JournalCalls.{call_lines, broken_line, ends_broken, calls_from}

size_some : (c : Call) → 0 < size_of (called c)
size_some (event a) = omega arith
size_some (signal a) = omega arith
size_some (fire a) = omega arith

module _ (js : List ℕ) where
  -- after a whole record the next place is within the journal, and further on
  next_within : (at : ℕ) (x : Item) → item_at js at ≡ x → 0 < size_of x → (at + size_at js at ≤ length js) × (0 < size_at js at)
  next_within at x e l =
      let s = stands js at x e l in
      let w = s.within in
      let z = s.size in (omega arith, omega arith)

module _ (terms : Terms) (bs js : List ℕ) (p : Plan) where
  abbrev outcome : List ℕ → Call → Outcome
  outcome ws c = call_outcome terms bs ws c

  abbrev answers : List ℕ → List Call → List Answer
  answers ws cs = clerk.answers_from terms bs ws cs

  pub same_words : (n at : ℕ) (ws : List ℕ) → left.words_from terms bs js p n at ws ≡ clerk.words_from terms bs ws (calls_from terms bs js p n at ws)
  unfolding left.words_from clerk.words_from calls_from
  same_words zero at ws = refl
  same_words (suc n) at ws = go (item_at js at) refl (λ c. same_words n (at + size_at js at) (outcome ws c).words)
    where
      go : (x : Item) → item_at js at ≡ x
          → ((c : Call) → left.words_from terms bs js p n (at + size_at js at) (outcome ws c).words
          ≡ clerk.words_from terms bs (outcome ws c).words (calls_from terms bs js p n (at + size_at js at) (outcome ws c).words))
          → left.words_from terms bs js p (suc n) at ws ≡ clerk.words_from terms bs ws (calls_from terms bs js p (suc n) at ws)
      go ended e rest = rw (e, left.words_from, calls_from)
      go broken e rest = rw (e, left.words_from, calls_from)
      go (fire_lowest o) e rest = rw (e, left.words_from, calls_from) (rest (fire_lowest_call p (ledger_of terms p ws) o))
      go (called c) e rest = rw (e, left.words_from, calls_from) (rest c)

  -- the lines of calls and of their answers from the words ws on, with the firings done so far, and the last lines
  unfoldable pub text_of : List Call → Bool → List ℕ → ℕ → List ℕ
  text_of cs b ws fired =
      call_lines cs (answers ws cs)
      ++ (broken_line b ++ last_line terms p (clerk.words_from terms bs ws cs) (fired + firings_in cs (answers ws cs)))

  text_end : (b : Bool) (ws : List ℕ) (fired : ℕ) → text_of [] b ws fired ≡ broken_line b ++ last_line terms p ws fired
  unfolding text_of call_lines clerk.words_from clerk.answers_from firings_in
  text_end b ws fired = let e : fired + 0 ≡ fired = omega arith in ap (λ (k : ℕ). broken_line b ++ last_line terms p ws k) e

  text_call : (c : Call) (cs : List Call) (b : Bool) (ws : List ℕ) (fired : ℕ)
      → text_of (c ∷ cs) b ws fired ≡ call_line c (outcome ws c).answer ++ text_of cs b (outcome ws c).words (fired + firings_of c (outcome ws c).answer)
  unfolding text_of call_lines clerk.words_from clerk.answers_from firings_in
  text_call c cs b ws fired =
      let r = (outcome ws c).answer in
      let vs = (outcome ws c).words in
      let e : fired + (firings_of c r + firings_in cs (answers vs cs)) ≡ fired + firings_of c r + firings_in cs (answers vs cs) = omega arith in
      append_assoc (call_line c r) (call_lines cs (answers vs cs)) _
      ∙ ap
      (λ (k : ℕ). call_line c r ++ (call_lines cs (answers vs cs) ++ (broken_line b ++ last_line terms p (clerk.words_from terms bs vs cs) k)))
      e

  -- the text from a place on, if so many visits are enough
  abbrev Same : ℕ → ℕ → Type 0
  Same n at = (ws : List ℕ) (fired : ℕ) → at ≤ length js → length js < at + n
      → replay terms bs js p n at ws fired ≡ text_of (calls_from terms bs js p n at ws) (ends_broken js n at) ws fired

  one : (n at : ℕ) (ws : List ℕ) (fired : ℕ) → length js < at + suc n → Same n (at + size_at js at)
      → (x : Item) → item_at js at ≡ x → 0 < size_of x → (c : Call)
      → call_text terms bs js p (replay terms bs js p n (at + size_at js at)) ws fired c
      ≡ text_of (c ∷ calls_from terms bs js p n (at + size_at js at) (outcome ws c).words) (ends_broken js n (at + size_at js at)) ws fired
  unfolding call_text
  one n at ws fired k rest x e l c =
      let (w, z) = next_within js at x e l in
      ap (λ (t : List ℕ). call_line c (outcome ws c).answer ++ t)
      (rest (outcome ws c).words (fired + firings_of c (outcome ws c).answer) w (omega arith))
      ∙ sym (text_call c (calls_from terms bs js p n (at + size_at js at) (outcome ws c).words) (ends_broken js n (at + size_at js at)) ws fired)

  pub same_text : (n at : ℕ) → Same n at
  unfolding replay calls_from ends_broken broken_line
  same_text zero at ws fired h k = absurd (omega arith)
  same_text (suc n) at ws fired h k = go (item_at js at) refl (same_text n (at + size_at js at))
    where
      go : (x : Item) → item_at js at ≡ x → Same n (at + size_at js at)
          → replay terms bs js p (suc n) at ws fired ≡ text_of (calls_from terms bs js p (suc n) at ws) (ends_broken js (suc n) at) ws fired
      go ended e rest = rw (e, replay, calls_from, ends_broken) (sym (text_end false ws fired))
      go broken e rest = rw (e, replay, calls_from, ends_broken) (sym (text_end true ws fired))
      go (fire_lowest o) e rest =
          rw (e, replay, calls_from, ends_broken) (one n at ws fired k rest (fire_lowest o) e (omega arith) (fire_lowest_call p (ledger_of terms p ws) o))
      go (called c) e rest = rw (e, replay, calls_from, ends_broken) (one n at ws fired k rest (called c) e (size_some c) c)
