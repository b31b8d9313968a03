-- The loop over the records: what is written so far, with the text of the visits left, is the whole text, and the words that these visits leave
-- are the run's; the ledger is checked; the tally has its entries and the firings done. A record has bytes, so the visits never run out.
-- Assumes nothing.
use Rattle.std.proofs.Common.{◌≡◌, refl, sym, ap, ◌∙◌, subst, cond, List, [], ◌++◌, append_assoc, ℕ, zero, suc, ◌+◌, ◌*◌, ◌<◌, ◌≤◌, add-zero, arith, length}
use Rattle.rules.specs.declared.Counts.{Counts}
use Rattle.rules.specs.Plan.{Plan, plan_of}
use Rattle.rules.specs.Record.{size_at}
use Rattle.rules.specs.Ledger.{Ledger, ledger_at}
use Rattle.rules.specs.Call.{Answer, refusal, done, Call, event, signal, fire, call_outcome}
use Rattle.rules.specs.Journal.{Item, ended, broken, fire_lowest, called, item_at}
use Rattle.rules.specs.Transcript.{refusal_line, call_line, tally_line, held_total, firings_of, last_line, call_text, replay, most_bytes}
use Rattle.rules.specs.Transcript as text
use Rattle.plan.proofs.FieldLaws.{track_count_lem}
use Rattle.ledger.specs.Ladder.{Checked, ledger_of}
use Rattle.journal.specs.Records.{size_of, call_of}
use Rattle.journal.specs.Writing.{Wrote, line_room}
use Rattle.journal.proofs.Records.{stands}
use Rattle.journal.proofs.Written.{written_none, retold, wrote_then}
use Rattle.replay.specs.declared.carry_out.Progress.{Progress}
use Rattle.rules.specs.declared.Terms.{Terms}
use Rattle.replay.specs.Left.{words_from}
use Rattle.replay.specs.CarriedOut.{is_broken_record, call_at, Prepared, CarriedOut, Closed}
use Rattle.replay.specs.Runs.{RanFrom}
use Rattle.replay.proofs.Keeping.{call_keeps}

-- the ledger that the text speaks of is the one that the steps work on
ledgers : (terms : Terms) (bs js : List ℕ) (c : Counts) (ws : List ℕ) → ledger_of terms c ws ≡ text.ledger_of terms (plan_of bs c) ws
unfolding ledger_of text.ledger_of
ledgers terms bs js c ws = ap (ledger_at terms ws) (sym (track_count_lem bs c))

-- a record has four bytes or more, and does one firing at most
size_least : (x : Item) → 0 < size_of x → 4 ≤ size_of x
size_least ended l = absurd (omega arith)
size_least broken l = absurd (omega arith)
size_least (fire_lowest o) l = omega arith
size_least (called (event a)) l = omega arith
size_least (called (signal a)) l = omega arith
size_least (called (fire a)) l = omega arith

firings_most : (c : Call) (a : Answer) → firings_of c a ≤ 1
unfolding firings_of
firings_most c (refusal n) = omega arith
firings_most (event a) (done figures) = omega arith
firings_most (signal a) (done figures) = omega arith
firings_most (fire a) (done figures) = omega arith

-- a visit, where the reading ends and where a call stands
module _ (terms : Terms) (bs js : List ℕ) (p : Plan) (n at : ℕ) (ws : List ℕ) where
  words_stopped : (x : Item) → item_at js at ≡ x → size_of x ≡ 0 → words_from terms bs js p (suc n) at ws ≡ ws
  unfolding words_from
  words_stopped ended e z = rw (e, words_from)
  words_stopped broken e z = rw (e, words_from)
  words_stopped (fire_lowest o) e z = absurd (omega arith)
  words_stopped (called (event a)) e z = absurd (omega arith)
  words_stopped (called (signal a)) e z = absurd (omega arith)
  words_stopped (called (fire a)) e z = absurd (omega arith)

  words_call : (x : Item) → item_at js at ≡ x → 0 < size_of x
      → words_from terms bs js p (suc n) at ws ≡ words_from terms bs js p n (at + size_at js at) (call_outcome terms bs ws (call_of p (text.ledger_of terms p ws) x)).words
  unfolding words_from
  words_call ended e l = absurd (omega arith)
  words_call broken e l = absurd (omega arith)
  words_call (fire_lowest o) e l = rw (e, words_from)
  words_call (called d) e l = rw (e, words_from)

  text_stopped : (fired : ℕ) (last : List ℕ) → last ≡ last_line terms p ws fired → (x : Item) → item_at js at ≡ x → size_of x ≡ 0
      → replay terms bs js p (suc n) at ws fired ≡ cond (is_broken_record x) (refusal_line 23 ++ last) last
  unfolding replay
  text_stopped fired last f ended e z = rw (e, replay, f)
  text_stopped fired last f broken e z = rw (e, replay, f)
  text_stopped fired last f (fire_lowest o) e z = absurd (omega arith)
  text_stopped fired last f (called (event a)) e z = absurd (omega arith)
  text_stopped fired last f (called (signal a)) e z = absurd (omega arith)
  text_stopped fired last f (called (fire a)) e z = absurd (omega arith)

  text_call : (fired : ℕ) (x : Item) → item_at js at ≡ x → 0 < size_of x
      → replay terms bs js p (suc n) at ws fired ≡ call_text terms bs js p (replay terms bs js p n (at + size_at js at)) ws fired (call_of p (text.ledger_of terms p ws) x)
  unfolding replay
  text_call fired ended e l = absurd (omega arith)
  text_call fired broken e l = absurd (omega arith)
  text_call fired (fire_lowest o) e l = rw (e, replay)
  text_call fired (called d) e l = rw (e, replay)

-- `whole` is to be written into `out` from `start` on, and `words` to be left in the ledger.
module _ (terms : Terms) (bs js : List ℕ) (c : Counts) (out : List ℕ) (start : ℕ) (whole words : List ℕ) where
  -- the records before `at` are done: their text is written
  pub record Underway (at : ℕ) (ws out' : List ℕ) (so_far : Progress) : Type 0 where
    pub text : List ℕ
    pub wrote : Wrote out start text out' so_far.place
    pub visits : ℕ
    pub enough : length js ≤ at + visits
    pub rest : text ++ replay terms bs js (plan_of bs c) (suc visits) at ws so_far.tally.fired ≡ whole
    pub leaves : words_from terms bs js (plan_of bs c) (suc visits) at ws ≡ words
    pub near : so_far.place ≤ start + 6 * at
    pub few : so_far.tally.fired ≤ at
    pub within : at ≤ length js
    pub checked : Checked terms bs c ws
    pub held : so_far.tally.held ≡ held_total (plan_of bs c) (ledger_of terms c ws)

  pub underway_start : (ws : List ℕ) (held : ℕ) → Checked terms bs c ws → held ≡ held_total (plan_of bs c) (ledger_of terms c ws)
      → replay terms bs js (plan_of bs c) (suc (length js)) 0 ws 0 ≡ whole → words_from terms bs js (plan_of bs c) (suc (length js)) 0 ws ≡ words
      → Underway 0 ws out (record { place = start; tally = record { held = held; fired = 0 } })
  underway_start ws held k h e f =
      record {
        text = [];
        wrote = record { place = sym (add-zero start); bytes = sym (written_none out start) };
        visits = length js;
        enough = omega arith;
        rest = e;
        leaves = f;
        near = omega arith;
        few = omega arith;
        within = omega arith;
        checked = k;
        held = h;
      }

  module _ (room : start + 6 * length js + 2 * line_room ≤ length out) (most : length js ≤ most_bytes) (at : ℕ) (ws out' : List ℕ) (so_far : Progress)
      (u : Underway at ws out' so_far) (same : length out' ≡ length out) where
    pub within_close : so_far.place + 2 * line_room ≤ length out'
    within_close = let n = u.near in let w = u.within in omega arith

    pub prepared : Prepared terms bs c ws out' so_far
    prepared =
        let n = u.near in
        let f = u.few in
        let w = u.within in
        record { checked = u.checked; room = omega arith; few = omega arith }

    -- the place after the record
    pub next_within : (x : Item) (size : ℕ) → x ≡ item_at js at → size ≡ size_of x → (size ≡ 0 → ⊥) → at + size ≤ length js
    next_within x size e s z = let w = (stands js at x (sym e) (omega arith)).within in omega arith

    -- one record more
    pub underway_next : (x : Item) (size : ℕ) → x ≡ item_at js at → size ≡ size_of x → (size ≡ 0 → ⊥)
        → (ws' out'' : List ℕ) (next : Progress) → CarriedOut terms bs c (call_at terms bs c ws x) ws out' so_far ws' out'' next
        → Underway (at + size) ws' out'' next
    unfolding call_text
    underway_next x size e s z ws' out'' next t = go u.visits refl
      where
        p : Plan
        p = plan_of bs c

        d : Call
        d = call_at terms bs c ws x

        some : 0 < size_of x
        some = omega arith

        asked : d ≡ call_of p (text.ledger_of terms p ws) x
        asked = ap (λ (k : Ledger). call_of p k x) (ledgers terms bs js c ws)

        -- the size as the journal tells it
        told : size ≡ size_at js at
        told = s ∙ (stands js at x (sym e) some).size

        text_next : (n : ℕ) → call_line d (call_outcome terms bs ws d).answer ++ replay terms bs js p n (at + size) ws' next.tally.fired
            ≡ replay terms bs js p (suc n) at ws so_far.tally.fired
        text_next n = rw (told, t.words, t.fired) (sym (text_call terms bs js p n at ws so_far.tally.fired x (sym e) some ∙ ap (call_text terms bs js p (replay terms bs js p n (at + size_at js at)) ws so_far.tally.fired) (sym asked)))

        words_next : (n : ℕ) → words_from terms bs js p n (at + size) ws' ≡ words_from terms bs js p (suc n) at ws
        words_next n = rw (told, t.words) (sym (words_call terms bs js p n at ws x (sym e) some ∙ ap (λ (y : Call). words_from terms bs js p n (at + size_at js at) (call_outcome terms bs ws y).words) (sym asked)))

        go : (n : ℕ) → u.visits ≡ n → Underway (at + size) ws' out'' next
        go zero i = let w = next_within x size e s z in let m = u.enough in absurd (omega arith)
        go (suc n) i =
            let w = next_within x size e s z in
            let m = u.enough in
            let b = size_least x some in
            let f = firings_most d (call_outcome terms bs ws d).answer in
            let k = t.line.short in
            let g = t.fired in
            let v = u.near in
            let y = u.few in
            record {
              text = u.text ++ call_line d (call_outcome terms bs ws d).answer;
              wrote = wrote_then (omega arith) u.wrote t.line.wrote;
              visits = n;
              enough = omega arith;
              rest = append_assoc u.text (call_line d (call_outcome terms bs ws d).answer) _ ∙ ap (λ (l : List ℕ). u.text ++ l) (text_next (suc n)) ∙ (rw i at u.rest);
              leaves = words_next (suc n) ∙ (rw i at u.leaves);
              near = omega arith;
              few = omega arith;
              within = w;
              checked = subst (Checked terms bs c) (sym t.words) (call_keeps terms bs c ws u.checked d);
              held = t.held;
            }

    -- the reading ends, and the last lines are written
    pub underway_done : (x : Item) (size : ℕ) → x ≡ item_at js at → size ≡ size_of x → size ≡ 0 → (out'' : List ℕ) (end : ℕ)
        → Closed x out' so_far out'' end → RanFrom out start whole words ws out'' end
    unfolding last_line
    underway_done x size e s z out'' end k =
        let n = u.near in
        let w = u.within in
        let b = k.short in
        let last = ap (λ (m : ℕ). tally_line m so_far.tally.fired) (u.held ∙ ap (held_total (plan_of bs c)) (ledgers terms bs js c ws)) in
        record {
          wrote =
              retold (ap (λ (t : List ℕ). u.text ++ t) (sym (text_stopped terms bs js (plan_of bs c) u.visits at ws so_far.tally.fired _ last x (sym e) (sym s ∙ z))) ∙ u.rest)
              (wrote_then (omega arith) u.wrote k.wrote);
          left = sym (words_stopped terms bs js (plan_of bs c) u.visits at ws x (sym e) (sym s ∙ z)) ∙ u.leaves;
          short = omega arith;
        }
