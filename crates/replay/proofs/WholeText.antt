-- The whole text, by what the run finds: an input that is too long, a plan that is turned back, or the plan's line and the records'.
-- The program's own ledger and the lent one hold the same after begin, so they give the same text. Assumes nothing.
use Rattle.std.proofs.Common.{◌≡◌, refl, sym, ap, ◌∙◌, subst, Bool, true, false, not, ◌||◌, List, ◌++◌, ℕ, suc, ◌+◌, ◌*◌, ◌<◌, ◌≤◌, arith, ltb, length, lt-ltb, le-ltb, ltb-false}
use Rattle.std.proofs.Math.ListN.{length-replicate}
use borrow.Author.Tests.{not-true, not-false}
use Rattle.rules.specs.declared.Counts.{Counts}
use Rattle.rules.specs.Day.{earliest_day}
use Rattle.rules.specs.Record.{most_of}
use Rattle.rules.specs.Plan.{plan_of}
use Rattle.rules.specs.Acceptance.{turned_back, accepted, read_plan}
use Rattle.rules.specs.Layout.{word_count}
use Rattle.rules.specs.Leading.{stamped}
use Rattle.rules.specs.Ledger.{written}
use Rattle.rules.specs.Opening.{begun}
use Rattle.rules.specs.Call.{begin_outcome}
use Rattle.rules.specs.Transcript.{refusal_line, plan_line, replay, most_bytes, own_words, transcript}
use Rattle.rules.proofs.Tests.{or_right}
use Rattle.rules.proofs.TrackWords.{fewer_words}
use Rattle.ledger.specs.Ladder.{Room, Accepts}
use Rattle.plan_reader.proofs.Reader.{accepted_holds}
use Rattle.journal.specs.Writing.{Lined, line_room, written_at}
use Rattle.journal.proofs.Written.{wrote_then}
use Rattle.replay.specs.declared.RunAnswer.TheVariants.{Written, TooSmall, ShortLedger}
use Rattle.rules.specs.declared.Terms.{Terms}
use Rattle.replay.specs.Left.{words_from, words_left}
use Rattle.replay.specs.Runs.{text_room, run_outcome, Ran, RanFrom, RanRecords, RanPlan}
use Rattle.replay.proofs.Keeping.{begin_words, begin_holding}
use Rattle.replay.proofs.SameText.{replay_same}

pub accepts : (bs : List ℕ) (c : Counts) → read_plan bs ≡ accepted c → Accepts bs c
accepts bs c e = record { read = e; holds = accepted_holds bs c e }

pub roomy : (terms : Terms) (bs : List ℕ) (c : Counts) → read_plan bs ≡ accepted c → (ws : List ℕ) → word_count terms (most_of 1) ≤ length ws → Room terms ws c.tracks
roomy terms bs c e ws h =
    let n = (accepted_holds bs c e).tracks in
    let m = fewer_words terms c.tracks (most_of 1) (unfold most_of in n) in
    record { few = n; words = omega arith }

own_long : (terms : Terms) → word_count terms (most_of 1) ≤ length (own_words terms)
unfolding own_words
own_long terms = let e = length-replicate {A = ℕ} (word_count terms (most_of 1)) 0 in omega arith

-- what the tests of the run tell: of the ledger's length, and of the output's
pub long_ledger : (terms : Terms) (n : ℕ) (q : Bool) → q ≡ not (ltb n (word_count terms 32)) → not q ≡ false → word_count terms (most_of 1) ≤ n
unfolding most_of
long_ledger terms n q f g = ltb-false n (word_count terms 32) (not-true _ (sym f ∙ not-false _ g))

pub line_fits : (js : List ℕ) (room n : ℕ) → room ≡ text_room js → room ≤ n → line_room ≤ n
unfolding text_room
line_fits js room n e h = go (ltb most_bytes (length js)) refl
  where
    go : (b : Bool) → ltb most_bytes (length js) ≡ b → line_room ≤ n
    go true t = let f : room ≡ 72 = e ∙ rw t in omega arith
    go false t = let f : room ≡ 6 * length js + 72 = e ∙ rw t in omega arith

pub text_fits : (js : List ℕ) (room n : ℕ) → room ≡ text_room js → room ≤ n → length js ≤ most_bytes → 6 * length js + 72 ≤ n
unfolding text_room
text_fits js room n e h k = let f : room ≡ 6 * length js + 72 = e ∙ rw (le-ltb most_bytes (length js) k) in omega arith

-- the lines after a first line
pub ran_after : (out mid : List ℕ) (start : ℕ) (head text words ws out' : List ℕ) (end : ℕ) → Lined out 0 head mid start → length mid ≡ length out
    → RanFrom mid start text words ws out' end → RanFrom out 0 (head ++ text) words ws out' end
ran_after out mid start head text words ws out' end l same r =
    let s = r.short in
    record { wrote = wrote_then (omega arith) l.wrote r.wrote; left = r.left; short = omega arith }

-- a refusal's line alone
pub ran_refused : (out out' : List ℕ) (end n : ℕ) (ws : List ℕ) → line_room ≤ length out → Lined out 0 (refusal_line n) out' end → RanFrom out 0 (refusal_line n) ws ws out' end
ran_refused out out' end n ws h l = let s = l.short in record { wrote = l.wrote; left = refl; short = omega arith }

-- begin's words under either name
pub ran_begun : (terms : Terms) (bs js : List ℕ) (c : Counts) (a : Accepts bs c) (ws ws' : List ℕ) → Room terms ws c.tracks → ws' ≡ written terms c.tracks (begun (plan_of bs c)) (stamped bs ws)
    → (mid : List ℕ) (start : ℕ) (vs out' : List ℕ) (end : ℕ)
    → RanRecords terms bs js c ws' mid start vs out' end → RanRecords terms bs js c (begin_outcome terms bs ws).words mid start vs out' end
ran_begun terms bs js c a ws ws' r e mid start vs out' end g =
    subst (λ (us : List ℕ). RanRecords terms bs js c us mid start vs out' end)
    (e ∙ begin_words terms bs c a ws r) g

module _ (terms : Terms) (bs js ws : List ℕ) where
  -- one of the inputs is too long
  abbrev pub too_long : Bool
  too_long = ltb most_bytes (length bs) || ltb most_bytes (length js)

  long_text : too_long ≡ true → transcript terms bs js ≡ refusal_line 1
  unfolding transcript
  long_text e = rw (e, transcript)

  long_words : too_long ≡ true → words_left terms bs js ws ≡ ws
  unfolding words_left
  long_words e = rw (e, words_left)

  long_plan : most_bytes < length bs → too_long ≡ true
  long_plan h = rw (lt-ltb most_bytes (length bs) h)

  long_journal : most_bytes < length js → too_long ≡ true
  long_journal h = or_right (ltb most_bytes (length bs)) (ltb most_bytes (length js)) (lt-ltb most_bytes (length js) h)

  pub neither : length bs ≤ most_bytes → length js ≤ most_bytes → too_long ≡ false
  neither h k = rw (le-ltb most_bytes (length bs) h, le-ltb most_bytes (length js) k)

  refused_text : (n : ℕ) → too_long ≡ false → read_plan bs ≡ turned_back n → transcript terms bs js ≡ refusal_line n
  unfolding transcript
  refused_text n e f = rw (e, transcript, f)

  refused_words : (n : ℕ) → too_long ≡ false → read_plan bs ≡ turned_back n → words_left terms bs js ws ≡ ws
  unfolding words_left
  refused_words n e f = rw (e, words_left, f)

  accepted_own : (c : Counts) → too_long ≡ false → read_plan bs ≡ accepted c
      → transcript terms bs js ≡ plan_line c ++ replay terms bs js (plan_of bs c) (suc (length js)) 0 (begin_outcome terms bs (own_words terms)).words 0
  unfolding transcript
  accepted_own c e f = rw (e, transcript, f)

  pub accepted_text : (c : Counts) → too_long ≡ false → read_plan bs ≡ accepted c → word_count terms (most_of 1) ≤ length ws
      → transcript terms bs js ≡ plan_line c ++ replay terms bs js (plan_of bs c) (suc (length js)) 0 (begin_outcome terms bs ws).words 0
  unfolding accepts
  accepted_text c e f h =
      accepted_own c e f
      ∙ ap (λ (t : List ℕ). plan_line c ++ t)
      (replay_same terms bs js c f (suc (length js)) 0 0 (begin_outcome terms bs (own_words terms)).words (begin_outcome terms bs ws).words earliest_day (begun (plan_of bs c))
      (begin_holding terms bs c (accepts bs c f) (own_words terms) (roomy terms bs c f (own_words terms) (own_long terms))) (begin_holding terms bs c (accepts bs c f) ws (roomy terms bs c f ws h)))

  pub accepted_words : (c : Counts) → too_long ≡ false → read_plan bs ≡ accepted c
      → words_left terms bs js ws ≡ words_from terms bs js (plan_of bs c) (suc (length js)) 0 (begin_outcome terms bs ws).words
  unfolding words_left
  accepted_words c e f = rw (e, words_left, f)

  module _ (out : List ℕ) where
    pub small : (room : ℕ) → room ≡ text_room js → length out < room → Ran (run_outcome terms bs js ws out) (TooSmall room) ws out
    unfolding run_outcome
    small room e h =
        let t : ltb (length out) (text_room js) ≡ true = lt-ltb (length out) (text_room js) (omega arith) in
        record {
          answered = rw (t, e);
          left = rw t;
          written = rw t;
          within = λ n i. let z : ◌≡◌ {A = ℕ} 0 1 = cc in absurd (omega arith);
        }

    module _ (room : ℕ) (e : room ≡ text_room js) (h : room ≤ length out) where
      fits : ltb (length out) (text_room js) ≡ false
      fits = le-ltb (length out) (text_room js) (omega arith)

      pub short : (q : Bool) → q ≡ not (ltb (length ws) (word_count terms 32)) → not q ≡ true → Ran (run_outcome terms bs js ws out) ShortLedger ws out
      unfolding run_outcome most_of
      short q f g =
          let t : ltb (length ws) (word_count terms 32) ≡ true = not-false _ (sym f ∙ not-true _ g) in
          record {
            answered = rw (fits, t);
            left = rw (fits, t);
            written = rw (fits, t);
            within = λ n i. let z : ◌≡◌ {A = ℕ} 0 1 = cc in absurd (omega arith);
          }

      module _ (l : word_count terms (most_of 1) ≤ length ws) (out' : List ℕ) (same : length out' ≡ length out) (end : ℕ) where
        ran : (text words ws' : List ℕ) → transcript terms bs js ≡ text → words_left terms bs js ws ≡ words → RanFrom out 0 text words ws' out' end
            → Ran (run_outcome terms bs js ws out) (Written end) ws' out'
        unfolding run_outcome
        ran text words ws' f g r =
            let t : ltb (length ws) (word_count terms (most_of 1)) ≡ false = le-ltb (length ws) (word_count terms (most_of 1)) l in
            let m : length (transcript terms bs js) ≡ length text = ap (λ (t : List ℕ). length t) f in
            let p = r.wrote.place in
            let n : end ≡ length (transcript terms bs js) = omega arith in
            let s = r.short in
            record {
              answered = rw (fits, t) (ap Written n);
              left = rw (fits, t) (r.left ∙ sym g);
              written = rw (fits, t) (r.wrote.bytes ∙ ap (written_at out 0) (sym f));
              within = λ k i. let z : end ≡ k = cc in omega arith;
            }

        ran_long : too_long ≡ true → Lined out 0 (refusal_line 1) out' end → Ran (run_outcome terms bs js ws out) (Written end) ws out'
        ran_long t r = ran (refusal_line 1) ws ws (long_text t) (long_words t) (ran_refused out out' end 1 ws (line_fits js room (length out) e h) r)

        pub ran_long_plan : most_bytes < length bs → Lined out 0 (refusal_line 1) out' end → Ran (run_outcome terms bs js ws out) (Written end) ws out'
        ran_long_plan b r = ran_long (long_plan b) r

        pub ran_long_journal : most_bytes < length js → Lined out 0 (refusal_line 1) out' end → Ran (run_outcome terms bs js ws out) (Written end) ws out'
        ran_long_journal b r = ran_long (long_journal b) r

        pub ran_back : (n : ℕ) → length bs ≤ most_bytes → length js ≤ most_bytes → read_plan bs ≡ turned_back n → Lined out 0 (refusal_line n) out' end
            → Ran (run_outcome terms bs js ws out) (Written end) ws out'
        ran_back n b k f r =
            ran (refusal_line n) ws ws (refused_text n (neither b k) f) (refused_words n (neither b k) f) (ran_refused out out' end n ws (line_fits js room (length out) e h) r)

        pub ran_plan : (c : Counts) (ws' : List ℕ) → length bs ≤ most_bytes → length js ≤ most_bytes → read_plan bs ≡ accepted c
            → RanPlan terms bs js c ws out ws' out' end
            → Ran (run_outcome terms bs js ws out) (Written end) ws' out'
        ran_plan c ws' h k f r = ran _ _ ws' (accepted_text c (neither h k) f l) (accepted_words c (neither h k) f) r
