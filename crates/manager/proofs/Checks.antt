-- What the checks found, and the outcome of a call by them. Assumes nothing.
use Rattle.std.proofs.Common.{◌≡◌, refl, sym, ap, ◌∙◌, subst, inl, inr, Bool, true, false, not, List, [], ◌∷◌, ℕ, ◌+◌, ◌*◌, ◌-◌, ◌≤◌, ◌<◌, arith, ltb, eqb, ℤ, length, take, drop, ltb-true, ltb-false, lt-ltb, le-ltb, ne_eqb}
use Rattle.std.proofs.Math.Nat.{add-sub_cancel_left}
use borrow.Author.Tests.{not-true, not-false}
use Rattle.rules.specs.declared.Counts.{Counts}
use Rattle.rules.specs.declared.Terms.{Terms}
use Rattle.rules.specs.Fold.{first_refusal}
use Rattle.rules.specs.Layout.{entry_width, track_width, head_words, track_place, entries_place, word_count}
use Rattle.rules.specs.Plan.{plan_of, track_count}
use Rattle.rules.specs.Acceptance.{Reading, turned_back, accepted, read_plan}
use Rattle.rules.specs.Leading.{last_day, stamped, other_plan}
use Rattle.rules.specs.Ledger.{ledger_at, written}
use Rattle.rules.specs.Opening.{begun}
use Rattle.rules.specs.Scope.{has_open_scope, is_over}
use Rattle.rules.specs.Fire.{ready}
use Rattle.rules.specs.Soundness.{are_tidy, is_sound}
use Rattle.rules.specs.Call.{Answer, refusal, done, Outcome, Call, refused_or, too_short, ledger_refusal, call_refusals, call_outcome, event_outcome, begin_outcome, ready_outcome, held_part, entries_part, HandsBack, Meets}
use Rattle.plan.proofs.FieldLaws.{track_count_lem}
use Rattle.ledger.specs.Ladder.{Accepts, Lent, Checked, ledger_of}
use Rattle.plan_reader.proofs.Reader.{accepted_holds}
use Rattle.rules.proofs.Tests.{look, passed, if_refused}
use Rattle.rules.proofs.Soundness.{sound_words}
use Rattle.rules.proofs.LedgerChecks.{Passes, unless_none, checked_first, passes_none, none_passes, short_refused, other_refused, unsound_refused}
use Rattle.lookup.specs.Figures.{Figures}
use Rattle.lookup.proofs.Facts.{long_room, passes_checked}
use Rattle.ledger.proofs.Words.{in_room}
use Rattle.ledger.proofs.ReadTracks.{count_within}
use Rattle.manager.specs.Checked.{lent, checked, Span}
use Rattle.manager.proofs.FurtherRead.{reading_clash, read_refused, read_stopped, read_cleared, read_why, read_facts, refused_outcome, cleared_outcome}

-- the entries of a track end within its words
in_track_lem : (terms : Terms) (n from t k : ℕ) → from ≡ entries_place terms t + entry_width * 0 → k ≤ terms.limit
    → track_place terms t + track_width terms ≤ n → from + entry_width * k ≤ n
unfolding entries_place track_width head_words entry_width
in_track_lem terms n from t k i m r = omega arith

-- a call meets an outcome by the whole of it
pub meets : (o : Outcome) (a : Answer) (vs ws : List ℕ) → record { answer = a; words = ws } ≡ o → vs ≡ ws → Meets o a vs
meets o a vs ws e q = record { answered = ap (λ (x : Outcome). x.answer) e; left = q ∙ ap (λ (x : Outcome). x.words) e }

module _ (terms : Terms) (bs ws : List ℕ) where
  -- 17 applies, or not
  pub short : (c : Counts) {q : Bool} → q ≡ not (ltb (length ws) (word_count terms c.tracks)) → not q ≡ true → too_short terms (plan_of bs c) ws ≡ true
  unfolding too_short
  short c e h = rw track_count_lem (not-false _ (sym e ∙ not-true _ h))

  pub roomy : (c : Counts) {q : Bool} → q ≡ not (ltb (length ws) (word_count terms c.tracks)) → not q ≡ false → too_short terms (plan_of bs c) ws ≡ false
  unfolding too_short
  roomy c e h = rw track_count_lem (not-true _ (sym e ∙ not-false _ h))

  -- 2 to 17, by the reading of the plan and the test
  pub lent_refused : (r : ℕ) → turned_back r ≡ read_plan bs → turned_back r ≡ lent terms bs ws
  unfolding lent
  lent_refused = read_refused bs _

  pub lent_short : (c : Counts) → accepted c ≡ read_plan bs → too_short terms (plan_of bs c) ws ≡ true → turned_back 17 ≡ lent terms bs ws
  unfolding lent first_refusal
  lent_short c e h = read_stopped bs _ c 16 e (rw h)

  pub lent_accepted : (c : Counts) → accepted c ≡ read_plan bs → too_short terms (plan_of bs c) ws ≡ false → accepted c ≡ lent terms bs ws
  unfolding lent first_refusal
  lent_accepted c e h = read_cleared bs _ c e (rw h)

  -- what an accepted reading tells
  pub lent_facts : (c : Counts) → accepted c ≡ lent terms bs ws → (read_plan bs ≡ accepted c) × (too_short terms (plan_of bs c) ws ≡ false)
  unfolding lent first_refusal
  lent_facts c e = let (a, z) = read_facts bs _ c e in (a, (passed (too_short terms (plan_of bs c) ws) 16 0 z).0)

  pub checked_facts : (c : Counts) → accepted c ≡ checked terms bs ws → (read_plan bs ≡ accepted c) × Passes terms bs (plan_of bs c) ws
  unfolding checked
  checked_facts c e = let (a, z) = read_facts bs _ c e in (a, none_passes terms bs (plan_of bs c) ws z)

  pub accepts : (c : Counts) → read_plan bs ≡ accepted c → Accepts bs c
  accepts c a = record { read = a; holds = accepted_holds bs c a }

  pub lent_holds : (c : Counts) → accepted c ≡ lent terms bs ws → Lent terms bs c ws
  lent_holds c e = let (a, b) = lent_facts c e in record { accepts = accepts c a; room = long_room terms bs c ws (accepts c a) b }

  pub call_checked : (c : Counts) → accepted c ≡ checked terms bs ws → Checked terms bs c ws
  call_checked c e = let (a, h) = checked_facts c e in passes_checked terms bs c ws (accepts c a) h

  -- 24 and 18 after them
  pub checked_refused : (r : ℕ) → turned_back r ≡ lent terms bs ws → turned_back r ≡ checked terms bs ws
  unfolding lent checked first_refusal
  checked_refused r e =
      elim (read_why bs _ r e) [
        | inl a ↦ read_refused bs _ r (sym a)
        | inr s ↦
            let (t, n) = if_refused (too_short terms (plan_of bs s.counts) ws) 16 s.number s.test in
            rw (s.same, n) (read_stopped bs _ s.counts 16 (sym s.read) (short_refused terms bs (plan_of bs s.counts) ws t))
      ]

  pub checked_other : (c : Counts) {q : Bool} → accepted c ≡ lent terms bs ws → q ≡ other_plan bs ws → q ≡ true → turned_back 24 ≡ checked terms bs ws
  unfolding checked
  checked_other c e f h = let (a, b) = lent_facts c e in read_stopped bs _ c 23 (sym a) (other_refused terms bs (plan_of bs c) ws b (sym f ∙ h))

  module _ (c : Counts) {o q : Bool} (e : accepted c ≡ lent terms bs ws) (g : o ≡ other_plan bs ws) (i : o ≡ false) (f : q ≡ is_sound terms (plan_of bs c) ws) where
    pub checked_unsound : not q ≡ true → turned_back 18 ≡ checked terms bs ws
    unfolding checked
    checked_unsound h =
        let (a, b) = lent_facts c e in
        read_stopped bs _ c 17 (sym a) (unsound_refused terms bs (plan_of bs c) ws b (sym g ∙ i) (sym f ∙ not-true _ h))

    pub checked_accepted : not q ≡ false → accepted c ≡ checked terms bs ws
    unfolding checked
    checked_accepted h =
        let (a, b) = lent_facts c e in
        read_cleared bs _ c (sym a) (passes_none terms bs (plan_of bs c) ws (record { long = b; own = sym g ∙ i; sound = sym f ∙ not-false _ h }))

  -- Ready.
  pub ready_refused : (r : ℕ) → turned_back r ≡ checked terms bs ws → record { answer = refusal r; words = ws } ≡ ready_outcome terms bs ws
  unfolding ready_outcome checked
  ready_refused r e = refused_outcome bs _ ws _ _ (λ p. 0) (λ p. ap (refused_or ws _) (sym (unless_none (ledger_refusal terms bs p ws)))) r e

  pub ready_done : (c : Counts) (n : ℕ) → accepted c ≡ checked terms bs ws → n ≡ ready (plan_of bs c) (ledger_of terms c ws)
      → record { answer = done (n ∷ []); words = ws } ≡ ready_outcome terms bs ws
  unfolding ready_outcome refused_or ledger_of checked
  ready_done c n e h =
      let i : n ≡ ready (plan_of bs c) (ledger_at terms ws (track_count (plan_of bs c))) = h ∙ rw track_count_lem in
      rw i (cleared_outcome bs _ ws _ _ (λ p. 0) (λ p. ap (refused_or ws _) (sym (unless_none (ledger_refusal terms bs p ws)))) c e)

  -- Begin, which asks for 17 alone.
  pub begin_refused : (r : ℕ) → turned_back r ≡ lent terms bs ws → record { answer = refusal r; words = ws } ≡ begin_outcome terms bs ws
  unfolding begin_outcome lent
  begin_refused r e = refused_outcome bs _ ws _ _ (λ p. 0) (λ p. ap (refused_or ws _) (sym (unless_none _))) r e

  pub begin_done : (c : Counts) → accepted c ≡ lent terms bs ws
      → record { answer = done []; words = written terms c.tracks (begun (plan_of bs c)) (stamped bs ws) } ≡ begin_outcome terms bs ws
  unfolding begin_outcome refused_or lent
  begin_done c e =
      ap (λ (n : ℕ). record { answer = done []; words = written terms n (begun (plan_of bs c)) (stamped bs ws) }) (sym (track_count_lem bs c))
      ∙ cleared_outcome bs _ ws _ _ (λ p. 0) (λ p. ap (refused_or ws _) (sym (unless_none _))) c e

  -- Event, signal and fire: refused, the outcome is the checks' number.
  pub call_refused : (d : Call) (r : ℕ) → turned_back r ≡ checked terms bs ws → record { answer = refusal r; words = ws } ≡ call_outcome terms bs ws d
  unfolding call_outcome checked
  call_refused d r e =
      refused_outcome bs _ ws _ _ (λ p. first_refusal (call_refusals terms p (last_day ws) (ledger_at terms ws (track_count p)) d))
      (λ p. ap (refused_or ws _) (checked_first terms bs p ws (call_refusals terms p (last_day ws) (ledger_at terms ws (track_count p)) d))) r e

  -- Entries.
  pub span_at : (t u a b : ℕ) → u ≡ t → Span terms bs ws u a b → Span terms bs ws t a b
  span_at t u a b i s = subst (λ (x : ℕ). Span terms bs ws x a b) i s

  nothing : (t : ℕ) → [] ≡ entries_part terms bs ws t → Span terms bs ws t 0 0
  nothing t e = record { starts = omega arith; ends = omega arith; place = λ h. absurd (omega (arith, h)); part = e }

  -- the ledger of an accepted plan is refused
  refused : (r : ℕ) (c : Counts) → turned_back r ≡ checked terms bs ws → read_plan bs ≡ accepted c → eqb (ledger_refusal terms bs (plan_of bs c) ws) 0 ≡ false
  unfolding checked
  refused r c e a =
      ne_eqb _ 0
      (λ (z : ledger_refusal terms bs (plan_of bs c) ws ≡ 0). reading_clash e (sym (read_cleared bs (λ p. ledger_refusal terms bs p ws) c (sym a) z)))

  pub span_refused : (t r : ℕ) → turned_back r ≡ checked terms bs ws → Span terms bs ws t 0 0
  unfolding entries_part
  span_refused t r e = nothing t (go (read_plan bs) refl)
    where
      go : (x : Reading) → read_plan bs ≡ x → [] ≡ entries_part terms bs ws t
      go (turned_back n) a = rw (a, entries_part)
      go (accepted c) a = rw (a, entries_part, refused r c e a)

  -- or it is not
  unrefused : (c : Counts) → accepted c ≡ checked terms bs ws → (read_plan bs ≡ accepted c) × (ledger_refusal terms bs (plan_of bs c) ws ≡ 0)
  unrefused c e = let (a, h) = checked_facts c e in (a, passes_none terms bs (plan_of bs c) ws h)

  pub span_absent : (t : ℕ) (c : Counts) → accepted c ≡ checked terms bs ws → c.tracks ≤ t → Span terms bs ws t 0 0
  unfolding entries_part
  span_absent t c e h =
      let (a, b) = unrefused c e in
      let l : ltb t (track_count (plan_of bs c)) ≡ false = le-ltb t (track_count (plan_of bs c)) (rw track_count_lem h) in
      nothing t (rw (a, entries_part, b, l))

  -- a sound ledger's words are tidy
  pub tidy_found : (c : Counts) → accepted c ≡ checked terms bs ws → are_tidy terms ws c.tracks ≡ true
  tidy_found c e =
      let q = (sound_words terms (plan_of bs c) ws (checked_facts c e).1.sound).tidy in
      rw track_count_lem at q

  pub span_held : (t from k : ℕ) (c : Counts) → accepted c ≡ checked terms bs ws → t < c.tracks → from ≡ entries_place terms t + entry_width * 0
      → k ≡ length (ledger_of terms c ws t).held → Span terms bs ws t from (from + entry_width * k)
  unfolding entries_part held_part ledger_of
  span_held t from k c e h i j =
      let (a, b) = unrefused c e in
      let l : ltb t (track_count (plan_of bs c)) ≡ true = lt-ltb t (track_count (plan_of bs c)) (rw track_count_lem h) in
      let r = in_room ws c.tracks t (call_checked c e).lent.room h in
      let m : k ≤ terms.limit = count_within terms c.tracks ws t k (tidy_found c e) j in
      let z : from ≡ entries_place terms t = omega arith in
      let n : length (ledger_at terms ws (track_count (plan_of bs c)) t).held ≡ k = rw track_count_lem (sym j) in
      record {
        starts = omega arith;
        ends = in_track_lem terms (length ws) from t k i m r.room;
        place = λ _. z;
        part = rw (a, entries_part, b, l, n, add-sub_cancel_left, z);
      }

  -- the part between two places, handed back from a ledger that lies at `ledger`
  pub hands_back : (t a b : ℕ) (ledger : ℕ × ℕ) → Span terms bs ws t a b
      → HandsBack terms bs ws t ledger (ledger.0, a * 2 + ledger.1) (take (b - a) (drop a ws)) ws
  hands_back t a b ledger s =
      let starts : (take (b - a) (drop a ws) ≡ [] → ⊥) → a ≡ entries_place terms t = λ h. s.place (longer h) in
      record { held_as = s.part; block = λ h. refl; place = λ h. omega (arith, starts h); left = refl }
    where
      longer : (take (b - a) (drop a ws) ≡ [] → ⊥) → a < b
      longer h = elim (look (ltb a b)) [
        | inl l ↦ ltb-true a b l
        | inr l ↦
            let e : b - a ≡ 0 = omega (arith, ltb-false a b l) in
            absurd (h (rw e))
      ]

-- what is accepted has one count of each
pub opens_found : (terms : Terms) (bs ws : List ℕ) {c d : Counts} {opens : List Bool} → accepted c ≡ accepted d
    → (is_over (plan_of bs c) (ledger_of terms c ws) ≡ false → Figures false opens c.tracks (has_open_scope (plan_of bs c) (ledger_of terms c ws)))
    → is_over (plan_of bs d) (ledger_of terms d ws) ≡ false → Figures false opens d.tracks (has_open_scope (plan_of bs d) (ledger_of terms d ws))
opens_found terms bs ws {c} {d} {opens} e f =
    let q : c ≡ d = cc in
    subst (λ k. is_over (plan_of bs k) (ledger_of terms k ws) ≡ false → Figures false opens k.tracks (has_open_scope (plan_of bs k) (ledger_of terms k ws))) q f

-- an event's day as it was given
pub on_day : (terms : Terms) (bs ws : List ℕ) (e o : ℕ) {x y : ℤ} → x ≡ y → {a : Answer} {vs : List ℕ}
    → Meets (event_outcome terms bs ws (record { event = e; day = x; society = o })) a vs
    → Meets (event_outcome terms bs ws (record { event = e; day = y; society = o })) a vs
on_day terms bs ws e o q {a} {vs} m = subst (λ d. Meets (event_outcome terms bs ws (record { event = e; day = d; society = o })) a vs) q m
