-- Restoration and progress for the reference run, on words: the words hold the day and the ledger of the rules, call by call, and the clerk's books are
-- the theory's; so both are the theory's theorems. Assumes nothing.
use mathlib.Core.Path.{◌≡◌, refl, sym, ap, ◌∙◌, subst}
use mathlib.Core.Bool.{true, false, cond}
use mathlib.Core.List.{List, [], ◌∷◌}
use Prim.Native.Nat.{ℕ, zero, suc}
use native.Mathlib.Omega.{arith}
use lib.Dec.{eqb}
use borrow.Author.Tests.{ne_eqb}
use Rattle.rules.specs.declared.Counts.{Counts}
use Rattle.rules.specs.declared.Mode.TheVariants.{Undoing}
use Rattle.rules.specs.Names.{Day}
use Rattle.rules.specs.declared.Terms.{Terms}
use Rattle.rules.specs.Day.{earliest_day}
use Rattle.rules.specs.Plan.{Plan, track_count, plan_of}
use Rattle.rules.specs.Acceptance.{accepted, read_plan}
use Rattle.rules.specs.Ledger.{Ledger, is_empty, ledger_at}
use Rattle.rules.specs.Opening.{begun}
use Rattle.rules.specs.Event.{EventArguments}
use Rattle.rules.specs.Fire.{may_fire}
use Rattle.rules.specs.Call.{SignalArguments, FireArguments, Answer, refusal, done, Call, event, signal, fire, call_refusal, next, next_day, call_outcome, begin_outcome}
use Rattle.rules.specs.Books.{Books}
use Rattle.rules.specs.Leading.{last_day}
use Rattle.rules.specs.ReferenceRun.{words_from, words_after, booked_call, booked, books_from, books_after, ledger_after, AllWithdrawn}
use Rattle.rules.proofs.Acceptance.{Accepted, accepts}
use Rattle.theory.specs.Seams.{CallOf}
use Rattle.restoration.specs.LenientBooks.{freely_call, freely_booked, freely}
use Rattle.theory.specs.Runs as theory
use Rattle.theory.specs.Runs.{ledger_from}
use Rattle.theory.proofs.Histories as theorem
use Rattle.restoration.proofs.Document01.{document01, as_rules, as_theory, there_and_back, laws01, unfinished01}
use Rattle.restoration.proofs.Runs01.{books01, same_call}
use Rattle.restoration.proofs.SoundWords.{Holds, call_accepted, call_refused, next_holds, begin_holds}

-- the free run is the clerk's, where the changes are those of books
module _ (terms : Terms) (bs : List ℕ) (p : Plan) (k : Books p terms) where
  clerk_call : (l : Ledger) (c : Call) (b : k.State) → freely_call terms bs p k.changed k.retracted l c b ≡ booked_call terms bs p k l c b
  unfolding freely_call booked_call
  clerk_call l (event a) b = refl
  clerk_call l (signal a) b = refl
  clerk_call l (fire a) b = refl

  clerk_booked : (l : Ledger) (c : Call) (r : Answer) (b : k.State)
      → freely_booked terms bs p k.changed k.retracted l c r b ≡ booked terms bs p k l c r b
  unfolding freely_booked booked
  clerk_booked l c (refusal n) b = refl
  clerk_booked l c (done figures) b = clerk_call l c b

  clerk_books : (cs : List Call) (ws : List ℕ) (b : k.State) → freely terms bs p k.changed k.retracted ws cs b ≡ books_from terms bs p k ws cs b
  unfolding freely books_from
  clerk_books [] ws b = refl
  clerk_books (c ∷ cs) ws b =
      clerk_books cs (call_outcome terms bs ws c).words
      (freely_booked terms bs p k.changed k.retracted (ledger_at terms ws (track_count p)) c (call_outcome terms bs ws c).answer b)
      ∙ ap (books_from terms bs p k (call_outcome terms bs ws c).words cs)
      (clerk_booked (ledger_at terms ws (track_count p)) c (call_outcome terms bs ws c).answer b)

-- the calls of a list, as the theory's
unfoldable pub listed : List Call → List (CallOf EventArguments SignalArguments FireArguments)
listed [] = []
listed (c ∷ cs) = as_theory c ∷ listed cs

module _ (terms : Terms) (bs : List ℕ) (c : Counts) (read : read_plan bs ≡ accepted c) where
  abbrev p : Plan
  p = plan_of bs c

  abbrev n : ℕ
  n = track_count p

  abbrev ok : Accepted p
  ok = accepts bs c read

  abbrev Hold : List ℕ → Day → Ledger → Type 0
  Hold ws d l = Holds terms bs c read ws d l

  -- the theory's day and ledger after a list of calls
  day_by : Day → Ledger → List Call → Day
  day_by d l [] = d
  day_by d l (e ∷ cs) = day_by (next_day terms p d l (as_rules (as_theory e))) (next terms p d l (as_rules (as_theory e))) cs

  abbrev ledger_by : Day → Ledger → List Call → Ledger
  ledger_by d l cs = ledger_from document01 p terms d l (listed cs)

  -- words along a list hold them
  list_follows : (cs : List Call) (ws : List ℕ) (d : Day) (l : Ledger) → Hold ws d l → Hold (words_from terms bs ws cs) (day_by d l cs) (ledger_by d l cs)
  unfolding words_from ledger_from listed day_by
  list_follows [] ws d l h = h
  list_follows (e ∷ cs) ws d l h = list_follows cs (call_outcome terms bs ws e).words _ _ (next_holds terms bs c read ws d l h e)

  pub list_holds : (cs : List Call) (ws : List ℕ) (d : Day) (l : Ledger) → Hold ws d l → (e : Day) × (m : Ledger) × Hold (words_from terms bs ws cs) e m
  list_holds cs ws d l h = (day_by d l cs, ledger_by d l cs, list_follows cs ws d l h)

  -- the words after a list from an accepted begin hold the day and the ledger that they read as
  pub history_holds : (lent : List ℕ) (cs : List Call) → (begin_outcome terms bs lent).answer ≡ done []
      → Hold (words_after terms bs lent cs) (last_day (words_after terms bs lent cs)) (ledger_after terms bs p lent cs)
  unfolding ledger_after words_after
  history_holds lent cs h =
      let (e, m, g) = list_holds cs (begin_outcome terms bs lent).words earliest_day (begun p) (begin_holds terms bs c read lent h) in
      let ws = words_from terms bs (begin_outcome terms bs lent).words cs in
      subst (Hold ws (last_day ws)) (sym g.reads) (subst (λ x. Hold ws x m) (sym g.day) g)

  abbrev begun_by : List Call → Ledger
  begun_by cs = ledger_by earliest_day (begun p) cs

  begin_list : (lent : List ℕ) (cs : List Call) → (begin_outcome terms bs lent).answer ≡ done [] → ledger_after terms bs p lent cs ≡ begun_by cs
  unfolding ledger_after words_after
  begin_list lent cs h = (list_follows cs (begin_outcome terms bs lent).words earliest_day (begun p) (begin_holds terms bs c read lent h)).reads

  -- books of the theory, kept along the words with no more asked
  module _ (k : theory.Books document01 p terms) where
    same_booked : (ws : List ℕ) (d : Day) (l : Ledger) → Hold ws d l → (e : Call) (b : k.State)
        → freely_booked terms bs p k.changed k.retracted (ledger_at terms ws n) e (call_outcome terms bs ws e).answer b
        ≡ theory.booked document01 p terms k d l (as_theory e) b
    unfolding freely_booked theory.booked
    same_booked ws d l h e b = go (call_refusal terms p d l e) refl
      where
        back : call_refusal terms p d l (as_rules (as_theory e)) ≡ call_refusal terms p d l e
        back = ap (call_refusal terms p d l) (there_and_back e)

        go : (x : ℕ) → call_refusal terms p d l e ≡ x
            → freely_booked terms bs p k.changed k.retracted (ledger_at terms ws n) e (call_outcome terms bs ws e).answer b
            ≡ cond (eqb (call_refusal terms p d l (as_rules (as_theory e))) 0) (theory.booked_call document01 p terms k l (as_theory e) b) b
        go zero z = rw (call_accepted terms bs c read ws d l h e z, h.reads, back, z) (same_call p terms k bs l e b)
        go (suc x) z =
            let no : eqb (call_refusal terms p d l (as_rules (as_theory e))) 0 ≡ false =
            ne_eqb (call_refusal terms p d l (as_rules (as_theory e))) 0 (λ y. let w : suc x ≡ 0 = sym z ∙ sym back ∙ y in omega arith) in
            rw (call_refused terms bs c read ws d l h e x z, no)

    same_books : (cs : List Call) (ws : List ℕ) (d : Day) (l : Ledger) → Hold ws d l → (b : k.State)
        → freely terms bs p k.changed k.retracted ws cs b ≡ theory.books_from document01 p terms k d l (listed cs) b
    unfolding freely theory.books_from listed
    same_books [] ws d l h b = refl
    same_books (e ∷ cs) ws d l h b =
        ap (freely terms bs p k.changed k.retracted (call_outcome terms bs ws e).words cs) (same_booked ws d l h e b)
        ∙ same_books cs (call_outcome terms bs ws e).words _ _ (next_holds terms bs c read ws d l h e)
        (theory.booked document01 p terms k d l (as_theory e) b)

    pub freely_restored : (lent : List ℕ) (cs : List Call) → (begin_outcome terms bs lent).answer ≡ done [] → (b : k.State)
        → AllWithdrawn p (ledger_after terms bs p lent cs)
        → freely terms bs p k.changed k.retracted (begin_outcome terms bs lent).words cs b ≡ b
    freely_restored lent cs h b w =
        same_books cs (begin_outcome terms bs lent).words earliest_day (begun p) (begin_holds terms bs c read lent h) b
        ∙ theorem.restored laws01 unfinished01 terms p ok k (listed cs) b (subst (AllWithdrawn p) (begin_list lent cs h) w)

  -- "if every root is undoing, holds nothing and has no open scope, her books stand exactly as at that begin"
  pub restored : (k : Books p terms) (lent : List ℕ) (cs : List Call) → (begin_outcome terms bs lent).answer ≡ done [] → (b : k.State)
      → AllWithdrawn p (ledger_after terms bs p lent cs) → books_after terms bs p k lent cs b ≡ b
  unfolding books_after
  restored k lent cs h b w =
      sym (clerk_books terms bs p k cs (begin_outcome terms bs lent).words b) ∙ freely_restored (books01 p terms k) lent cs h b w

  -- "if any track is undoing and holds an entry, some firing is allowed"
  pub goes_on : (lent : List ℕ) (cs : List Call) → (begin_outcome terms bs lent).answer ≡ done []
      → (t : ℕ) → (ledger_after terms bs p lent cs t).mode ≡ Undoing → is_empty (ledger_after terms bs p lent cs t).held ≡ false
      → (u : ℕ) × (may_fire p (ledger_after terms bs p lent cs) u ≡ true)
  goes_on lent cs h =
      subst
      (λ (l : Ledger). (t : ℕ) → (l t).mode ≡ Undoing → is_empty (l t).held ≡ false → (u : ℕ) × (may_fire p l u ≡ true))
      (sym (begin_list lent cs h)) (theorem.goes_on laws01 unfinished01 terms p ok (listed cs))
