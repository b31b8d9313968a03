-- Isolation, of the reference run: one walk over two lists of calls whose calls of one society are the same. As long as neither ledger is over they
-- agree on every track under its roots: another society's call leaves those as they are, or finishes, and then the ledger is over for good; and its
-- own call finds both ledgers not over, so it is answered alike and leaves them agreeing again, or finishes. Assumes nothing.
use mathlib.Core.Path.{◌≡◌, refl, sym, ap, ap₂, ◌∙◌, subst}
use mathlib.Core.Logic.{inl, inr}
use mathlib.Core.Bool.{true, false, cond, not, ◌&&◌}
use mathlib.Core.List.{List, [], ◌∷◌, ◌++◌}
use Prim.Native.Nat.{ℕ, zero, suc, ◌+◌, ◌≤◌}
use native.Mathlib.Omega.{arith}
use lib.ListN.{length}
use lib.Dec.{eqb, ltb}
use borrow.Author.Tests.{eqb-true, eqb-false, eq-eqb, not-true}
use Rattle.rules.specs.declared.Counts.{Counts}
use Rattle.rules.specs.declared.Terms.{Terms}
use Rattle.rules.specs.Plan.{Plan, track_count, plan_of}
use Rattle.rules.specs.Acceptance.{accepted, read_plan}
use Rattle.rules.specs.Leading.{last_day}
use Rattle.rules.specs.Ledger.{Configuration, Ledger, held_words, ledger_at}
use Rattle.rules.specs.Scope.{is_over}
use Rattle.rules.specs.Call.{Answer, refusal, done, Outcome, Call, figures, call_refusal, next, next_day, call_outcome, begin_outcome, ready_outcome, entries_part}
use Rattle.rules.specs.ReferenceRun.{words_from, words_after, answers_from, answers_after}
use Rattle.rules.specs.Isolation.{society_of, Alone, is_under, own_calls, own_answers, is_for_day, ready_bit, is_over_now, lasts, Isolated}
use Rattle.rules.proofs.Tests.{look, clash, refuted, and_holds, and_both}
use Rattle.rules.proofs.Acceptance.{Accepted, accepts}
use Rattle.rules.proofs.LedgerChecks.{Passes}
use Rattle.theory.proofs.SoundKept.{kept_sound}
use Rattle.restoration.proofs.Theorems01.{Sound, over_is, over_refused, work, next_cases}
use Rattle.restoration.proofs.SoundWords.{Holds, passes_holds, holds_passes, call_accepted, call_refused, call_holds, begin_holds}
use Rattle.isolation.proofs.Alike as alike
use Rattle.isolation.proofs.Readings.{ready_told_lem, entries_told}

-- Lists of calls: the society's own, and the answers to them.
module _ (own : ℕ) where
  own_taken : (c : Call) (cs : List Call) → eqb (society_of c) own ≡ true → own_calls own (c ∷ cs) ≡ c ∷ own_calls own cs
  unfolding own_calls
  own_taken c cs h = rw h

  own_passed : (c : Call) (cs : List Call) → eqb (society_of c) own ≡ false → own_calls own (c ∷ cs) ≡ own_calls own cs
  unfolding own_calls
  own_passed c cs h = rw h

  answer_taken : (c : Call) (cs : List Call) (r : Answer) (rs : List Answer) → eqb (society_of c) own ≡ true
      → own_answers own (c ∷ cs) (r ∷ rs) ≡ r ∷ own_answers own cs rs
  unfolding own_answers
  answer_taken c cs r rs h = rw h

  answer_passed : (c : Call) (cs : List Call) (r : Answer) (rs : List Answer) → eqb (society_of c) own ≡ false
      → own_answers own (c ∷ cs) (r ∷ rs) ≡ own_answers own cs rs
  unfolding own_answers
  answer_passed c cs r rs h = rw h

nil-cons {ℓ} : {A : Type ℓ} {c : Call} {cs : List Call} → ◌≡◌ {A = List Call} [] (c ∷ cs) → A
nil-cons h = let z : ◌≡◌ {A = ℕ} 0 1 = cc in absurd (omega arith)

heads : (c d : Call) (cs ds : List Call) → c ∷ cs ≡ d ∷ ds → (c ≡ d) × (cs ≡ ds)
heads c d cs ds h = (cc, cc)

module _ (terms : Terms) (bs : List ℕ) (k : Counts) (read : read_plan bs ≡ accepted k) where
  abbrev p : Plan
  p = plan_of bs k

  ok : Accepted p
  ok = accepts bs k read

  abbrev Checked : List ℕ → Type 0
  Checked ws = Passes terms bs p ws

  abbrev ledger : List ℕ → Ledger
  ledger ws = ledger_at terms ws (track_count p)

  abbrev refused : List ℕ → Call → ℕ
  refused ws c = call_refusal terms p (last_day ws) (ledger ws) c

  abbrev left : List ℕ → Call → List ℕ
  left ws c = (call_outcome terms bs ws c).words

  abbrev told : List ℕ → Call → Answer
  told ws c = (call_outcome terms bs ws c).answer

  -- Words that pass the checks: what a call answers them and leaves.
  held : (ws : List ℕ) → Checked ws → Holds terms bs k read ws (last_day ws) (ledger ws)
  held = passes_holds terms bs k read

  call_held : (ws : List ℕ) → Checked ws → (c : Call)
      → Holds terms bs k read (left ws c) (next_day terms p (last_day ws) (ledger ws) c) (next terms p (last_day ws) (ledger ws) c)
  call_held ws h c = call_holds terms bs k read ws (last_day ws) (ledger ws) (held ws h) c

  call_passes : (ws : List ℕ) → Checked ws → (c : Call) → Checked (left ws c)
  call_passes ws h c = holds_passes terms bs k read (left ws c) _ _ (call_held ws h c)

  answer_accepted : (ws : List ℕ) → Checked ws → (c : Call) → refused ws c ≡ 0 → told ws c ≡ done (figures p (ledger ws) c)
  answer_accepted ws h c e = ap (λ (o : Outcome). o.answer) (call_accepted terms bs k read ws (last_day ws) (ledger ws) (held ws h) c e)

  all_refused : (ws : List ℕ) → Checked ws → (c : Call) (r : ℕ) → refused ws c ≡ suc r
      → call_outcome terms bs ws c ≡ record { answer = refusal (suc r); words = ws }
  all_refused ws h = call_refused terms bs k read ws (last_day ws) (ledger ws) (held ws h)

  -- and that one that is not over is sound
  sound : (ws : List ℕ) → Checked ws → is_over_now terms bs p ws ≡ false → Sound terms p (ledger ws)
  unfolding is_over_now
  sound ws h n = kept_sound terms p (ledger ws) (held ws h).kept n

  -- a ledger that is over stays so: every call is refused
  over_stays : (ws : List ℕ) → Checked ws → (c : Call) → is_over_now terms bs p ws ≡ true → is_over_now terms bs p (left ws c) ≡ true
  unfolding is_over_now
  over_stays ws h c o = go (refused ws c) refl
    where
      go : (r : ℕ) → refused ws c ≡ r → is_over p (ledger (left ws c)) ≡ true
      go zero e = absurd (over_refused terms p (last_day ws) (ledger ws) o c e)
      go (suc r) e = ap (λ (x : Outcome). is_over p (ledger x.words)) (all_refused ws h c r e) ∙ o

  was_not_over : (ws : List ℕ) → Checked ws → (c : Call) → is_over_now terms bs p (left ws c) ≡ false → is_over_now terms bs p ws ≡ false
  was_not_over ws h c n = refuted (is_over_now terms bs p ws) (λ o. clash (over_stays ws h c o) n)

  -- an accepted call that leaves a ledger that is not over leaves its work
  left_work : (ws : List ℕ) → Checked ws → (c : Call) → is_over_now terms bs p (left ws c) ≡ false → refused ws c ≡ 0
      → ledger (left ws c) ≡ work p (ledger ws) c
  unfolding is_over_now
  left_work ws h c n e =
      let q = (call_held ws h c).reads in
      elim (next_cases terms p ok (last_day ws) (ledger ws) c e) [
        | inl w ↦ q ∙ w
        | inr o ↦ clash (ap (is_over p) q ∙ over_is p (next terms p (last_day ws) (ledger ws) c) o) n
      ]

  -- a refused one leaves the words
  left_words : (ws : List ℕ) → Checked ws → (c : Call) (r : ℕ) → refused ws c ≡ suc r → ledger (left ws c) ≡ ledger ws
  left_words ws h c r e = ap (λ (x : Outcome). ledger x.words) (all_refused ws h c r e)

  -- a call that is not answered as refused for its day is not refused so
  not_for_day : (ws : List ℕ) → Checked ws → (c : Call) → is_for_day (told ws c) ≡ false → refused ws c ≡ 26 → ⊥
  unfolding is_for_day
  not_for_day ws h c n e = clash (ap (λ (x : Outcome). is_for_day x.answer) (all_refused ws h c 25 e)) n

  module _ (own : ℕ) where
    abbrev Same : List ℕ → List ℕ → Type 0
    Same ws vs = (t : ℕ) → is_under p own t ≡ true → ledger ws t ≡ ledger vs t

    -- Another society's call.
    others : Alone p own → (ws : List ℕ) → Checked ws → (c : Call) → eqb (society_of c) own ≡ false → is_over_now terms bs p (left ws c) ≡ false → Same (left ws c) ws
    unfolding is_over_now
    others alone ws h c other n = go (refused ws c) refl
      where
        go : (r : ℕ) → refused ws c ≡ r → Same (left ws c) ws
        go zero e t i =
            ap (λ (l : Ledger). l t) (left_work ws h c n e)
            ∙ alike.left_alone terms p ok own alone (ledger ws) (sound ws h (was_not_over ws h c n)) (last_day ws) c (eqb-false (society_of c) own other) e t i
        go (suc r) e t i = ap (λ (l : Ledger). l t) (left_words ws h c r e)

    -- Its own call, on two ledgers that are not over and agree under its roots.
    module _ (ws vs : List ℕ) (h : Checked ws) (g : Checked vs) (n : is_over_now terms bs p ws ≡ false) (m : is_over_now terms bs p vs ≡ false) (a : Same ws vs)
        (c : Call) (mine : eqb (society_of c) own ≡ true) (u : is_for_day (told ws c) ≡ false) (v : is_for_day (told vs c) ≡ false) where
      alike_refused : refused ws c ≡ refused vs c
      unfolding is_over_now
      alike_refused =
          alike.same_refusal terms p ok own (ledger ws) (ledger vs) (sound ws h n) (sound vs g m) a n m (last_day ws) (last_day vs) c
          (eqb-true (society_of c) own mine) (not_for_day ws h c u) (not_for_day vs g c v)

      alike_told : told ws c ≡ told vs c
      unfolding is_over_now
      alike_told = go (refused ws c) refl
        where
          go : (r : ℕ) → refused ws c ≡ r → told ws c ≡ told vs c
          go zero e =
              answer_accepted ws h c e
              ∙ ap done (alike.same_figures terms p ok own (ledger ws) (ledger vs) (sound ws h n) (sound vs g m) a (last_day ws) c (eqb-true (society_of c) own mine) e)
              ∙ sym (answer_accepted vs g c (sym alike_refused ∙ e))
          go (suc r) e =
              ap (λ (x : Outcome). x.answer) (all_refused ws h c r e) ∙ sym (ap (λ (x : Outcome). x.answer) (all_refused vs g c r (sym alike_refused ∙ e)))

      alike_left : is_over_now terms bs p (left ws c) ≡ false → is_over_now terms bs p (left vs c) ≡ false → Same (left ws c) (left vs c)
      unfolding is_over_now
      alike_left x y = go (refused ws c) refl
        where
          go : (r : ℕ) → refused ws c ≡ r → Same (left ws c) (left vs c)
          go zero e t i =
              ap (λ (l : Ledger). l t) (left_work ws h c x e)
              ∙ alike.work_same terms p ok own (ledger ws) (ledger vs) (sound ws h n) (sound vs g m) a c t i
              ∙ sym (ap (λ (l : Ledger). l t) (left_work vs g c y (sym alike_refused ∙ e)))
          go (suc r) e t i =
              ap (λ (l : Ledger). l t) (left_words ws h c r e) ∙ a t i
              ∙ sym (ap (λ (l : Ledger). l t) (left_words vs g c r (sym alike_refused ∙ e)))

    -- two ledgers that agree under its roots unless one of them is over
    abbrev SameWhileGoing : List ℕ → List ℕ → Type 0
    SameWhileGoing ws vs = is_over_now terms bs p ws ≡ false → is_over_now terms bs p vs ≡ false → Same ws vs

    -- what `lasts` says of the first call
    record Lasts (ws : List ℕ) (c : Call) (cs : List Call) : Type 0 where
      going : eqb (society_of c) own ≡ true → is_over_now terms bs p ws ≡ false
      timely : is_for_day (told ws c) ≡ false
      rest : lasts terms bs p own (left ws c) cs ≡ true

    lasts_first : (ws : List ℕ) (c : Call) (cs : List Call) → lasts terms bs p own ws (c ∷ cs) ≡ true → Lasts ws c cs
    unfolding lasts
    lasts_first ws c cs h =
        let X = eqb (society_of c) own && is_over_now terms bs p ws in
        let (x, z) = and_holds (not X && not (is_for_day (told ws c))) (lasts terms bs p own (left ws c) cs) h in
        let (w, y) = and_holds (not X) (not (is_for_day (told ws c))) x in
        record {
          going = λ mine. sym (ap (λ b. b && is_over_now terms bs p ws) mine) ∙ not-true X w;
          timely = not-true (is_for_day (told ws c)) y;
          rest = z;
        }

    -- lasting along a list is lasting along its beginning, and from there along the rest
    lasts_begins : (cs ds : List Call) (ws : List ℕ) → lasts terms bs p own ws (cs ++ ds) ≡ true
        → (lasts terms bs p own ws cs ≡ true) × (lasts terms bs p own (words_from terms bs ws cs) ds ≡ true)
    unfolding lasts words_from
    lasts_begins [] ds ws h = (refl, h)
    lasts_begins (c ∷ cs) ds ws h =
        let X = not (eqb (society_of c) own && is_over_now terms bs p ws) && not (is_for_day (told ws c)) in
        let (x, z) = and_holds X (lasts terms bs p own (left ws c) (cs ++ ds)) h in
        let (y, w) = lasts_begins cs ds (left ws c) z in
        (and_both X (lasts terms bs p own (left ws c) cs) x y, w)

    abbrev heard : List ℕ → List Call → List Answer
    heard ws cs = own_answers own cs (answers_from terms bs ws cs)

    heard_own : (ws : List ℕ) (c : Call) (cs : List Call) → eqb (society_of c) own ≡ true → heard ws (c ∷ cs) ≡ told ws c ∷ heard (left ws c) cs
    unfolding answers_from
    heard_own ws c cs mine = answer_taken own c cs (told ws c) (answers_from terms bs (left ws c) cs) mine

    heard_other : (ws : List ℕ) (c : Call) (cs : List Call) → eqb (society_of c) own ≡ false → heard ws (c ∷ cs) ≡ heard (left ws c) cs
    unfolding answers_from
    heard_other ws c cs other = answer_passed own c cs (told ws c) (answers_from terms bs (left ws c) cs) other

    abbrev Result : List ℕ → List Call → List ℕ → List Call → Type 0
    Result ws cs vs ds = (heard ws cs ≡ heard vs ds) × SameWhileGoing (words_from terms bs ws cs) (words_from terms bs vs ds)

    -- The walk, by the sum of the lists' lengths: first the others' calls of either list, and then its own of both.
    module _ (alone : Alone p own) where
      abbrev Walk : ℕ → Type 0
      Walk f = (cs ds : List Call) → length cs + length ds ≤ f → (ws vs : List ℕ) → Checked ws → Checked vs → SameWhileGoing ws vs
          → own_calls own cs ≡ own_calls own ds → lasts terms bs p own ws cs ≡ true → lasts terms bs p own vs ds ≡ true → Result ws cs vs ds

      first_other : (f : ℕ) → Walk f → (c : Call) (cs ds : List Call) → length cs + length ds ≤ f → (ws vs : List ℕ) → Checked ws → Checked vs
          → SameWhileGoing ws vs → own_calls own (c ∷ cs) ≡ own_calls own ds → lasts terms bs p own ws (c ∷ cs) ≡ true → lasts terms bs p own vs ds ≡ true
          → eqb (society_of c) own ≡ false → Result ws (c ∷ cs) vs ds
      unfolding words_from
      first_other f go c cs ds b ws vs h g a q x y other =
          let w = lasts_first ws c cs x in
          let (e, r) =
          go cs ds b (left ws c) vs (call_passes ws h c) g
          (λ n m t i. others alone ws h c other n t i ∙ a (was_not_over ws h c n) m t i)
          (sym (own_passed own c cs other) ∙ q) w.rest y in
          (heard_other ws c cs other ∙ e, r)

      second_other : (f : ℕ) → Walk f → (d : Call) (cs ds : List Call) → length cs + length ds ≤ f → (ws vs : List ℕ) → Checked ws → Checked vs
          → SameWhileGoing ws vs → own_calls own cs ≡ own_calls own (d ∷ ds) → lasts terms bs p own ws cs ≡ true → lasts terms bs p own vs (d ∷ ds) ≡ true
          → eqb (society_of d) own ≡ false → Result ws cs vs (d ∷ ds)
      unfolding words_from
      second_other f go d cs ds b ws vs h g a q x y other =
          let w = lasts_first vs d ds y in
          let (e, r) =
          go cs ds b ws (left vs d) h (call_passes vs g d)
          (λ n m t i. a n (was_not_over vs g d m) t i ∙ sym (others alone vs g d other m t i))
          (q ∙ own_passed own d ds other) x w.rest in
          (e ∙ sym (heard_other vs d ds other), r)

      both_own : (f : ℕ) → Walk f → (c : Call) (cs ds : List Call) → length cs + length ds ≤ f → (ws vs : List ℕ) → Checked ws → Checked vs
          → SameWhileGoing ws vs → own_calls own cs ≡ own_calls own ds → lasts terms bs p own ws (c ∷ cs) ≡ true → lasts terms bs p own vs (c ∷ ds) ≡ true
          → eqb (society_of c) own ≡ true → Result ws (c ∷ cs) vs (c ∷ ds)
      unfolding words_from
      both_own f go c cs ds b ws vs h g a q x y mine =
          let w = lasts_first ws c cs x in
          let z = lasts_first vs c ds y in
          let n = w.going mine in
          let m = z.going mine in
          let (e, r) =
          go cs ds b (left ws c) (left vs c) (call_passes ws h c) (call_passes vs g c)
          (alike_left ws vs h g n m (a n m) c mine w.timely z.timely) q w.rest z.rest in (
            heard_own ws c cs mine
                ∙ ap₂ (λ r rs. r ∷ rs) (alike_told ws vs h g n m (a n m) c mine w.timely z.timely) e
                ∙ sym (heard_own vs c ds mine),
            r,
          )

      none_left : Walk 0
      unfolding words_from answers_from own_answers
      none_left [] [] b ws vs h g a q x y = (refl, a)
      none_left (c ∷ cs) ds b ws vs h g a q x y = absurd (omega arith)
      none_left [] (d ∷ ds) b ws vs h g a q x y = absurd (omega arith)

      more : (f : ℕ) → Walk f → Walk (suc f)
      unfolding words_from answers_from own_answers own_calls
      more f go [] [] b ws vs h g a q x y = (refl, a)
      more f go [] (d ∷ ds) b ws vs h g a q x y =
          elim (look (eqb (society_of d) own)) [
            | inl i ↦ nil-cons (q ∙ own_taken own d ds i)
            | inr i ↦ second_other f go d [] ds (omega arith) ws vs h g a q x y i
          ]
      more f go (c ∷ cs) [] b ws vs h g a q x y =
          elim (look (eqb (society_of c) own)) [
            | inl i ↦ nil-cons (sym q ∙ own_taken own c cs i)
            | inr i ↦ first_other f go c cs [] (omega arith) ws vs h g a q x y i
          ]
      more f go (c ∷ cs) (d ∷ ds) b ws vs h g a q x y =
          elim (look (eqb (society_of c) own)) [
            | inr i ↦ first_other f go c cs (d ∷ ds) (omega arith) ws vs h g a q x y i
            | inl i ↦
                elim (look (eqb (society_of d) own)) [
                  | inr j ↦ second_other f go d (c ∷ cs) ds (omega arith) ws vs h g a q x y j
                  | inl j ↦
                      let (e, r) = heads c d (own_calls own cs) (own_calls own ds) (sym (own_taken own c cs i) ∙ q ∙ own_taken own d ds j) in
                      subst (λ d. Result ws (c ∷ cs) vs (d ∷ ds)) e
                      (both_own f go c cs ds (omega arith) ws vs h g a r x (subst (λ d. lasts terms bs p own vs (d ∷ ds) ≡ true) (sym e) y) i)
                ]
          ]

      walk : (f : ℕ) → Walk f
      walk zero = none_left
      walk (suc f) = more f (walk f)

      -- what the walk shows of both lists, from two ledgers
      both_told : (cs ds : List Call) (ws vs : List ℕ) → Checked (words_from terms bs ws cs) → Checked (words_from terms bs vs ds) → Result ws cs vs ds
          → Isolated terms bs p own cs (answers_from terms bs ws cs) (words_from terms bs ws cs) ds (answers_from terms bs vs ds) (words_from terms bs vs ds)
      both_told cs ds ws vs h g r =
          let end = words_from terms bs ws cs in
          let end' = words_from terms bs vs ds in
          record {
            answers = r.0;
            ready = λ n m t i.
                ready_told_lem terms bs k read end h t ∙ alike.may_same terms p ok own (ledger end) (ledger end') (r.1 n m) t i
                ∙ sym (ready_told_lem terms bs k read end' g t);
            entries = λ n m t i.
                entries_told terms bs k read end h t
                ∙ ap (λ (c : Configuration). cond (ltb t (track_count p)) (held_words c.held) []) (r.1 n m t i)
                ∙ sym (entries_told terms bs k read end' g t);
          }

      list_passes : (cs : List Call) (ws : List ℕ) → Checked ws → Checked (words_from terms bs ws cs)
      unfolding words_from
      list_passes [] ws h = h
      list_passes (c ∷ cs) ws h = list_passes cs (left ws c) (call_passes ws h c)

      -- from any one ledger that passes the checks, a crafted one too
      pub isolated_from : (ws : List ℕ) → Checked ws → (cs ds : List Call) → own_calls own cs ≡ own_calls own ds
          → lasts terms bs p own ws cs ≡ true → lasts terms bs p own ws ds ≡ true
          → Isolated terms bs p own cs (answers_from terms bs ws cs) (words_from terms bs ws cs) ds (answers_from terms bs ws ds) (words_from terms bs ws ds)
      isolated_from ws h cs ds q x y =
          both_told cs ds ws ws (list_passes cs ws h) (list_passes ds ws h)
          (walk (length cs + length ds) cs ds (omega arith) ws ws h h (λ n m t i. refl) q x y)

-- The theorem, of the reference run: for every plan, every begin that is accepted, and every two lists of calls after it.
module _ (terms : Terms) (bs : List ℕ) (k : Counts) (read : read_plan bs ≡ accepted k) (lent : List ℕ) (begun : (begin_outcome terms bs lent).answer ≡ done []) where
  pub isolation : (own : ℕ) → Alone (plan_of bs k) own → (cs ds : List Call) → own_calls own cs ≡ own_calls own ds
      → lasts terms bs (plan_of bs k) own (begin_outcome terms bs lent).words cs ≡ true
      → lasts terms bs (plan_of bs k) own (begin_outcome terms bs lent).words ds ≡ true
      → Isolated terms bs (plan_of bs k) own cs (answers_after terms bs lent cs) (words_after terms bs lent cs) ds (answers_after terms bs lent ds) (words_after terms bs lent ds)
  unfolding words_after answers_after
  isolation own alone =
      isolated_from terms bs k read own alone (begin_outcome terms bs lent).words
      (holds_passes terms bs k read _ _ _ (begin_holds terms bs k read lent begun))

  -- "at each of its calls": wherever a call of its own stands in both lists after the same calls of its own, neither ledger is over before it, and
  -- under its roots ready's bits and the entries are the same there
  pub isolation_at : (own : ℕ) → Alone (plan_of bs k) own → (c : Call) → society_of c ≡ own → (xs us ys vs : List Call)
      → own_calls own xs ≡ own_calls own us
      → lasts terms bs (plan_of bs k) own (begin_outcome terms bs lent).words (xs ++ (c ∷ ys)) ≡ true
      → lasts terms bs (plan_of bs k) own (begin_outcome terms bs lent).words (us ++ (c ∷ vs)) ≡ true
      → (t : ℕ) → is_under (plan_of bs k) own t ≡ true
      → (ready_bit (ready_outcome terms bs (words_after terms bs lent xs)).answer t ≡ ready_bit (ready_outcome terms bs (words_after terms bs lent us)).answer t)
      × (entries_part terms bs (words_after terms bs lent xs) t ≡ entries_part terms bs (words_after terms bs lent us) t)
  unfolding words_after
  isolation_at own alone c mine xs us ys vs q x y t i =
      let ws = (begin_outcome terms bs lent).words in
      let (a, z) = lasts_begins terms bs k read own xs (c ∷ ys) ws x in
      let (b, w) = lasts_begins terms bs k read own us (c ∷ vs) ws y in
      let m = eq-eqb (society_of c) own mine in
      let n = (lasts_first terms bs k read own (words_from terms bs ws xs) c ys z).going m in
      let o = (lasts_first terms bs k read own (words_from terms bs ws us) c vs w).going m in
      let r = isolation own alone xs us q a b in
      (r.ready n o t i, r.entries n o t i)
