-- "Firings exactly, not at most.", on words: along every list of calls on words whose ledger has no forward track and holds no deviation, the firings done
-- and the entries still held are those that were held, and ready is 0 exactly where none is. Words that are refused allow no firing. "After a signal that
-- turns every forward track" is such a ledger, with all entries of the one before. Assumes nothing.
use mathlib.Core.Path.{◌≡◌, refl, sym, ap, ◌∙◌, subst}
use mathlib.Core.Bool.{true, false}
use mathlib.Core.List.{List, [], ◌∷◌}
use Prim.Native.Nat.{ℕ, zero, suc, ◌+◌, ◌<◌}
use native.Mathlib.Omega.{arith}
use lib.ListN.{length}
use lib.Dec.{eqb}
use borrow.Author.Tests.{eqb-true}
use Rattle.rules.specs.declared.Counts.{Counts}
use Rattle.rules.specs.Names.{Day}
use Rattle.rules.specs.declared.Terms.{Terms}
use Rattle.rules.specs.Plan.{Plan, track_count, plan_of}
use Rattle.rules.specs.Acceptance.{accepted, read_plan}
use Rattle.rules.specs.Rights.{fire_right, is_permitted}
use Rattle.rules.specs.Ledger.{Ledger}
use Rattle.rules.specs.Scope.{is_over}
use Rattle.rules.specs.Signal.{after_signal}
use Rattle.rules.specs.Fire.{may_fire, ready, after_fire}
use Rattle.rules.specs.Leading.{last_day}
use Rattle.rules.specs.Call.{Answer, refusal, done, SignalArguments, FireArguments, Call, event, signal, fire, refused_or, under_plan, ledger_refusal, call_refusal, after, next, next_day, call_outcome, ready_outcome}
use Rattle.rules.specs.Transcript.{firings_of, firings_in, held_total}
use Rattle.rules.specs.ReferenceRun.{words_from, answers_from}
use Rattle.rules.specs.FiringsDue.{holds_no_deviation, none_forward, turns_every, is_order, after_order, is_firing_order, firing_calls, held_by, NoneReady, FiresExactly, Counted}
use Rattle.rules.proofs.Tests.{clash, refuted, and_holds, and_both}
use Rattle.rules.proofs.Acceptance.{Accepted, accepts}
use Rattle.rules.proofs.Ready.{may_fire_lem, none_ready, ready_none}
use Rattle.rules.proofs.LedgerChecks.{Passes, none_passes, passes_none}
use Rattle.theory.proofs.SoundKept.{kept_sound, sound_not_over}
use Rattle.restoration.proofs.Theorems01.{Sound, over_refused, fire_accepted, next_accepted, next_refused}
use Rattle.restoration.proofs.SoundWords.{the_ledger, Holds, passes_holds, holds_passes, done_passes, done_accepted, call_accepted, call_refused, call_holds}
use Rattle.restoration.proofs.Allowed.{fire_allowed}
use Rattle.restoration.proofs.Bound.{refused_firing, refused_all}
use Rattle.restoration.proofs.Withdrawing.{Withdrawing, none_held}
use Rattle.restoration.proofs.FiringOrders.{withdrawing, withdrawing_is, all_fired, event_still, signal_still, fired_withdrawing, fired_one, signalled_sound, signalled_withdrawing, signalled_held, some_order, fires_exactly}

-- An order has as many firings as calls, and its calls are as many as its tracks.
pub order_length : (cs : List Call) (rs : List Answer) → is_firing_order cs rs ≡ true → firings_in cs rs ≡ length cs
unfolding is_firing_order firings_in
order_length [] rs o = refl
order_length (c ∷ cs) (r ∷ rs) o =
    let (x, y) = and_holds (eqb (firings_of c r) 1) (is_firing_order cs rs) o in
    omega (arith, eqb-true (firings_of c r) 1 x, order_length cs rs y)
order_length (c ∷ cs) [] o = clash o refl

pub calls_length : (firer : ℕ → ℕ) (ts : List ℕ) → length (firing_calls firer ts) ≡ length ts
unfolding firing_calls
calls_length firer [] = refl
calls_length firer (t ∷ ts) = ap suc (calls_length firer ts)

module _ (terms : Terms) (bs : List ℕ) (k : Counts) (read : read_plan bs ≡ accepted k) where
  abbrev p : Plan
  p = plan_of bs k

  abbrev ok : Accepted p
  ok = accepts bs k read

  -- one call, refused or not
  module _ (ws : List ℕ) (d : Day) (l : Ledger) (h : Holds terms bs k read ws d l) (w : Withdrawing terms p ok l) where
    accepted_due : (c : Call) (figures : List ℕ) → call_refusal terms p d l c ≡ 0
        → Withdrawing terms p ok (after p l c) × (firings_of c (done figures) + held_total p (after p l c) ≡ held_total p l)
    unfolding after firings_of
    accepted_due c fs z = go c z
      where
        s : (c : Call) → call_refusal terms p d l c ≡ 0 → Sound terms p l
        s c z = kept_sound terms p l w.kept (refuted (is_over p l) (λ o. over_refused terms p d l o c z))

        go : (c : Call) → call_refusal terms p d l c ≡ 0
            → Withdrawing terms p ok (after p l c) × (firings_of c (done fs) + held_total p (after p l c) ≡ held_total p l)
        go (event a) z = rw (event_still terms p ok l w (s (event a) z) a) (w, omega arith)
        go (signal a) z = rw (signal_still terms p ok l w (s (signal a) z) a.society) (w, omega arith)
        go (fire a) z =
            let may = (fire_accepted terms p d l a z).1 in
            (fired_withdrawing terms p ok l w a.track may, omega (arith, fired_one terms p ok l w a.track may))

    call_due : (c : Call)
        → Withdrawing terms p ok (next terms p d l c) × (firings_of c (call_outcome terms bs ws c).answer + held_total p (next terms p d l c) ≡ held_total p l)
    call_due c = go (call_refusal terms p d l c) refl
      where
        go : (r : ℕ) → call_refusal terms p d l c ≡ r
            → Withdrawing terms p ok (next terms p d l c) × (firings_of c (call_outcome terms bs ws c).answer + held_total p (next terms p d l c) ≡ held_total p l)
        go zero e = rw (call_accepted terms bs k read ws d l h c e, next_accepted terms p d l c e) (accepted_due c _ e)
        go (suc r) e =
            let no : call_refusal terms p d l c ≡ 0 → ⊥ = λ z. let y : suc r ≡ 0 = sym e ∙ z in omega arith in
            rw (call_refused terms bs k read ws d l h c r e, next_refused terms p d l c no) (w, omega (arith, refused_firing c (suc r)))

  -- a list of calls
  record Along (ws : List ℕ) (l : Ledger) (cs : List Call) : Type 0 where
    day : Day
    ledger : Ledger
    holds : Holds terms bs k read (words_from terms bs ws cs) day ledger
    back : Withdrawing terms p ok ledger
    due : firings_in cs (answers_from terms bs ws cs) + held_total p ledger ≡ held_total p l

  list_due : (cs : List Call) (ws : List ℕ) (d : Day) (l : Ledger) → Holds terms bs k read ws d l → Withdrawing terms p ok l → Along ws l cs
  unfolding words_from answers_from firings_in
  list_due [] ws d l h w = record { day = d; ledger = l; holds = h; back = w; due = omega arith }
  list_due (c ∷ cs) ws d l h w =
      let (v, n) = call_due ws d l h w c in
      let r = list_due cs (call_outcome terms bs ws c).words (next_day terms p d l c) (next terms p d l c) (call_holds terms bs k read ws d l h c) v in
      record { day = r.day; ledger = r.ledger; holds = r.holds; back = r.back; due = omega (arith, n, r.due) }

  -- what ready answers: on words that pass the checks, and on no others
  ready_told_lem : (ws : List ℕ) → Passes terms bs p ws → (ready_outcome terms bs ws).answer ≡ done (ready p (the_ledger terms bs k read ws) ∷ [])
  unfolding ready_outcome under_plan refused_or
  ready_told_lem ws h = rw (read, under_plan, passes_none terms bs p ws h)

  ready_refused : (ws : List ℕ) (r : ℕ) → ledger_refusal terms bs p ws ≡ suc r → (ready_outcome terms bs ws).answer ≡ refusal (suc r)
  unfolding ready_outcome under_plan refused_or
  ready_refused ws r h = rw (read, under_plan, h)

  pub ready_passes : (ws : List ℕ) (figures : List ℕ) → (ready_outcome terms bs ws).answer ≡ done figures → Passes terms bs p ws
  ready_passes ws fs e = go (ledger_refusal terms bs p ws) refl
    where
      go : (r : ℕ) → ledger_refusal terms bs p ws ≡ r → Passes terms bs p ws
      go zero z = none_passes terms bs p ws z
      go (suc r) z = let q = ready_refused ws r z in let y : ◌≡◌ {A = ℕ} 0 1 = cc in absurd (omega arith)

  -- The claim, of every list of calls on words without a forward track and without a deviation held; refused words too
  module _ (ws : List ℕ) (f : none_forward p (the_ledger terms bs k read ws) ≡ true) (n : holds_no_deviation p (the_ledger terms bs k read ws) ≡ true) where
    back : Passes terms bs p ws → Withdrawing terms p ok (the_ledger terms bs k read ws)
    back h = withdrawing terms p ok (the_ledger terms bs k read ws) (passes_holds terms bs k read ws h).kept f n

    module _ (cs : List Call) where
      abbrev end : List ℕ
      end = words_from terms bs ws cs

      along : Passes terms bs p ws → Along ws (the_ledger terms bs k read ws) cs
      along h = list_due cs ws (last_day ws) (the_ledger terms bs k read ws) (passes_holds terms bs k read ws h) (back h)

      due : firings_in cs (answers_from terms bs ws cs) + held_by terms p end ≡ held_by terms p ws
      unfolding held_by
      due = go (ledger_refusal terms bs p ws) refl
        where
          go : (r : ℕ) → ledger_refusal terms bs p ws ≡ r → firings_in cs (answers_from terms bs ws cs) + held_by terms p end ≡ held_by terms p ws
          go zero z = let r = along (none_passes terms bs p ws z) in omega (arith, r.due, ap (held_total p) r.holds.reads)
          go (suc r) z = let (e, q) = refused_all terms bs k read cs ws r z in omega (arith, q, ap (held_by terms p) e)

      -- where ready is answered, the words passed the checks in the beginning
      passed : (figures : List ℕ) → (ready_outcome terms bs end).answer ≡ done figures → Passes terms bs p ws
      passed fs e = go (ledger_refusal terms bs p ws) refl
        where
          go : (r : ℕ) → ledger_refusal terms bs p ws ≡ r → Passes terms bs p ws
          go zero z = none_passes terms bs p ws z
          go (suc r) z =
              let same = (refused_all terms bs k read cs ws r z).0 in
              ready_passes ws fs (ap (λ v. (ready_outcome terms bs v).answer) (sym same) ∙ e)

      none_due : NoneReady terms bs end → held_by terms p end ≡ 0
      unfolding held_by
      none_due e =
          let r = along (passed (0 ∷ []) e) in
          let q = ready_told_lem end (ready_passes end (0 ∷ []) e) in
          let z : ready p (the_ledger terms bs k read end) ≡ 0 = cc in
          ap (held_total p) r.holds.reads
          ∙ all_fired terms p ok r.ledger r.back (ready_none p r.ledger (ap (ready p) (sym r.holds.reads) ∙ z))

      nothing_ready : (figures : List ℕ) → (ready_outcome terms bs end).answer ≡ done figures → held_by terms p end ≡ 0 → NoneReady terms bs end
      unfolding held_by
      nothing_ready fs e z =
          let l = the_ledger terms bs k read end in
          ready_told_lem end (ready_passes end fs e) ∙ ap (λ x. done (x ∷ [])) (none_ready p l (λ t b. none_held p l z t))

      later : (none_forward p (the_ledger terms bs k read end) ≡ true) × (holds_no_deviation p (the_ledger terms bs k read end) ≡ true)
      later = go (ledger_refusal terms bs p ws) refl
        where
          go : (r : ℕ) → ledger_refusal terms bs p ws ≡ r
              → (none_forward p (the_ledger terms bs k read end) ≡ true) × (holds_no_deviation p (the_ledger terms bs k read end) ≡ true)
          go zero z = let r = along (none_passes terms bs p ws z) in rw r.holds.reads (withdrawing_is terms p ok r.ledger r.back)
          go (suc r) z = rw (refused_all terms bs k read cs ws r z).0 (f, n)

      pub counted : Counted terms bs p ws cs (answers_from terms bs ws cs) end
      counted =
          record {
            exactly = λ o e. omega (arith, due, none_due e, order_length cs (answers_from terms bs ws cs) o);
            still_due = due;
            none_due = none_due;
            none_ready = nothing_ready;
            unforward = later.0;
            plain = later.1;
          }

  -- and the claim about the ledger that words hold, rights aside
  pub fires_exactly_of_words : (ws : List ℕ) → Passes terms bs p ws
      → none_forward p (the_ledger terms bs k read ws) ≡ true → holds_no_deviation p (the_ledger terms bs k read ws) ≡ true
      → FiresExactly p (the_ledger terms bs k read ws)
  fires_exactly_of_words ws h = fires_exactly terms p ok (the_ledger terms bs k read ws) (passes_holds terms bs k read ws h).kept

  -- "After a signal that turns every forward track": no track is forward, and all entries are held that were
  pub record Signalled (ws ws' : List ℕ) : Type 0 where
    pub unforward : none_forward p (the_ledger terms bs k read ws') ≡ true
    pub plain : holds_no_deviation p (the_ledger terms bs k read ws') ≡ true
    pub held : held_by terms p ws' ≡ held_by terms p ws
    pub going : is_over p (the_ledger terms bs k read ws') ≡ false

  pub signalled : (ws : List ℕ) (a : SignalArguments) (figures : List ℕ) → (call_outcome terms bs ws (signal a)).answer ≡ done figures
      → turns_every p a.society (the_ledger terms bs k read ws) ≡ true → holds_no_deviation p (the_ledger terms bs k read ws) ≡ true
      → Signalled ws (call_outcome terms bs ws (signal a)).words
  unfolding held_by after
  signalled ws a fs e all n =
      let l = the_ledger terms bs k read ws in
      let h = passes_holds terms bs k read ws (done_passes terms bs k read ws (signal a) fs e) in
      let z = done_accepted terms bs k read ws (signal a) fs e in
      let s = kept_sound terms p l h.kept (refuted (is_over p l) (λ o. over_refused terms p (last_day ws) l o (signal a) z)) in
      let q : the_ledger terms bs k read (call_outcome terms bs ws (signal a)).words ≡ after_signal p l a.society =
      (call_holds terms bs k read ws (last_day ws) l h (signal a)).reads ∙ next_accepted terms p (last_day ws) l (signal a) z in
      let (x, y) = withdrawing_is terms p ok (after_signal p l a.society) (signalled_withdrawing terms p ok l s a all n) in
      record {
        unforward = rw q x;
        plain = rw q y;
        held = ap (held_total p) q ∙ signalled_held terms p ok l s a all;
        going = rw q (sound_not_over terms p ok (after_signal p l a.society) (signalled_sound terms p ok l s a all));
      }

  fired_once : (ws : List ℕ) (d : Day) (l : Ledger) → Holds terms bs k read ws d l → (a : FireArguments) → call_refusal terms p d l (fire a) ≡ 0
      → eqb (firings_of (fire a) (call_outcome terms bs ws (fire a)).answer) 1 ≡ true
  unfolding firings_of
  fired_once ws d l h a z = rw (call_accepted terms bs k read ws d l h (fire a) z)

  -- There is one: any order is a list of calls that are all accepted, where each track is fired by a society that may.
  module _ (firer : ℕ → ℕ) (able : (t : ℕ) → t < track_count p → is_permitted p fire_right (firer t) t ≡ true) where
    pub order_done : (ts : List ℕ) (ws : List ℕ) (d : Day) (l : Ledger) → Holds terms bs k read ws d l → is_order p l ts ≡ true
        → (is_firing_order (firing_calls firer ts) (answers_from terms bs ws (firing_calls firer ts)) ≡ true)
        × ((e : Day) × Holds terms bs k read (words_from terms bs ws (firing_calls firer ts)) e (after_order p l ts))
    unfolding is_order after_order is_firing_order firing_calls words_from answers_from after
    order_done [] ws d l h o = (refl, (d, h))
    order_done (t ∷ ts) ws d l h o =
        let (may, rest) = and_holds (may_fire p l t) (is_order p (after_fire p l t) ts) o in
        let c : Call = fire (record { track = t; society = firer t }) in
        let z = fire_allowed terms p d l (record { track = t; society = firer t }) may (able t (may_fire_lem p l t may).0) in
        let g = call_holds terms bs k read ws d l h c in
        let (x, y) =
        order_done ts (call_outcome terms bs ws c).words (next_day terms p d l c) (after_fire p l t)
        (subst (Holds terms bs k read (call_outcome terms bs ws c).words (next_day terms p d l c)) (next_accepted terms p d l c z) g) rest in
        (and_both (eqb (firings_of c (call_outcome terms bs ws c).answer) 1) _ (fired_once ws d l h (record { track = t; society = firer t }) z) x, y)

    pub order_there : (ws : List ℕ) → Passes terms bs p ws
        → none_forward p (the_ledger terms bs k read ws) ≡ true → holds_no_deviation p (the_ledger terms bs k read ws) ≡ true
        → (ts : List ℕ) × (is_firing_order (firing_calls firer ts) (answers_from terms bs ws (firing_calls firer ts)) ≡ true)
        × NoneReady terms bs (words_from terms bs ws (firing_calls firer ts))
    order_there ws h f n =
        let l = the_ledger terms bs k read ws in
        let (ts, o, z) = some_order terms p ok (held_total p l) l (back ws f n h) (omega arith) in
        let (x, (d, g)) = order_done ts ws (last_day ws) l (passes_holds terms bs k read ws h) o in
        let end = words_from terms bs ws (firing_calls firer ts) in (
          ts,
          x,
          ready_told_lem end (holds_passes terms bs k read end d (after_order p l ts) g) ∙ ap (λ v. done (v ∷ [])) (ap (ready p) g.reads ∙ z),
        )
