-- No history is without a restoring end, where one society may signal every root and each track may be fired by somebody: after its signal every
-- awake track is undoing, so either every root is withdrawn or some firing is allowed; a firing removes an entry, and a sound ledger holds at most
-- `limit` for each track. A deviation sends a root forward again, so a signal follows each firing. Assumes nothing.
use mathlib.Core.Path.{◌≡◌, refl, sym, ap, ◌∙◌, subst}
use mathlib.Core.Logic.{◌⊎◌, inl, inr}
use mathlib.Core.Bool.{true, false, ◌&&◌}
use mathlib.Core.List.{List, [], ◌∷◌, ◌++◌}
use mathlib.Core.Option.{none}
use Prim.Native.Nat.{ℕ, zero, suc, ◌*◌, ◌<◌, ◌≤◌}
use native.Mathlib.Omega.{arith}
use lib.ListN.{length}
use lib.Dec.{eqb}
use borrow.Author.Tests.{eqb-true}
use Rattle.rules.specs.declared.Counts.{Counts}
use Rattle.rules.specs.Names.{Day}
use Rattle.rules.specs.declared.Terms.{Terms}
use Rattle.rules.specs.Fold.{some_below}
use Rattle.rules.specs.Plan.{Plan, track_count, plan_of, optional, host, owner, is_final}
use Rattle.rules.specs.Acceptance.{accepted, read_plan}
use Rattle.rules.specs.Rights.{signal_right, is_permitted}
use Rattle.rules.specs.Ledger.{Configuration, Ledger, is_forward, is_undoing, is_empty, ledger_at}
use Rattle.rules.specs.Scope.{has_open_scope, is_ended, is_over}
use Rattle.rules.specs.Finish.{is_finishing}
use Rattle.rules.specs.Signal.{turned, abandoned, after_signal}
use Rattle.rules.specs.Fire.{newest, may_fire, deviates_to, fired, after_fire}
use Rattle.rules.specs.Call.{Answer, refusal, done, SignalArguments, FireArguments, Call, signal, fire, after, call_refusal, next, next_day, call_outcome, begin_outcome}
use Rattle.rules.specs.Transcript.{held_total, firings_of, firings_in}
use Rattle.rules.specs.Books.{Books}
use Rattle.rules.specs.ReferenceRun.{words_from, words_after, answers_from, books_after, ledger_after, AllWithdrawn}
use Rattle.rules.proofs.Tests.{look, look_option, clash, refuted, strong}
use Rattle.rules.proofs.Modes.{forward_awake, awake_undoing, undoing_is}
use Rattle.rules.proofs.Folds.{some_find, some_not}
use Rattle.rules.proofs.Acceptance.{Accepted, accepts}
use Rattle.rules.proofs.Scopes.{root_none}
use Rattle.rules.proofs.Finishing.{none_ended, finish_not}
use Rattle.rules.proofs.RightsLaws.{permitted_up, permitted_somewhere}
use Rattle.rules.proofs.Ready.{may_fire_lem}
use Rattle.theory.specs.Seams as seam
use Rattle.theory.proofs.Nesting.{Nested}
use Rattle.theory.proofs.Entries.{Good, empty_nil}
use Rattle.theory.proofs.FiringNested.{removed_mode, deviates_not, fired_still}
use Rattle.theory.proofs.SoundRetraction.{fired_awake, fired_root}
use Rattle.theory.proofs.SoundBegin.{root_zero}
use Rattle.theory.proofs.SoundKept.{sound_not_over, kept_sound}
use Rattle.theory.proofs.Progress.{some_firing}
use Rattle.theory.proofs.FiringsFall.{call_fewer, most_held}
use Rattle.restoration.specs.Continuation.{MayWithdraw, withdrawing}
use Rattle.restoration.proofs.Document01.{next_accepted, laws01}
use Rattle.restoration.proofs.Theorems01.{Sound, signal_sound, signal_forward, signal_unended, fire_sound}
use Rattle.restoration.proofs.Endings.{deviated_unended}
use Rattle.restoration.proofs.SoundWords.{Holds, call_holds}
use Rattle.restoration.proofs.Restoration.{history_holds, restored}
use Rattle.restoration.proofs.Allowed.{signal_allowed, fire_allowed, fire_done}

-- The ledger after a signal, and after a firing.
module _ (terms : Terms) (p : Plan) (ok : Accepted p) (signaller : ℕ) (firer : ℕ → ℕ) (able : MayWithdraw p signaller firer) (d : Day) (l : Ledger) (s : Sound terms p l) where
  abbrev a : SignalArguments
  a = record { society = signaller }

  abbrev at : ℕ → FireArguments
  at t = record { track = t; society = firer t }

  signal_taken : call_refusal terms p d l (signal a) ≡ 0
  signal_taken =
      signal_allowed terms p d l a (sound_not_over terms p ok l s)
      (permitted_somewhere p signal_right signaller 0 (able.signals 0 ok.some_track (root_zero p ok)))

  unended : is_finishing p (abandoned p (turned p signaller l)) ≡ false
  unended = signal_unended p ok a l able.signals

  signalled : next terms p d l (signal a) ≡ abandoned p (turned p signaller l)
  unfolding after after_signal
  signalled = next_accepted terms p d l (signal a) signal_taken ∙ finish_not p (abandoned p (turned p signaller l)) unended

  signalled_sound : Sound terms p (next terms p d l (signal a))
  signalled_sound = subst (Sound terms p) (sym signalled) (signal_sound terms p ok l s a unended)

  signalled_fewer : held_total p (next terms p d l (signal a)) ≤ held_total p l
  signalled_fewer = let i = call_fewer laws01 terms p ok d l (seam.signal a) signal_taken refl in omega arith

  -- the society may turn every track, as it may their roots
  turns_all : (t : ℕ) → t < track_count p → is_permitted p signal_right signaller t ≡ true
  turns_all =
      strong (λ t. t < track_count p → is_permitted p signal_right signaller t ≡ true)
      (λ t ih b.
      elim (look_option (host p t)) [
        | inl e ↦ able.signals t b e
        | inr e ↦
            let (h, q) = e in
            let i = ok.lower t h q in
            permitted_up p ok signal_right signaller t h q ∙ ih (owner p h) i (omega arith)
      ])

  -- no track is forward
  none_forward_lem : (t : ℕ) → is_forward (next terms p d l (signal a) t).mode ≡ false
  none_forward_lem t =
      refuted (is_forward (next terms p d l (signal a) t).mode)
      (λ f.
      let g : is_forward (abandoned p (turned p signaller l) t).mode ≡ true = ap (λ (m : Ledger). is_forward (m t).mode) (sym signalled) ∙ f in
      let b = signalled_sound.formed.nested.below t (forward_awake (next terms p d l (signal a) t).mode f) in
      clash (turns_all t b) (signal_forward p ok a l t g).0)

  module _ (t : ℕ) (may : may_fire p l t ≡ true) where
    -- where no track is forward a firing ends no root: the fired one alone may go forward, in a state that is not final
    fired_unended : ((u : ℕ) → is_forward (l u).mode ≡ false) → is_finishing p (abandoned p (fired p l t)) ≡ false
    fired_unended unforward =
        none_ended p (abandoned p (fired p l t))
        (λ u b e.
        elim (look (eqb u t)) [
          | inr k ↦ stays u b e (unfold deviates_to in rw k)
          | inl k ↦
              elim (look_option (optional (newest (l t).held).deviation)) [
                | inl v ↦ stays u b e (deviates_not p l t v u)
                | inr v ↦
                    subst (λ x. is_ended p (abandoned p (fired p l t)) x ≡ false) (sym (eqb-true u t k)) (deviated_unended terms p ok l s t may v.0 v.1)
              ]
        ])
      where
        n : Nested p l
        n = s.formed.nested

        good : Good p t (l t).held
        good = s.formed.good t

        stays : (u : ℕ) → u < track_count p → host p u ≡ none → deviates_to l t u ≡ none → is_ended p (abandoned p (fired p l t)) u ≡ false
        stays u b e v =
            let q = fired_still p l t ok n good (may_fire_lem p l t may).3 (fired_awake laws01 terms p ok l s t may) u (s.roots u b e) v in
            let m : (abandoned p (fired p l t) u).mode ≡ (l u).mode =
            ap (λ (c : Configuration). c.mode) (fired_root laws01 terms p ok l s t may u e ∙ q) ∙ removed_mode p l t u in
            ap (λ x. is_forward x && is_final p (abandoned p (fired p l t) u).state) m
            ∙ ap (λ x. x && is_final p (abandoned p (fired p l t) u).state) (unforward u)

    fire_taken : call_refusal terms p d l (fire (at t)) ≡ 0
    fire_taken = fire_allowed terms p d l (at t) may (able.fires t (may_fire_lem p l t may).0)

    fired_so : ((u : ℕ) → is_forward (l u).mode ≡ false) → next terms p d l (fire (at t)) ≡ abandoned p (fired p l t)
    unfolding after after_fire
    fired_so still =
        next_accepted terms p d l (fire (at t)) fire_taken
        ∙ finish_not p (abandoned p (fired p l t)) (fired_unended still)

    fired_sound : ((u : ℕ) → is_forward (l u).mode ≡ false) → Sound terms p (next terms p d l (fire (at t)))
    fired_sound still = subst (Sound terms p) (sym (fired_so still)) (fire_sound terms p ok l s t may (fired_unended still))

    fired_fewer : held_total p (next terms p d l (fire (at t))) < held_total p l
    fired_fewer = let i = call_fewer laws01 terms p ok d l (seam.fire (at t)) fire_taken refl in omega arith

  -- a sound ledger without a forward track where no firing is allowed is withdrawn
  withdrawn : ((t : ℕ) → is_forward (l t).mode ≡ false) → ((t : ℕ) → t < track_count p → may_fire p l t ≡ false) → AllWithdrawn p l
  withdrawn f n t b r =
      let u : is_undoing (l t).mode ≡ true = awake_undoing (l t).mode (s.roots t b (root_none p t r)) (f t) in
      record {
        undoing = undoing_is (l t).mode u;
        empty = elim (look (is_empty (l t).held)) [ inl e ↦ empty_nil (l t).held e | inr e ↦ no_firing (some_firing terms p ok l s t u (inl e)) ];
        shut = elim (look (has_open_scope p l t)) [ inr o ↦ o | inl o ↦ no_firing (some_firing terms p ok l s t u (inr o)) ];
      }
    where
      no_firing : {A : Type 0} → (u : ℕ) × (may_fire p l u ≡ true) → A
      no_firing h = clash h.1 (n h.0 (may_fire_lem p l h.0 h.1).0)

module _ (terms : Terms) (bs : List ℕ) (k : Counts) (read : read_plan bs ≡ accepted k) where
  abbrev p : Plan
  p = plan_of bs k

  abbrev ok : Accepted p
  ok = accepts bs k read

  pub words_append : (cs ds : List Call) (ws : List ℕ) → words_from terms bs ws (cs ++ ds) ≡ words_from terms bs (words_from terms bs ws cs) ds
  unfolding words_from
  words_append [] ds ws = refl
  words_append (c ∷ cs) ds ws = words_append cs ds (call_outcome terms bs ws c).words

  module _ (signaller : ℕ) (firer : ℕ → ℕ) (able : MayWithdraw p signaller firer) where
    abbrev S : Call
    S = signal (record { society = signaller })

    abbrev F : ℕ → Call
    F t = fire (record { track = t; society = firer t })

    abbrev way : List ℕ → List Call
    way ts = withdrawing signaller firer ts

    -- a signal withdraws every root, or a firing is allowed after it
    step : (ws : List ℕ) (d : Day) (l : Ledger) → Holds terms bs k read ws d l → Sound terms p l
        → AllWithdrawn p (ledger_at terms (call_outcome terms bs ws S).words (track_count p))
        ⊎ ((t : ℕ) × (e : Day) × (m : Ledger)
        × Holds terms bs k read (call_outcome terms bs (call_outcome terms bs ws S).words (F t)).words e m
        × Sound terms p m × (held_total p m < held_total p l)
        × (firings_of (F t) (call_outcome terms bs (call_outcome terms bs ws S).words (F t)).answer ≡ 1))
    unfolding firings_of
    step ws d l h s =
        let e = next_day terms p d l S in
        let m = next terms p d l S in
        let ws' = (call_outcome terms bs ws S).words in
        let g = call_holds terms bs k read ws d l h S in
        let v = signalled_sound terms p ok signaller firer able d l s in
        elim (look (some_below (track_count p) (may_fire p m))) [
          | inr f ↦
              inl
              (subst (AllWithdrawn p) (sym g.reads)
              (withdrawn terms p ok signaller firer able e m v (none_forward_lem terms p ok signaller firer able d l s) (some_not (track_count p) (may_fire p m) f)))
          | inl f ↦
              let (t, c, may) = some_find (track_count p) (may_fire p m) f in
              let x = signalled_fewer terms p ok signaller firer able d l s in
              let y = fired_fewer terms p ok signaller firer able e m v t may in
              inr (
                t,
                next_day terms p e m (F t),
                next terms p e m (F t),
                call_holds terms bs k read ws' e m g (F t),
                fired_sound terms p ok signaller firer able e m v t may (none_forward_lem terms p ok signaller firer able d l s),
                omega arith,
                rw (fire_done terms bs k read ws' e m g t may (firer t) (able.fires t c)),
              )
        ]

    -- the firings that a list does on words
    abbrev done_from : List ℕ → List Call → ℕ
    done_from ws cs = firings_in cs (answers_from terms bs ws cs)

    signal_fires_none : (r : Answer) → firings_of S r ≡ 0
    unfolding firings_of
    signal_fires_none (refusal n) = refl
    signal_fires_none (done fs) = refl

    -- from sound words, with at most as many firings as entries are held, each of them done
    onward : (n : ℕ) (ws : List ℕ) (d : Day) (l : Ledger) → Holds terms bs k read ws d l → Sound terms p l → held_total p l ≤ n
        → (ts : List ℕ) × (length ts ≤ n) × (done_from ws (way ts) ≡ length ts)
        × AllWithdrawn p (ledger_at terms (words_from terms bs ws (way ts)) (track_count p))
    unfolding words_from answers_from firings_in withdrawing
    onward zero ws d l h s b =
        let z = signal_fires_none (call_outcome terms bs ws S).answer in
        elim (step ws d l h s) [ inl w ↦ ([], omega arith, omega arith, w) | inr r ↦ let f = r.5 in absurd (omega arith) ]
    onward (suc n) ws d l h s b =
        let z = signal_fires_none (call_outcome terms bs ws S).answer in
        elim (step ws d l h s) [
          | inl w ↦ ([], omega arith, omega arith, w)
          | inr r ↦
              let f = r.5 in
              let g = r.6 in
              let (ts, c, x, w) = onward n _ r.1 r.2 r.3 r.4 (omega arith) in
              (r.0 ∷ ts, omega arith, omega arith, w)
        ]

    -- Every list that does not end over can be continued by signals and at most `limit` firings for each track, all of them done, until every
    -- root is withdrawn,
    pub withdrawable : (lent : List ℕ) (cs : List Call) → (begin_outcome terms bs lent).answer ≡ done [] → is_over p (ledger_after terms bs p lent cs) ≡ false
        → (ts : List ℕ) × (length ts ≤ terms.limit * track_count p)
        × (firings_in (way ts) (answers_from terms bs (words_after terms bs lent cs) (way ts)) ≡ length ts)
        × AllWithdrawn p (ledger_after terms bs p lent (cs ++ way ts))
    unfolding ledger_after words_after
    withdrawable lent cs h o =
        let l = ledger_after terms bs p lent cs in
        let g = history_holds terms bs k read lent cs h in
        let (ts, b, d, w) =
        onward (terms.limit * track_count p) (words_after terms bs lent cs) _ l g (kept_sound terms p l g.kept o) (most_held laws01 terms p ok l g.kept) in
        (ts, b, d, subst (λ ws. AllWithdrawn p (ledger_at terms ws (track_count p))) (sym (words_append cs (way ts) (begin_outcome terms bs lent).words)) w)

    -- and then all books stand as at the begin.
    pub restorable : (lent : List ℕ) (cs : List Call) → (begin_outcome terms bs lent).answer ≡ done [] → is_over p (ledger_after terms bs p lent cs) ≡ false
        → (ts : List ℕ) × (length ts ≤ terms.limit * track_count p) × ((b : Books p terms) (x : b.State) → books_after terms bs p b lent (cs ++ way ts) x ≡ x)
    restorable lent cs h o =
        let (ts, n, d, w) = withdrawable lent cs h o in
        (ts, n, λ b x. restored terms bs k read b lent (cs ++ way ts) h x w)
