-- A ledger without a forward track and without a deviation held: an event and a signal change none of its tracks, and a firing removes one entry and no
-- more. For no entry leads forward, what abandoning sends to sleep holds nothing, and nothing finishes, as no root has ended. As long as an entry is held
-- some firing is allowed. So every order of firings ends, after as many as entries are held. Assumes nothing.
use mathlib.Core.Path.{◌≡◌, refl, sym, ap, ◌∙◌, subst, fun_ext}
use mathlib.Core.Logic.{inl, inr}
use mathlib.Core.Bool.{true, false, not}
use mathlib.Core.List.{List, [], ◌∷◌, ◌++◌}
use mathlib.Core.Option.{none}
use Prim.Native.Nat.{ℕ, zero, suc, ◌+◌, ◌≤◌}
use native.Mathlib.Omega.{arith}
use lib.ListN.{length}
use Rattle.rules.specs.Fold.{some_below}
use Rattle.rules.specs.Plan.{Plan, track_count}
use Rattle.rules.specs.Ledger.{Configuration, Ledger, is_awake, is_forward, is_empty}
use Rattle.rules.specs.Finish.{is_finishing, finished}
use Rattle.rules.specs.Event.{EventArguments, move, moved, closed, after_event}
use Rattle.rules.specs.Signal.{turned, abandoned, after_signal}
use Rattle.rules.specs.Fire.{may_fire, removed, fired, ready, after_fire}
use Rattle.rules.specs.Call.{SignalArguments}
use Rattle.rules.specs.Transcript.{held_total}
use Rattle.rules.specs.FiringsDue.{is_plain, holds_no_deviation, none_forward, turns_every, is_order, after_order, FiresExactly}
use Rattle.rules.proofs.Tests.{look, clash, refuted, and_holds}
use Rattle.rules.proofs.Modes.{awake_undoing, forward_awake, undoing_is}
use Rattle.rules.proofs.Folds.{every_of, some_find, some_not, sum_same, sum_none}
use Rattle.rules.proofs.Acceptance.{Accepted}
use Rattle.rules.proofs.Moves.{move_idle}
use Rattle.rules.proofs.Opening.{enter_none}
use Rattle.rules.proofs.Closing.{closed_steady}
use Rattle.rules.proofs.Abandoning.{awake_kept}
use Rattle.rules.proofs.Finishing.{finish_not}
use Rattle.rules.proofs.Ready.{may_fire_lem, fireable_not_over, none_ready, ready_none}
use Rattle.theory.proofs.Entries.{empty_nil}
use Rattle.theory.proofs.FiringNested.{removed_mode}
use Rattle.theory.proofs.FiringsFall.{abandoned_held, abandoned_total, removed_one}
use Rattle.theory.proofs.SoundKept.{kept_sound}
use Rattle.theory.proofs.Histories.{kept_progress}
use Rattle.restoration.proofs.Document01.{laws01, unfinished01}
use Rattle.restoration.proofs.Theorems01.{Sound, Kept, asleep_nothing, by_none, to_none, recorded, goes, moved_is, turned_held, turned_same, steady, signal_sound, fire_sound}
use Rattle.restoration.proofs.Plain.{plain_removed, fired_plain}
use Rattle.rules.specs.declared.Terms.{Terms}
use Rattle.restoration.proofs.Withdrawing.{unended, none_held, Withdrawing, all_backward, all_plain, turned_back_lem}

module _ (terms : Terms) (p : Plan) (ok : Accepted p) where
  pub withdrawing : (l : Ledger) → Kept terms p l → none_forward p l ≡ true → holds_no_deviation p l ≡ true → Withdrawing terms p ok l
  withdrawing l k f d = record { kept = k; backward = all_backward terms p ok l k f; plain = all_plain terms p ok l k d }

  pub withdrawing_is : (l : Ledger) → Withdrawing terms p ok l → (none_forward p l ≡ true) × (holds_no_deviation p l ≡ true)
  unfolding none_forward holds_no_deviation
  withdrawing_is l w = (
    every_of (track_count p) (λ t. not (is_forward (l t).mode)) (λ t b. rw (w.backward t)),
    every_of (track_count p) (λ t. is_plain (l t).held) (λ t b. w.plain t),
  )

  module _ (l : Ledger) (w : Withdrawing terms p ok l) where
    -- as long as an entry is held some firing is allowed
    pub goes_on : (t : ℕ) → is_empty (l t).held ≡ false → (u : ℕ) × (may_fire p l u ≡ true)
    unfolding is_empty
    goes_on t e =
        elim (look (is_awake (l t).mode)) [
          | inr a ↦ clash (ap is_empty (asleep_nothing terms p l w.kept t a)) e
          | inl a ↦
              kept_progress laws01 unfinished01 terms p ok l w.kept t
              (undoing_is (l t).mode (awake_undoing (l t).mode a (w.backward t))) e
        ]

    pub all_fired : ((t : ℕ) → may_fire p l t ≡ false) → held_total p l ≡ 0
    unfolding held_total
    all_fired n =
        sum_none (track_count p) (λ t. length (l t).held)
        (λ t b.
        elim (look (is_empty (l t).held)) [
          | inl e ↦ rw (empty_nil (l t).held e)
          | inr e ↦ let (u, m) = goes_on t e in clash m (n u)
        ])

    -- no event and no signal changes a track
    module _ (s : Sound terms p l) where
      pub event_still : (a : EventArguments) → after_event p l a ≡ l
      unfolding after_event
      event_still a =
          let idle : (t : ℕ) → move p l a t ≡ none = λ t. move_idle p l a t (w.backward t) in
          let same : moved p l a ≡ l =
          moved_is p l a ∙ enter_none p ok (goes p l a) (recorded p l a) (λ t. to_none p (move p l a t) (idle t))
          ∙ fun_ext (λ t. by_none p (move p l a t) (l t) (idle t)) in
          ap (λ m. finished p (closed p m)) same ∙ ap (finished p) (closed_steady p l s.closing) ∙ finish_not p l s.finish

      pub signal_still : (society : ℕ) → after_signal p l society ≡ l
      unfolding after_signal
      signal_still society =
          ap (λ m. finished p (abandoned p m)) (turned_same p ok (record { society = society }) l (λ t y. w.backward t))
          ∙ ap (finished p) (steady terms p ok l s) ∙ finish_not p l s.finish

    -- a firing removes an entry
    module _ (t : ℕ) (may : may_fire p l t ≡ true) where
      s : Sound terms p l
      s = kept_sound terms p l w.kept (fireable_not_over p l t may)

      taken_off : fired p l t ≡ removed l t
      taken_off = fired_plain p l t ok (w.plain t)

      unforward : (u : ℕ) → is_forward (abandoned p (removed l t) u).mode ≡ false
      unforward u =
          refuted (is_forward (abandoned p (removed l t) u).mode)
          (λ f.
          let q = (awake_kept p ok (removed l t) u (forward_awake (abandoned p (removed l t) u).mode f)).1 in
          clash (sym (ap is_forward (ap (λ (c : Configuration). c.mode) q ∙ removed_mode p l t u)) ∙ f) (w.backward u))

      fires_so : after_fire p l t ≡ abandoned p (removed l t)
      unfolding after_fire
      fires_so = ap (λ m. finished p (abandoned p m)) taken_off ∙ finish_not p (abandoned p (removed l t)) (unended p (abandoned p (removed l t)) unforward)

      pub fired_withdrawing : Withdrawing terms p ok (after_fire p l t)
      fired_withdrawing =
          subst (Withdrawing terms p ok) (sym fires_so)
          (record {
            kept = inr (subst (λ m. is_finishing p (abandoned p m) ≡ false → Sound terms p (abandoned p m)) taken_off (fire_sound terms p ok l s t may) (unended p (abandoned p (removed l t)) unforward));
            backward = unforward;
            plain = λ u. rw (abandoned_held p ok (removed l t) u) (plain_removed p l t u (w.plain u));
          })

      pub fired_one : suc (held_total p (after_fire p l t)) ≡ held_total p l
      fired_one =
          let (b, u, e, f) = may_fire_lem p l t may in
          ap (λ m. suc (held_total p m)) fires_so ∙ ap suc (abandoned_total p ok (removed l t)) ∙ removed_one p ok l t b e

  -- A signal that turns every forward track leaves such a ledger, with every entry
  module _ (l : Ledger) (s : Sound terms p l) (a : SignalArguments) (all : turns_every p a.society l ≡ true) where
    abbrev S : Ledger
    S = abandoned p (turned p a.society l)

    signals_so : after_signal p l a.society ≡ S
    unfolding after_signal
    signals_so = finish_not p S (unended p S (turned_back_lem terms p ok l s a all))

    pub signalled_sound : Sound terms p (after_signal p l a.society)
    signalled_sound = subst (Sound terms p) (sym signals_so) (signal_sound terms p ok l s a (unended p S (turned_back_lem terms p ok l s a all)))

    pub signalled_withdrawing : holds_no_deviation p l ≡ true → Withdrawing terms p ok (after_signal p l a.society)
    signalled_withdrawing d =
        record {
          kept = inr signalled_sound;
          backward = λ t. rw signals_so (turned_back_lem terms p ok l s a all t);
          plain = λ t. rw (signals_so, abandoned_held p ok (turned p a.society l) t, turned_held p ok a l t) (all_plain terms p ok l (inr s) d t);
        }

    pub signalled_held : held_total p (after_signal p l a.society) ≡ held_total p l
    unfolding held_total
    signalled_held =
        ap (held_total p) signals_so ∙ abandoned_total p ok (turned p a.society l)
        ∙ sum_same (track_count p) (λ t. length (turned p a.society l t).held) (λ t. length (l t).held) (λ t b. ap length (turned_held p ok a l t))

  -- Orders of firings.
  pub order_due : (ts : List ℕ) (l : Ledger) → Withdrawing terms p ok l → is_order p l ts ≡ true
      → Withdrawing terms p ok (after_order p l ts) × (length ts + held_total p (after_order p l ts) ≡ held_total p l)
  unfolding is_order after_order
  order_due [] l w o = (w, omega arith)
  order_due (t ∷ ts) l w o =
      let (may, rest) = and_holds (may_fire p l t) (is_order p (after_fire p l t) ts) o in
      let (v, n) = order_due ts (after_fire p l t) (fired_withdrawing l w t may) rest in
      (v, omega (arith, n, fired_one l w t may))

  order_more : (ts us : List ℕ) (l : Ledger) → is_order p l ts ≡ true → is_order p l (ts ++ us) ≡ is_order p (after_order p l ts) us
  unfolding is_order after_order
  order_more [] us l o = refl
  order_more (t ∷ ts) us l o =
      let (may, rest) = and_holds (may_fire p l t) (is_order p (after_fire p l t) ts) o in rw may (order_more ts us (after_fire p l t) rest)

  after_more : (ts us : List ℕ) (l : Ledger) → after_order p l (ts ++ us) ≡ after_order p (after_order p l ts) us
  unfolding after_order
  after_more [] us l = refl
  after_more (t ∷ ts) us l = after_more ts us (after_fire p l t)

  -- there is one that goes on until ready is 0
  pub some_order : (n : ℕ) (l : Ledger) → Withdrawing terms p ok l → held_total p l ≤ n → (ts : List ℕ) × (is_order p l ts ≡ true) × (ready p (after_order p l ts) ≡ 0)
  unfolding is_order after_order
  some_order zero l w b = ([], refl, none_ready p l (λ t c. none_held p l (omega arith) t))
  some_order (suc n) l w b =
      elim (look (some_below (track_count p) (may_fire p l))) [
        | inr f ↦ ([], refl, none_ready p l (some_not (track_count p) (may_fire p l) f))
        | inl f ↦
            let (t, c, may) = some_find (track_count p) (may_fire p l) f in
            let (ts, o, z) = some_order n (after_fire p l t) (fired_withdrawing l w t may) (omega (arith, b, fired_one l w t may)) in
            (t ∷ ts, rw (may, o), z)
      ]

  -- The claim, of every ledger that is sound or over, has no forward track and holds no deviation
  pub fires_exactly : (l : Ledger) → Kept terms p l → none_forward p l ≡ true → holds_no_deviation p l ≡ true → FiresExactly p l
  fires_exactly l k f d =
      let due : (ts : List ℕ) → is_order p l ts ≡ true → Withdrawing terms p ok (after_order p l ts) × (length ts + held_total p (after_order p l ts) ≡ held_total p l) =
      λ ts o. order_due ts l (withdrawing l k f d) o in
      record {
        exactly = λ ts o z.
            let (v, n) = due ts o in omega (arith, n, all_fired (after_order p l ts) v (ready_none p (after_order p l ts) z));
        still_due = λ ts o. (due ts o).1;
        none_due = λ ts o e.
            let (v, n) = due ts o in none_ready p (after_order p l ts) (λ t b. none_held p (after_order p l ts) (omega (arith, n, e)) t);
        goes_on = λ ts o.
            let (v, n) = due ts o in
            let (us, i, z) = some_order (held_total p (after_order p l ts)) (after_order p l ts) v (omega arith) in
            (us, order_more ts us l o ∙ i, ap (ready p) (after_more ts us l) ∙ z);
      }
