-- A ledger without a forward track and without a deviation held, told by the two tests; and that a signal which turns every forward track leaves no track
-- forward. What firings do to such a ledger is in FiringOrders. Assumes nothing.
use mathlib.Core.Path.{◌≡◌, sym, ap, ◌∙◌}
use mathlib.Core.Logic.{inl, inr}
use mathlib.Core.Bool.{true, false, not, ◌&&◌, ◌||◌}
use Prim.Native.Nat.{ℕ}
use native.Mathlib.Omega.{arith}
use lib.ListN.{length}
use lib.Dec.{ltb}
use borrow.Author.Tests.{ltb-true, ltb-false, not-true}
use Rattle.rules.specs.Plan.{Plan, track_count, is_final}
use Rattle.rules.specs.Rights.{signal_right, is_permitted}
use Rattle.rules.specs.Ledger.{Configuration, Ledger, is_awake, is_forward, sleeping}
use Rattle.rules.specs.Finish.{is_finishing}
use Rattle.rules.specs.Signal.{turned, abandoned}
use Rattle.rules.specs.Fire.{may_fire}
use Rattle.rules.specs.Call.{SignalArguments}
use Rattle.rules.specs.Transcript.{held_total}
use Rattle.rules.specs.FiringsDue.{is_plain, holds_no_deviation, none_forward, turns_every}
use Rattle.rules.proofs.Tests.{look, clash, refuted, implies}
use Rattle.rules.proofs.Modes.{forward_awake}
use Rattle.rules.proofs.Folds.{every_at, sum_at}
use Rattle.rules.proofs.Acceptance.{Accepted}
use Rattle.rules.proofs.Finishing.{none_ended}
use Rattle.rules.proofs.Ready.{may_fire_lem}
use Rattle.theory.proofs.Entries.{older_less}
use Rattle.restoration.proofs.Theorems01.{Sound, Kept, sleeping_asleep, sleeping_held, signal_forward}
use Rattle.restoration.proofs.SoundLive.{kept_storable}
use Rattle.restoration.proofs.Plain.{plain_none}
use Rattle.rules.specs.declared.Terms.{Terms}

-- without a forward track nothing finishes
pub unended : (p : Plan) (l : Ledger) → ((t : ℕ) → is_forward (l t).mode ≡ false) → is_finishing p l ≡ false
unended p l f = none_ended p l (λ t b e. ap (λ x. x && is_final p (l t).state) (f t))

-- where no entry is held no track may be fired
pub none_held : (p : Plan) (l : Ledger) → held_total p l ≡ 0 → (t : ℕ) → may_fire p l t ≡ false
unfolding held_total
none_held p l z t =
    refuted (may_fire p l t)
    (λ m.
    let (b, u, e, f) = may_fire_lem p l t m in
    omega (arith, z, sum_at (track_count p) (λ t. length (l t).held) t b, older_less (l t).held e))

module _ (terms : Terms) (p : Plan) (ok : Accepted p) where
  pub record Withdrawing (l : Ledger) : Type 0 where
    pub kept : Kept terms p l
    pub backward : (t : ℕ) → is_forward (l t).mode ≡ false
    pub plain : (t : ℕ) → is_plain (l t).held ≡ true

  -- by the two tests, and back: a number that is no track's sleeps
  beyond : (l : Ledger) → Kept terms p l → (t : ℕ) → ltb t (track_count p) ≡ false → l t ≡ sleeping
  beyond l k t b = (kept_storable terms p ok l k).beyond t (ltb-false t (track_count p) b)

  pub all_backward : (l : Ledger) → Kept terms p l → none_forward p l ≡ true → (t : ℕ) → is_forward (l t).mode ≡ false
  unfolding none_forward
  all_backward l k f t =
      elim (look (ltb t (track_count p))) [
        | inl b ↦ not-true (is_forward (l t).mode) (every_at (track_count p) (λ t. not (is_forward (l t).mode)) f t (ltb-true t (track_count p) b))
        | inr b ↦
            refuted (is_forward (l t).mode)
            (λ w. clash (forward_awake (l t).mode w) (ap (λ (c : Configuration). is_awake c.mode) (beyond l k t b) ∙ sleeping_asleep))
      ]

  pub all_plain : (l : Ledger) → Kept terms p l → holds_no_deviation p l ≡ true → (t : ℕ) → is_plain (l t).held ≡ true
  unfolding holds_no_deviation
  all_plain l k d t =
      elim (look (ltb t (track_count p))) [
        | inl b ↦ every_at (track_count p) (λ t. is_plain (l t).held) d t (ltb-true t (track_count p) b)
        | inr b ↦ rw (beyond l k t b, sleeping_held) plain_none
      ]

  -- a signal that turns every forward track leaves none
  module _ (l : Ledger) (s : Sound terms p l) (a : SignalArguments) (all : turns_every p a.society l ≡ true) where
    abbrev S : Ledger
    S = abandoned p (turned p a.society l)

    pub turned_back_lem : (t : ℕ) → is_forward (S t).mode ≡ false
    unfolding turns_every
    turned_back_lem t =
        refuted (is_forward (S t).mode)
        (λ f.
        let (k, q) = signal_forward p ok a l t f in
        let g : is_forward (l t).mode ≡ true = ap (λ (c : Configuration). is_forward c.mode) (sym q) ∙ f in
        let b = s.formed.nested.below t (forward_awake (l t).mode g) in
        clash
        (implies (is_forward (l t).mode) (is_permitted p signal_right a.society t)
        (every_at (track_count p) (λ t. not (is_forward (l t).mode) || is_permitted p signal_right a.society t) all t b) g)
        k)
