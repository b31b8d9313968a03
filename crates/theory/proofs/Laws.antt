-- The laws of the seams: all that the theory of restoration knows of its parameters. Its theorems take the seams as σ, their laws as ω, and
-- the law of calls after which finish is not looked for as υ. Assumes nothing.
use mathlib.Core.Path.{◌≡◌}
use mathlib.Core.Logic.{◌⊎◌}
use mathlib.Core.Bool.{Bool, true, false, ◌||◌}
use mathlib.Core.Option.{none, some}
use Prim.Native.Nat.{ℕ, ◌<◌}
use lib.ListN.{length}
use Rattle.rules.specs.Plan.{Plan, track_count, transition_count, no_state, transition, host, owner, replacement}
use Rattle.rules.specs.Ledger.{Ledger, is_forward, sleeping}
use Rattle.rules.specs.Scope.{has_open_scope, is_ended, is_bare, is_over}
use Rattle.rules.specs.Opening.{enter}
use Rattle.rules.specs.Event.{has_code, is_closed, closes_scope, is_replaced}
use Rattle.rules.specs.Fire.{may_fire}
use Rattle.rules.proofs.Acceptance.{Accepted}
use Rattle.theory.specs.Seams.{Seams, Call, event, signal, fire, installed, recorded, goes, change_of, work}
use Rattle.theory.proofs.Composition.{when, join}
use Rattle.theory.proofs.SoundParts.{Sound, Over}
use Rattle.rules.specs.declared.Terms.{Terms}

-- a forward track without an open scope takes a transition of its state
pub record Takes (p : Plan) (l : Ledger) (t x : ℕ) : Type 0 where
  pub forward : is_forward (l t).mode ≡ true
  pub free : has_open_scope p l t ≡ false
  pub real : x < transition_count p
  pub from : (transition p x).source ≡ (l t).state

-- a ledger settled: as the work left it, and finish not due if it is looked for; or all asleep
abbrev pub Settled : (σ : Seams) → Plan → Bool → Ledger → Ledger → Type 0
Settled σ p looked m l = ((l ≡ m) × (looked ≡ true → σ.is_finishing p m ≡ false)) ⊎ Over l

-- who gets an entry from an event has room for it
abbrev pub Spare : (σ : Seams) → Terms → Plan → Ledger → σ.Event → Type 0
Spare σ terms p l a =
    (t : ℕ) → t < track_count p → (has_code p (σ.move p l a t) || is_replaced p (σ.moved p l a) t) ≡ true → length (l t).held < terms.limit

pub record Laws (σ : Seams) : Type 0 where
  -- who moves, by what, and to where
  pub move_takes : (p : Plan) (l : Ledger) (a : σ.Event) (t x : ℕ) → σ.move p l a t ≡ some x → Takes p l t x
  pub moved_is : (p : Plan) (l : Ledger) (a : σ.Event) → σ.moved p l a ≡ enter p (goes σ p l a) (recorded σ p l a)
  -- an entry has the code and the deviation that it is made of, whatever else it keeps
  pub entry_code_lem : (a : σ.Event) (c d : ℕ) → (σ.entry a c d).code ≡ c
  pub entry_deviation_lem : (a : σ.Event) (c d : ℕ) → (σ.entry a c d).deviation ≡ d
  -- closing: a closing scope sleeps, its host's track installs the replacement, the others stay
  pub closed_asleep : (p : Plan) (l : Ledger) (a : σ.Event) (t : ℕ) → is_closed p l t ≡ true → σ.closed p l a t ≡ sleeping
  pub closed_replaced : (p : Plan) (l : Ledger) (a : σ.Event) (t : ℕ) → is_closed p l t ≡ false → closes_scope p l t ≡ true
      → σ.closed p l a t ≡ installed (σ.entry a) (replacement p (l t).state) no_state (l t)
  pub closed_kept : (p : Plan) (l : Ledger) (a : σ.Event) (t : ℕ) → is_closed p l t ≡ false → closes_scope p l t ≡ false → σ.closed p l a t ≡ l t
  -- the changes of an event are its movers', in track order
  pub moves_are : (p : Plan) (S : ℕ → Bool) (l : Ledger) (a : σ.Event)
      → σ.moves_of p S l a ≡ join (track_count p) (λ t. when (S t) (change_of σ a (σ.move p l a t)))
  -- a signal treats a track and its host's track alike
  pub turned_up : (p : Plan) → Accepted p → (a : σ.Signal) (t h : ℕ) → host p t ≡ some h → σ.is_turned p a t ≡ σ.is_turned p a (owner p h)
  -- a root that neither has ended nor is undone keeps the ledger going
  pub goes_on : (p : Plan) (l : Ledger) (t : ℕ) → t < track_count p → host p t ≡ none → (is_ended p l t || is_bare p l t) ≡ false
      → σ.is_finishing p l ≡ false
  -- an accepted call does its work and then settles; a refused call alters nothing
  pub settled : (terms : Terms) (p : Plan) (h : σ.Head) (l : Ledger) (c : Call σ) → σ.refusal terms p h l c ≡ 0
      → Settled σ p (σ.looks_for_finish c) (work σ p l c) (σ.next terms p h l c)
  pub refused : (terms : Terms) (p : Plan) (h : σ.Head) (l : Ledger) (c : Call σ) → (σ.refusal terms p h l c ≡ 0 → ⊥)
      → (σ.next terms p h l c ≡ l) × (σ.next_head terms p h l c ≡ h)
  -- what is accepted: on no over ledger; an event where there is room for its entries, a firing of a track that may be fired
  pub event_accepted : (terms : Terms) (p : Plan) (h : σ.Head) (l : Ledger) (a : σ.Event) → σ.refusal terms p h l (event a) ≡ 0
      → (is_over p l ≡ false) × Spare σ terms p l a
  pub signal_accepted : (terms : Terms) (p : Plan) (h : σ.Head) (l : Ledger) (a : σ.Signal) → σ.refusal terms p h l (signal a) ≡ 0 → is_over p l ≡ false
  pub fire_accepted : (terms : Terms) (p : Plan) (h : σ.Head) (l : Ledger) (a : σ.Firing) → σ.refusal terms p h l (fire a) ≡ 0
      → (is_over p l ≡ false) × (may_fire p l (σ.track a) ≡ true)

-- Where finish is not looked for after a call, it is not due: the one law that speaks of sound ledgers.
abbrev pub Unfinished : Seams → Type 0
Unfinished σ =
    (terms : Terms) (p : Plan) → Accepted p → (h : σ.Head) (l : Ledger) → Sound σ terms p l → (c : Call σ) → σ.refusal terms p h l c ≡ 0
    → σ.looks_for_finish c ≡ false → σ.is_finishing p (work σ p l c) ≡ false
