-- The seams: the parameters over which property 3 is proved. They are what later papers may change in the rules of the calls: what calls
-- carry, who moves and by which transition, what an entry keeps of its event, whom a signal turns, when all is finished, when a call is
-- refused, what stands before the tracks' words. Plans, ledgers, scopes, entering, abandoning and firing are those of the rules.
-- Their laws are in proofs/Laws.antt. Assumes nothing.
use Rattle.std.specs.Prelude.{Bool, true, false, cond, List, [], ◌∷◌, ℕ, eqb}
use Rattle.std.proofs.Math.Option.{Option, none, some}
use Rattle.rules.specs.declared.Terms.{Terms}
use Rattle.rules.specs.Plan.{Plan, transition}
use Rattle.rules.specs.Ledger.{Entry, Configuration, Ledger}
use Rattle.rules.specs.Event.{destination_of}
use Rattle.rules.specs.Signal.{turned_track, abandoned}
use Rattle.rules.specs.Fire.{fired}

-- a call: an event, a signal or a firing, each with what it is given
pub data CallOf (E S F : Type 0) : Type 0 where
  event : E → CallOf E S F
  signal : S → CallOf E S F
  fire : F → CallOf E S F

-- whether it is an event, and how many firings it is
abbrev pub is_event : {E S F : Type 0} → CallOf E S F → Bool
is_event (event a) = true
is_event (signal a) = false
is_event (fire a) = false

abbrev pub firings_of : {E S F : Type 0} → CallOf E S F → ℕ
firings_of (event a) = 0
firings_of (signal a) = 0
firings_of (fire a) = 1

pub record Seams : Type 1 where
  -- what an event, a signal and a firing are given; the track that a firing names
  pub Event : Type 0
  pub Signal : Type 0
  pub Firing : Type 0
  pub track : Firing → ℕ
  -- the transition that a track takes, if it moves, and the ledger after the moves
  pub move : Plan → Ledger → Event → ℕ → Option ℕ
  pub moved : Plan → Ledger → Event → Ledger
  -- the entry that an event makes of a code and a deviation, and the ledger after its closings
  pub entry : Event → ℕ → ℕ → Entry
  pub closed : Plan → Ledger → Event → Ledger
  -- the change that a transition makes on an event, those of the tracks that pass a test, in track order, and the retraction of an entry
  pub Change : Type 0
  pub change : Event → ℕ → Change
  pub moves_of : Plan → (ℕ → Bool) → Ledger → Event → List Change
  pub Retraction : Type 0
  pub retraction : Entry → Retraction
  -- whom a signal turns, if forward
  pub is_turned : Plan → Signal → ℕ → Bool
  -- when finish is due, and the calls after which it is looked for
  pub is_finishing : Plan → Ledger → Bool
  pub looks_for_finish : CallOf Event Signal Firing → Bool
  -- what the ledger's leading words hold: after the begin, and after a call on the ledger
  pub Head : Type 0
  pub first_head : Plan → Head
  pub next_head : Terms → Plan → Head → Ledger → CallOf Event Signal Firing → Head
  -- the number that refuses a call, 0 where it is accepted, and the ledger after the call, a refused one too; under the terms given
  pub refusal : Terms → Plan → Head → Ledger → CallOf Event Signal Firing → ℕ
  pub next : Terms → Plan → Head → Ledger → CallOf Event Signal Firing → Ledger

-- "A code other than 0 is installed as the newest entry": the entry that `make` makes of code and deviation
module _ (make : ℕ → ℕ → Entry) where
  unfoldable pub install : ℕ → ℕ → List Entry → List Entry
  install code deviation held = cond (eqb code 0) held (make code deviation ∷ held)

  unfoldable pub installed : ℕ → ℕ → Configuration → Configuration
  installed code deviation c = record { mode = c.mode; state = c.state; held = install code deviation c.held }

  unfoldable pub installed_by : Plan → Option ℕ → Configuration → Configuration
  installed_by p none c = c
  installed_by p (some x) c = installed (transition p x).code (transition p x).deviation c

module _ (σ : Seams) where
  open σ use {Event, Signal, Firing, track, move, moved, entry, closed, Change, change, is_turned}

  abbrev pub Call : Type 0
  Call = CallOf Event Signal Firing

  -- the ledger with the movers' entries installed, and where the movers go
  abbrev pub recorded : Plan → Ledger → Event → Ledger
  recorded p l a t = installed_by (entry a) p (move p l a t) (l t)

  abbrev pub goes : Plan → Ledger → Event → ℕ → Option ℕ
  goes p l a t = destination_of p (move p l a t)

  -- the change of a move, as a list
  unfoldable pub change_of : Event → Option ℕ → List Change
  change_of a none = []
  change_of a (some x) = change a x ∷ []

  -- the ledger after a signal has turned whom it turns
  abbrev pub turned : Plan → Ledger → Signal → Ledger
  turned p l a t = cond (is_turned p a t) (turned_track (l t)) (l t)

  -- what a call does, finish apart
  abbrev pub work : Plan → Ledger → Call → Ledger
  work p l (event a) = closed p (moved p l a) a
  work p l (signal a) = abandoned p (turned p l a)
  work p l (fire a) = abandoned p (fired p l (track a))
