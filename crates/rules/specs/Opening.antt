-- Entering a state, and with it the opening of scopes (the report's init and goto). Assumes nothing.
use Rattle.std.specs.Prelude.{Bool, cond, ◌&&◌, [], eqb, ltb}
use Rattle.std.proofs.Math.Option.{Option, none, some}
use Rattle.rules.specs.Names.{TrackNumber, StateNumber}
use Rattle.rules.specs.declared.Mode.TheVariants.{Forward}
use Rattle.rules.specs.Plan.{Plan, track_count, owner, is_root, first_state, climb}
use Rattle.rules.specs.Ledger.{Configuration, Ledger, sleeping}

-- a track in h wakes, given the first state of its host's track, the state that this enters, if it enters one, and whether it wakes
unfoldable pub wakes_in : StateNumber → Option StateNumber → StateNumber → Bool → Bool
wakes_in start none h r = r && eqb h start
wakes_in start (some s) h r = eqb h s

-- a track's configuration before, or fresh if it wakes, or forward in the state that it enters
unfoldable pub entered : Configuration → Configuration → Option StateNumber → Bool → Configuration
entered old new none w = cond w new old
entered old new (some s) w = record { mode = Forward; state = s; held = old.held }

module _ (p : Plan) where
  -- a track that wakes: forward in its first state, holding nothing
  unfoldable pub fresh : TrackNumber → Configuration
  fresh t = record { mode = Forward; state = first_state p t; held = [] }

  -- `to` gives each track that enters a state that state.
  -- "Entering a hosting state opens its scope: its tracks wake in the same way, their first states' scopes with them": a track wakes if
  -- its host is the state that its host's track enters, or the first state of its host's track, which wakes itself
  unfoldable pub wakes : (TrackNumber → Option StateNumber) → TrackNumber → Bool
  wakes to = climb p (λ t h r. wakes_in (first_state p (owner p h)) (to (owner p h)) h r)

  -- the ledger after the tracks enter those states, what they hold left as it is
  unfoldable pub enter : (TrackNumber → Option StateNumber) → Ledger → Ledger
  enter to l t = entered (l t) (fresh t) (to t) (wakes to t)

  -- "Begin overwrites the ledger: roots forward in their first states and holding nothing, others asleep."
  unfoldable pub roots_first : TrackNumber → Option StateNumber
  roots_first t = cond (ltb t (track_count p) && is_root p t) (some (first_state p t)) none

  unfoldable pub begun : Ledger
  begun = enter roots_first (λ t. sleeping)
