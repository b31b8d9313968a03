-- The states that words name for tracks to enter, what one track of the pass comes to, and who has to be asleep. Assumes nothing.
use Rattle.std.specs.Prelude.{◌≡◌, Bool, true, cond, List, [], ℕ, eqb, get_or}
use Rattle.std.proofs.Math.Option.{Option}
use Rattle.rules.specs.Names.{TrackNumber, StateNumber}
use Rattle.rules.specs.declared.Mode.TheVariants.{Forward}
use Rattle.rules.specs.Plan.{Plan, no_state, optional}
use Rattle.rules.specs.Ledger.{Configuration, Ledger, sleeping}
use Rattle.rules.specs.Opening.{wakes}

-- a word for each track: the state that it enters, 65535 for none
unfoldable pub states_of : List ℕ → TrackNumber → Option StateNumber
states_of to t = optional (get_or to t 0)

-- a track goes forward in a state, 65535 for none, or wakes in its first state, or is left as it is
unfoldable pub entered_by : StateNumber → Bool → StateNumber → Configuration → Configuration
entered_by s wakes first x =
    cond (eqb s no_state) (cond wakes (record { mode = Forward; state = first; held = [] }) x)
    (record { mode = Forward; state = s; held = x.held })

-- what wakes is asleep
abbrev pub Sleepers : Plan → (TrackNumber → Option StateNumber) → Ledger → Type 0
Sleepers p to l = (u : ℕ) → wakes p to u ≡ true → l u ≡ sleeping
