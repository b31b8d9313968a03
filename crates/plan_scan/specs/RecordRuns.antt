-- Records of one kind, one after the other, and bytes that are a run of each kind with the end record after them. Assumes nothing.
use Rattle.std.specs.Prelude.{◌≡◌, ℕ, ◌+◌, ◌*◌, ◌<◌, ◌≤◌, length}
use Rattle.rules.specs.Names.{Bytes, Place, Kind}
use Rattle.rules.specs.declared.Counts.{Counts}
use Rattle.rules.specs.Record.{size_at, kind_at, length_of, track_kind, state_kind, transition_kind, window_kind, grant_kind, end_kind}

-- a record of a kind stands whole at a place
pub record Whole (bs : Bytes) (kind : Kind) (at : Place) : Type 0 where
  pub long : size_at bs at ≡ length_of kind
  pub sort : kind_at bs at ≡ kind
  pub fits : at + length_of kind ≤ length bs

-- from a place on, so many of them
unfoldable pub Run : Bytes → Kind → Place → ℕ → Type 0
Run bs kind at n = (i : ℕ) → i < n → Whole bs kind (at + length_of kind * i)

-- so many tracks, then states, then transitions, then windows, then grants at the front, within the limits
pub record InRuns (bs : Bytes) (c : Counts) : Type 0 where
  pub tracks : c.tracks ≤ 32
  pub states : c.states ≤ 128
  pub transitions : c.transitions ≤ 256
  pub within : 6 * c.tracks + 10 * c.states + 14 * c.transitions + 14 * c.windows + 10 * c.grants ≤ length bs
  pub track_run : Run bs track_kind 0 c.tracks
  pub state_run : Run bs state_kind (6 * c.tracks) c.states
  pub transition_run : Run bs transition_kind (6 * c.tracks + 10 * c.states) c.transitions
  pub window_run : Run bs window_kind (6 * c.tracks + 10 * c.states + 14 * c.transitions) c.windows
  pub grant_run : Run bs grant_kind (6 * c.tracks + 10 * c.states + 14 * c.transitions + 14 * c.windows) c.grants

-- an end record after them, and nothing else
pub record EndsAfter (bs : Bytes) (c : Counts) : Type 0 where
  pub end : Whole bs end_kind (6 * c.tracks + 10 * c.states + 14 * c.transitions + 14 * c.windows + 10 * c.grants)
  pub last : length bs ≡ 6 * c.tracks + 10 * c.states + 14 * c.transitions + 14 * c.windows + 10 * c.grants + 4
