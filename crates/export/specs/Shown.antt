-- What the two exported calls tell of the largest number of entries: of one track, and of one place of its path. The path is the one that the
-- library shows in every call. Assumes nothing.
use Rattle.std.specs.Prelude.{[], ◌∷◌, ℕ, length, get_or}
use Rattle.rules.specs.Names.{Bytes, TrackNumber}
use Rattle.rules.specs.Acceptance.{turned_back, accepted}
use Rattle.rules.specs.Call.{Answer, refusal, done}
use Rattle.rules.specs.Largest.{no_transition, read_bounded, largest_of}
use Rattle.largest.specs.Chosen.{shown_path}

-- the figure and the length of the path, both 0 for a track that does not exist
unfoldable pub track_shown : Bytes → TrackNumber → Answer
track_shown bs t =
    elim (read_bounded bs) [ turned_back r ↦ refusal r | accepted c ↦ done (largest_of bs t ∷ length (shown_path bs t) ∷ []) ]

-- the transition at a place, 65535 beyond the path
unfoldable pub step_shown : Bytes → TrackNumber → ℕ → Answer
step_shown bs t place =
    elim (read_bounded bs) [ turned_back r ↦ refusal r | accepted c ↦ done (get_or (shown_path bs t) place no_transition ∷ []) ]
