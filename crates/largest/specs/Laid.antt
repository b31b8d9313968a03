-- Paths that stand end to end, as the call shows them. Assumes nothing.
use Rattle.std.specs.Prelude.{◌≡◌, List, ℕ, ◌≤◌, length}
use Rattle.rules.specs.Names.{TrackNumber, TransitionNumber}
use Rattle.rules.specs.Fold.{tabulate}
use Rattle.rules.specs.Largest.{most_tracks, most_transitions, joined, padded}

-- these lengths and these steps are those of such paths
pub record Laid (lengths steps : List ℕ) (path : TrackNumber → List TransitionNumber) : Type 0 where
  pub lengths_are : lengths ≡ tabulate most_tracks (λ t. length (path t))
  pub steps_are : steps ≡ padded (joined most_tracks path)
  pub fits : length (joined most_tracks path) ≤ most_transitions
