-- Scopes on a ledger: which are open, which tracks have one, and which tracks are done, either way. Assumes nothing.
use Rattle.std.specs.Prelude.{Bool, not, ◌&&◌}
use Rattle.rules.specs.Names.{TrackNumber, StateNumber}
use Rattle.rules.specs.Fold.{some_below, every_below}
use Rattle.rules.specs.Plan.{Plan, track_count, is_hosted_by, some_in, is_final}
use Rattle.rules.specs.Ledger.{Ledger, is_awake, is_forward, is_undoing, is_empty}

module _ (p : Plan) (l : Ledger) where
  -- "it is open while they are awake"
  unfoldable pub is_open : StateNumber → Bool
  is_open s = some_in p s (λ t. is_awake (l t).mode)

  -- the track has an open scope: one of its states' scopes is open
  unfoldable pub has_open_scope : TrackNumber → Bool
  has_open_scope t = some_below (track_count p) (λ u. is_hosted_by p t u && is_awake (l u).mode)

  -- a track that has ended: "forward in a final state"
  abbrev pub is_ended : TrackNumber → Bool
  is_ended t = is_forward (l t).mode && is_final p (l t).state

  -- a track that is bare: "undoing with nothing held and no open scope"
  unfoldable pub is_bare : TrackNumber → Bool
  is_bare t = is_undoing (l t).mode && is_empty (l t).held && not (has_open_scope t)

  -- "all asleep ("over")"
  unfoldable pub is_over : Bool
  is_over = every_below (track_count p) (λ t. not (is_awake (l t).mode))
