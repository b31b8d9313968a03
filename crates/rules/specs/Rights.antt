-- Rights: which society may move, turn and fire which tracks. "Without a record nobody has a right." Assumes nothing.
use Rattle.std.specs.Prelude.{Bool, ◌&&◌, ℕ, ◌/◌, ◌%◌, eqb}
use Rattle.rules.specs.Names.{TrackNumber, Society, Right}
use Rattle.rules.specs.Fold.{some_below}
use Rattle.rules.specs.Plan.{Plan, Grant, grant_count, grant, root_of}

-- "rights as a sum of 1 move, 2 signal, 4 fire"
abbrev pub move_right : Right
move_right = 1

abbrev pub signal_right : Right
signal_right = 2

abbrev pub fire_right : Right
fire_right = 4

-- the right is in the sum
unfoldable pub gives : Grant → Right → Bool
gives g right = eqb (g.rights / right % 2) 1

module _ (p : Plan) (right : Right) (society : Society) where
  -- a grant gives the society the right
  unfoldable pub gives_to : ℕ → Bool
  gives_to g = eqb (grant p g).society society && gives (grant p g) right

  -- the society has the right over a root
  unfoldable pub holds : TrackNumber → Bool
  holds root = some_below (grant_count p) (λ g. eqb (grant p g).root root && gives_to g)

  -- "over a root and everything under it": the track stands under a root where the society has the right
  unfoldable pub is_permitted : TrackNumber → Bool
  is_permitted t = holds (root_of p t)

  -- it has the right somewhere
  unfoldable pub holds_somewhere : Bool
  holds_somewhere = some_below (grant_count p) gives_to
