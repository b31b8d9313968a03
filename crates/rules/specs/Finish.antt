-- Finish, which "holds from now on after any accepted call, abandoning done": a link has ended, be it half withdrawn. Assumes nothing.
use Rattle.std.specs.Prelude.{Bool, cond, not, ◌&&◌, ◌||◌}
use Rattle.rules.specs.Fold.{some_below, every_below}
use Rattle.rules.specs.Plan.{Plan, track_count, is_root}
use Rattle.rules.specs.Ledger.{Ledger, sleeping}
use Rattle.rules.specs.Scope.{is_ended, is_bare}

module _ (p : Plan) (l : Ledger) where
  -- "every root is either forward in a final state or undoing with nothing held and no open scope"
  unfoldable pub roots_done : Bool
  roots_done = every_below (track_count p) (λ t. not (is_root p t) || (is_ended p l t || is_bare p l t))

  -- "at least one being the former"
  unfoldable pub some_root_ended : Bool
  some_root_ended = some_below (track_count p) (λ t. is_root p t && is_ended p l t)

  -- finish is due
  unfoldable pub is_finishing : Bool
  is_finishing = roots_done && some_root_ended

  -- Finish: "every track goes to sleep"
  unfoldable pub finished : Ledger
  finished t = cond is_finishing sleeping (l t)
