-- Rights by their laws: a hosted track is permitted what its host's track is, a root what some grant of its own gives; who has a right over a track
-- has it somewhere. Assumes nothing.
use mathlib.Core.Path.{◌≡◌, ap}
use mathlib.Core.Bool.{true}
use mathlib.Core.Option.{none, some}
use Prim.Native.Nat.{ℕ}
use lib.Dec.{eqb}
use Rattle.rules.specs.Plan.{Plan, grant_count, grant, host, owner}
use Rattle.rules.specs.Rights.{gives_to, holds, is_permitted, holds_somewhere}
use Rattle.rules.proofs.Tests.{and_holds}
use Rattle.rules.proofs.Folds.{some_at, some_find}
use Rattle.rules.proofs.Acceptance.{Accepted}
use Rattle.rules.proofs.Roots.{root_self, root_up}

module _ (p : Plan) (ok : Accepted p) (right society : ℕ) where
  -- "a root and everything under it"
  pub permitted_root : (t : ℕ) → host p t ≡ none → is_permitted p right society t ≡ holds p right society t
  unfolding is_permitted
  permitted_root t e = ap (holds p right society) (root_self p ok t e)

  pub permitted_up : (t h : ℕ) → host p t ≡ some h → is_permitted p right society t ≡ is_permitted p right society (owner p h)
  unfolding is_permitted
  permitted_up t h e = ap (holds p right society) (root_up p ok t h e)

-- a right over some track is a right somewhere
pub permitted_somewhere : (p : Plan) (right society t : ℕ) → is_permitted p right society t ≡ true → holds_somewhere p right society ≡ true
unfolding is_permitted holds holds_somewhere
permitted_somewhere p right society t h =
    let (g, l, q) = some_find (grant_count p) _ h in
    some_at (grant_count p) (gives_to p right society) g l (and_holds (eqb (grant p g).root _) (gives_to p right society g) q).1
