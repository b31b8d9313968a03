-- A track's root by its two laws: a root's is itself, and a hosted track's is that of its host's track. The levels that are looked at do not
-- matter once they are enough. Assumes nothing.
use mathlib.Core.Path.{◌≡◌}
use mathlib.Core.Logic.{inl, inr}
use mathlib.Core.Option.{none, some}
use Prim.Native.Nat.{ℕ, zero, suc, ◌<◌}
use native.Mathlib.Omega.{arith}
use native.Mathlib.Nat.{not-suc-le-zero}
use Rattle.rules.specs.Plan.{Plan, host, owner, root_to, root_of}
use Rattle.rules.proofs.Tests.{look_option}
use Rattle.rules.proofs.Acceptance.{Accepted}

module _ (p : Plan) (ok : Accepted p) where
  enough : (n m t : ℕ) → t < n → t < m → root_to p n t ≡ root_to p m t
  unfolding root_to
  enough zero m t a b = absurd (not-suc-le-zero a)
  enough (suc n) zero t a b = absurd (not-suc-le-zero b)
  enough (suc n) (suc m) t a b =
      elim (look_option (host p t)) [
        | inl e ↦ rw (e, root_to)
        | inr e ↦ let i = ok.lower t e.0 e.1 in rw (e.1, root_to) (enough n m (owner p e.0) (omega arith) (omega arith))
      ]

  pub root_self : (t : ℕ) → host p t ≡ none → root_of p t ≡ t
  unfolding root_of root_to
  root_self t e = rw (e, root_to)

  pub root_up : (t h : ℕ) → host p t ≡ some h → root_of p t ≡ root_of p (owner p h)
  unfolding root_of root_to
  root_up t h e = let i = ok.lower t h e in rw (e, root_to) (enough t (suc (owner p h)) (owner p h) (omega arith) (omega arith))
