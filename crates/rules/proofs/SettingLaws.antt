-- How much the two settings allow. Assumes nothing.
use Prim.Native.Nat.{◌≤◌}
use native.Mathlib.Omega.{arith}
use Rattle.rules.specs.declared.Limit.{Limit}
use Rattle.rules.specs.declared.Limit.TheVariants.{Main, ReadingRoom}
use Rattle.rules.specs.declared.Setting.{Setting}
use Rattle.rules.specs.Setting.{limit_of, terms_of}

few : (limit : Limit) → limit_of limit ≤ 32
unfolding limit_of
few Main = omega arith
few ReadingRoom = omega arith

pub limit_most : (setting : Setting) → (terms_of setting).limit ≤ 32
unfolding terms_of
limit_most setting = few setting.limit
