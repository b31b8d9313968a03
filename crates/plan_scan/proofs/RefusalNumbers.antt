-- No refusal has the number 0. Assumes nothing.
use Rattle.std.proofs.Common.{◌≡◌, arith}
use Rattle.rules.specs.declared.Refusal.{Refusal}
use Rattle.rules.specs.Refusals.{number_of}

pub not_zero : (r : Refusal) → number_of r ≡ 0 → ⊥
not_zero r e = grind (arith, e)
