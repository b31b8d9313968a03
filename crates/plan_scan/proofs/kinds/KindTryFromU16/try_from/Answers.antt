-- Where the number is none of the six, there is no such kind. Assumes nothing.
use Rattle.std.proofs.Common.{◌≡◌, refl, arith}
use Rattle.plan_scan.proofs.KindTables.{no_kind}
use Rattle.plan_scan.proofs.kinds.KindTryFromU16.try_from.Goals as goal

pub returns-in_default : goal.returns-in_default
returns-in_default c = (refl, no_kind _ (λ (n : c.args.number ≡ 0 → ⊥). omega arith))
