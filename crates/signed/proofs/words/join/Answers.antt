-- The bits of the two words together. Assumes nothing.
use Rattle.std.proofs.Common.{◌∙◌, ◌+◌, ◌*◌, ◌<◌, arith}
use Rattle.rules.specs.Signed.{joined}
use Rattle.signed.proofs.Integers.{read_back}
use Rattle.signed.proofs.WordLaws.{signed_is}
use Rattle.signed.proofs.words.join.Goals as goal

pub returns : goal.returns
unfolding joined
returns c =
    let h : c.args.low + 65536 * c.args.high < 4294967296 = omega (arith, c.ranges.low, c.ranges.high) in
    read_back _ c.cast_signed.type_inv ∙ c.cast_signed.ensures ∙ rw (c.from.ensures, c.from-2.ensures) (signed_is _ h)
