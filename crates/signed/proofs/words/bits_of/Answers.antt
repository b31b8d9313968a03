-- The number's own bits. Assumes nothing.
use Rattle.std.proofs.Common.{ap, ◌∙◌, w32, of_z}
use mir.ValLaws.{to_z-of_z}
use Rattle.signed.proofs.WordLaws.{unsigned_is}
use Rattle.signed.proofs.words.bits_of.Goals as goal

pub returns : goal.returns
returns c = c.cast_unsigned.ensures ∙ ap (of_z w32) (to_z-of_z w32 c.args.z c.ranges.z) ∙ unsigned_is c.args.z c.ranges.z
