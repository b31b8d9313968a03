-- The high half of the bits. Assumes nothing.
use Rattle.std.proofs.Common.{ap, ◌∙◌, ℕ, ◌/◌, w32}
use mir.ValLaws.{to_z-of_z}
use Rattle.rules.specs.Signed.{bits_of, high_word}
use Rattle.signed.proofs.words.high_word.Goals as goal

pub returns : goal.returns
unfolding high_word
returns c =
    ap (λ (n : ℕ). n / 65536) (c.bits_of.ensures ∙ ap bits_of (to_z-of_z w32 c.args.z c.ranges.z))
