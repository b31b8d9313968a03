-- Modes compared and as words: each mode by itself. Assumes nothing.
use Rattle.std.proofs.Common.{◌≡◌, refl}
use denote.Enum.Bare.{sameb}
use denote.Enum.Declared.{tag_of}
use Rattle.rules.specs.declared.Mode.{Mode}
use Rattle.rules.specs.declared.Mode.TheVariants.{Asleep, Forward, Undoing}
use Rattle.rules.specs.contracts.Mode.{the_type}
use Rattle.rules.specs.Ledger.{is_awake, is_forward, is_undoing, mode_word}
use Rattle.rules.specs.Soundness.{same_mode}

pub word_told : (m : Mode) → tag_of the_type m ≡ mode_word m
unfolding mode_word
word_told Asleep = refl
word_told Forward = refl
word_told Undoing = refl

pub same_told : (a b : Mode) → sameb the_type a b ≡ same_mode a b
unfolding same_mode is_awake is_forward is_undoing
same_told Asleep Asleep = refl
same_told Asleep Forward = refl
same_told Asleep Undoing = refl
same_told Forward Asleep = refl
same_told Forward Forward = refl
same_told Forward Undoing = refl
same_told Undoing Asleep = refl
same_told Undoing Forward = refl
same_told Undoing Undoing = refl
