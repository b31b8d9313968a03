-- Bit 0 of the options alone chooses: the others are ignored. Assumes nothing.
use Rattle.std.proofs.Common.{◌≡◌, refl, ℕ, ◌+◌, ◌*◌, ◌%◌, arith}
use Rattle.rules.specs.declared.Limit.TheVariants.{Main, ReadingRoom}
use Rattle.export.specs.Options.{setting_of}

pub others_ignored : (options more : ℕ) → setting_of (options + 2 * more) ≡ setting_of options
unfolding setting_of
others_ignored options more = let e : (options + 2 * more) % 2 ≡ options % 2 = omega arith in rw e refl

-- RETRACTION_LIMIT_32 and RETRACTION_LIMIT_8
pub clear : setting_of 0 ≡ record { limit = Main }
unfolding setting_of
clear = refl

pub set : setting_of 1 ≡ record { limit = ReadingRoom }
unfolding setting_of
set = refl
