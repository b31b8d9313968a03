-- What the bits of a call's options choose. Assumes nothing.
use Rattle.std.specs.Prelude.{cond, ℕ, ◌%◌, eqb}
use Rattle.rules.specs.declared.Limit.TheVariants.{Main, ReadingRoom}
use Rattle.rules.specs.declared.Setting.{Setting}

-- bit 0 is set for the reading rooms' limit and clear for the main program's; the other bits are ignored
unfoldable pub setting_of : ℕ → Setting
setting_of options = record { limit = cond (eqb (options % 2) 1) ReadingRoom Main }
