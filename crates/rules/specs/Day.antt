-- Days: the range of their numbers. Assumes nothing.
use Rattle.std.specs.Prelude.{Bool, ◌&&◌, pos, negsuc}
use Rattle.std.specs.Int.Signed.{le_z}
use Rattle.rules.specs.Names.{Day}

-- "Days -109573 (1 January 1600) to 182620 (31 December 2399)"
abbrev pub earliest_day : Day
earliest_day = negsuc 109572

abbrev pub latest_day : Day
latest_day = pos 182620

unfoldable pub is_day : Day → Bool
is_day z = le_z earliest_day z && le_z z latest_day
