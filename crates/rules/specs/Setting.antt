-- What the caller chooses on each call, in numbers. Everything else takes the terms as a parameter. Assumes nothing.
use Rattle.std.specs.Prelude.{ℕ}
use Rattle.rules.specs.declared.Limit.{Limit}
use Rattle.rules.specs.declared.Limit.TheVariants.{Main, ReadingRoom}
use Rattle.rules.specs.declared.Setting.{Setting}
use Rattle.rules.specs.declared.Terms.{Terms}

-- "The reading rooms' machine allows 8 entries for each track, the main program still 32."
unfoldable pub limit_of : Limit → ℕ
limit_of Main = 32
limit_of ReadingRoom = 8

-- "a parameter with these two settings, chosen by the caller on each call"
unfoldable pub terms_of : Setting → Terms
terms_of setting = record { limit = limit_of setting.limit }

unfoldable pub main_terms : Terms
main_terms = terms_of (record { limit = Main })

unfoldable pub reading_room_terms : Terms
reading_room_terms = terms_of (record { limit = ReadingRoom })
