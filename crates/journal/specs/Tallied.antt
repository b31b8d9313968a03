-- The tally for the last line, "`H` entries held, firings done". Assumes nothing.
use Rattle.std.specs.Prelude.{ℕ, ◌+◌}
use Rattle.journal.specs.declared.tally.Tally.{Tally}

-- the tally after one record, which leaves `held` entries and did `fired` firings
abbrev pub tallied : Tally → ℕ → ℕ → Tally
tallied t held fired = record { held = held; fired = t.fired + fired }
