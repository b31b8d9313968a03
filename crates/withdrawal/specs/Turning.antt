-- One track of a signal: it turns if it may. Assumes nothing.
use Rattle.std.specs.Prelude.{Bool, cond}
use Rattle.rules.specs.Ledger.{Configuration}
use Rattle.rules.specs.Signal.{turned_track}

abbrev pub turned_if : Bool → Configuration → Configuration
turned_if may x = cond may (turned_track x) x
