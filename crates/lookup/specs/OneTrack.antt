-- Words that hold a ledger, with one track replaced. Assumes nothing.
use Rattle.std.specs.Prelude.{cond, eqb}
use Rattle.rules.specs.Names.{Words, TrackNumber, StateNumber}
use Rattle.rules.specs.declared.Counts.{Counts}
use Rattle.rules.specs.declared.Mode.{Mode}
use Rattle.rules.specs.declared.Terms.{Terms}
use Rattle.rules.specs.Ledger.{Configuration, written}
use Rattle.ledger.specs.Ladder.{ledger_of}

-- the words with one track's replaced
unfoldable pub with_configuration : (terms : Terms) → Counts → Words → TrackNumber → Configuration → Words
with_configuration terms c ws t x = written terms c.tracks (λ u. cond (eqb u t) x (ledger_of terms c ws u)) ws

-- a configuration in another mode and state, holding what it held
unfoldable pub with_mode : Mode → StateNumber → Configuration → Configuration
with_mode m s x = record { mode = m; state = s; held = x.held }
