-- The ledger: what it holds of each track, and the words in which it is kept. Assumes nothing.
use Rattle.std.specs.Prelude.{Bool, true, false, cond, List, [], ◌∷◌, ◌++◌, ℕ, zero, suc, ◌+◌, ◌*◌, ◌-◌, length, get_or, take, drop, replicate, ltb}
use Rattle.rules.specs.Names.{Words, Place, TrackNumber, StateNumber, Code}
use Rattle.rules.specs.declared.Mode.{Mode}
use Rattle.rules.specs.declared.Mode.TheVariants.{Asleep, Forward, Undoing}
use Rattle.rules.specs.declared.Terms.{Terms}
use Rattle.rules.specs.Layout.{leading_words, head_words, state_place, count_place, entry_width, deviation_place, track_place, word_count}

-- an entry: a retraction (the report's compensation) that is installed, and the state to deviate to, 65535 for none
pub record Entry : Type 0 where
  pub code : Code
  pub deviation : StateNumber

-- a track's configuration: its mode (the report's direction), its state, and the entries held, a stack with the newest first
pub record Configuration : Type 0 where
  pub mode : Mode
  pub state : StateNumber
  pub held : List Entry

-- by track number
abbrev pub Ledger : Type 0
Ledger = TrackNumber → Configuration

unfoldable pub is_awake : Mode → Bool
is_awake Asleep = false
is_awake Forward = true
is_awake Undoing = true

unfoldable pub is_forward : Mode → Bool
is_forward Asleep = false
is_forward Forward = true
is_forward Undoing = false

unfoldable pub is_undoing : Mode → Bool
is_undoing Asleep = false
is_undoing Forward = false
is_undoing Undoing = true

unfoldable pub is_empty : List Entry → Bool
is_empty [] = true
is_empty (e ∷ es) = false

-- "An asleep track is all zeros."
unfoldable pub sleeping : Configuration
sleeping = record { mode = Asleep; state = 0; held = [] }

-- The words. "mode (0 asleep, 1 forward, 2 undoing)"
unfoldable pub mode_word : Mode → ℕ
mode_word Asleep = 0
mode_word Forward = 1
mode_word Undoing = 2

-- "pairs of retraction code and deviation state, oldest first"
unfoldable pub held_words : List Entry → Words
held_words [] = []
held_words (e ∷ es) = held_words es ++ (e.code ∷ e.deviation ∷ [])

-- What words read as; a mode above 2 reads as 2, which no sound ledger has.
unfoldable pub mode_of : ℕ → Mode
mode_of zero = Asleep
mode_of (suc zero) = Forward
mode_of (suc (suc n)) = Undoing

unfoldable pub entry_at : Words → Place → Entry
entry_at ws at = record { code = get_or ws at 0; deviation = get_or ws (deviation_place at) 0 }

-- the entries that stand from a place on, so many of them
unfoldable pub held_at : Words → Place → ℕ → List Entry
held_at ws at zero = []
held_at ws at (suc k) = entry_at ws (at + entry_width * k) ∷ held_at ws at k

unfoldable pub configuration_at : Words → Place → Configuration
configuration_at ws at =
    record {
      mode = mode_of (get_or ws at 0);
      state = get_or ws (state_place at) 0;
      held = held_at ws (at + head_words) (get_or ws (count_place at) 0);
    }

-- `limit` is the most entries that a track holds
module _ (terms : Terms) where
  -- "unused pairs zero"
  unfoldable pub configuration_words : Configuration → Words
  configuration_words c =
      mode_word c.mode ∷ c.state ∷ length c.held
      ∷ (held_words c.held ++ replicate (entry_width * (terms.limit - length c.held)) 0)

  -- "3 + 2 × limit words for each track", "in track order"
  unfoldable pub ledger_words : ℕ → Ledger → Words
  ledger_words zero l = []
  ledger_words (suc n) l = ledger_words n l ++ configuration_words (l n)

  -- the words of so many tracks in place of a lent ledger's; the leading words stay, and "words beyond are never touched"
  unfoldable pub written : ℕ → Ledger → Words → Words
  written tracks l ws = take leading_words ws ++ (ledger_words tracks l ++ drop (word_count terms tracks) ws)

  -- the ledger that words hold, of so many tracks
  unfoldable pub ledger_at : Words → ℕ → Ledger
  ledger_at ws tracks t = cond (ltb t tracks) (configuration_at ws (track_place terms t)) sleeping
