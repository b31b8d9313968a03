-- Where the ledger's words stand: the only place for these numbers. Assumes nothing.
use Rattle.std.specs.Prelude.{ℕ, ◌+◌, ◌*◌}
use Rattle.rules.specs.Names.{Place, TrackNumber}
use Rattle.rules.specs.declared.Terms.{Terms}

-- "Each ledger gains two leading words", and "the ledger's next two leading words hold the last accepted" day: they stand before the
-- first track's; where each of them stands
unfoldable pub leading_words : ℕ
leading_words = 4

abbrev pub length_place : Place
length_place = 0

abbrev pub sum_place : Place
sum_place = 1

abbrev pub low_day_place : Place
low_day_place = 2

abbrev pub high_day_place : Place
high_day_place = 3

-- "mode, state, count of entries held": where a track's state and count stand, from where its words start
unfoldable pub head_words : ℕ
head_words = 3

abbrev pub state_place : Place → Place
state_place at = at + 1

abbrev pub count_place : Place → Place
count_place at = at + 2

-- "pairs of retraction code and deviation state": where an entry's deviation stands, from where the entry starts
unfoldable pub entry_width : ℕ
entry_width = 2

abbrev pub deviation_place : Place → Place
deviation_place at = at + 1

module _ (terms : Terms) where
  -- "3 + 2 × limit words for each track"
  unfoldable pub track_width : ℕ
  track_width = head_words + entry_width * terms.limit

  -- where a track's words start, and where its entries do
  unfoldable pub track_place : TrackNumber → Place
  track_place t = leading_words + track_width * t

  unfoldable pub entries_place : TrackNumber → Place
  entries_place t = track_place t + head_words

  -- "a ledger has four leading words and then 3 + 2 × limit words for each track"
  unfoldable pub word_count : ℕ → ℕ
  word_count tracks = track_place tracks
