-- The words of one track, read and written. Assumes nothing.
use Rattle.std.specs.Prelude.{◌++◌, ℕ, suc, pred, ◌+◌, ◌*◌, length, set, take, drop, replicate}
use Rattle.rules.specs.Names.{Words, Place, TrackNumber, StateNumber, Code}
use Rattle.rules.specs.declared.Terms.{Terms}
use Rattle.rules.specs.declared.Track.{Track}
use Rattle.rules.specs.Layout.{state_place, count_place, entry_width, deviation_place, track_width, track_place, entries_place}
use Rattle.rules.specs.Ledger as ledger
use Rattle.ledger.specs.declared.track.Entry.{Entry}
use Rattle.rules.specs.Ledger.{Configuration, mode_word, configuration_at}

-- a configuration without its entries
unfoldable pub track_of : Configuration → Track
track_of c = record { mode = c.mode; state = c.state; count = length c.held }

-- an entry that the code has by value
abbrev pub entry_of : Entry → ledger.Entry
entry_of e = record { code = e.code; deviation = e.deviation }

module _ (terms : Terms) where
  -- the track as its words tell it
  unfoldable pub track_at : Words → TrackNumber → Track
  track_at ws t = track_of (configuration_at ws (track_place terms t))

  -- the words with a track's first three replaced
  unfoldable pub with_track : Words → TrackNumber → Track → Words
  with_track ws t k =
      set (set (set ws (track_place terms t) (mode_word k.mode)) (state_place (track_place terms t)) k.state) (count_place (track_place terms t)) k.count

  -- the words with a track's entry replaced, counted from its oldest
  unfoldable pub entry_place : TrackNumber → ℕ → Place
  entry_place t k = entries_place terms t + entry_width * k

  unfoldable pub with_entry : Words → TrackNumber → ℕ → Code → StateNumber → Words
  with_entry ws t k code deviation = set (set ws (entry_place t k) code) (deviation_place (entry_place t k)) deviation

  -- the words with one more entry, and with one less
  unfoldable pub with_installed : Words → TrackNumber → Code → StateNumber → Words
  with_installed ws t code deviation =
      set (with_entry ws t (track_at ws t).count code deviation) (count_place (track_place terms t)) (suc (track_at ws t).count)

  unfoldable pub with_removed : Words → TrackNumber → Words
  with_removed ws t =
      set (with_entry ws t (pred (track_at ws t).count) 0 0) (count_place (track_place terms t)) (pred (track_at ws t).count)

  -- the words with a track's all zero
  unfoldable pub with_asleep : Words → TrackNumber → Words
  with_asleep ws t = take (track_place terms t) ws ++ (replicate (track_width terms) 0 ++ drop (track_width terms) (drop (track_place terms t) ws))
