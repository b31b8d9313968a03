-- Text written into lent bytes at a place: every byte afterwards, and the place after the text. Assumes nothing.
use Rattle.std.specs.Prelude.{◌≡◌, ◌++◌, ℕ, ◌+◌, ◌≤◌, length, take, drop}
use Rattle.rules.specs.Names.{Bytes, Place}

-- the bytes with the text at the place, in the stead of as many of theirs
unfoldable pub written_at : Bytes → Place → Bytes → Bytes
written_at out at text = take at out ++ (text ++ drop (at + length text) out)

-- What a writer's contract promises: the place that it answers, and every lent byte afterwards.
pub record Wrote (out : Bytes) (at : Place) (text out' : Bytes) (end : Place) : Type 0 where
  pub place : end ≡ at + length text
  pub bytes : out' ≡ written_at out at text

-- no line is longer
abbrev pub line_room : ℕ
line_room = 24

-- What a line's contract promises besides: how far it goes at most.
pub record Lined (out : Bytes) (at : Place) (text out' : Bytes) (end : Place) : Type 0 where
  pub wrote : Wrote out at text out' end
  pub short : end ≤ at + line_room
