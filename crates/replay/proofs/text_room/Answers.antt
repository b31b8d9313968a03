-- By the test. Assumes nothing.
use Rattle.std.proofs.Common.{lt-ltb, le-ltb}
use Rattle.replay.specs.Runs.{text_room}
use Rattle.replay.proofs.text_room.Goals as goal

pub returns-then-journal-gt-MOST_BYTES : goal.returns-then-journal-gt-MOST_BYTES
unfolding text_room
returns-then-journal-gt-MOST_BYTES c = rw (lt-ltb 32768 _ c.if-journal-gt-MOST_BYTES.true)

pub returns : goal.returns
unfolding text_room
returns c = rw (le-ltb 32768 _ c.if-journal-gt-MOST_BYTES.false)
