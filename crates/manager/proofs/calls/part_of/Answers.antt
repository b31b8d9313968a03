-- The part is empty where a check refuses or the track does not exist; else it starts at the track's entries and ends behind those held. Assumes nothing.
use Rattle.std.proofs.Common.{◌∙◌, arith}
use Rattle.rules.specs.Layout.{entry_width, head_words, track_width, entries_place}
use Rattle.ledger.proofs.Words.{in_room}
use Rattle.ledger.proofs.ReadTracks.{count_as}
use Rattle.lookup.proofs.Facts.{track_read}
use Rattle.manager.proofs.Checks.{call_checked, span_at, span_refused, span_absent, span_held}
use Rattle.manager.proofs.calls.part_of.Goals as goal

pub returns-then-read-t : goal.returns-then-read-t
returns-then-read-t c = span_at _ _ _ _ _ _ _ c.from-t.ensures (span_absent _ _ _ _ _ c.in-Ok.ensures.told c.if-read-t.true)

pub track_at-k-requires : goal.track_at-k-requires
track_at-k-requires c = in_room _ _ _ (call_checked _ _ _ _ c.in-Ok.ensures.told).lent.room c.if-read-t.false

pub entry_place-from-requires : goal.entry_place-from-requires
entry_place-from-requires c = (omega (arith, (call_checked _ _ _ _ c.in-Ok.ensures.told).lent.room.few, c.if-read-t.false), omega arith)

pub overflow_add-result : goal.overflow_add-result
unfolding entries_place track_width head_words entry_width
overflow_add-result c = omega (arith, c.well_formed.1.1.0, c.entry_place-from.ensures, c.from.ensures, (in_room _ _ _ (call_checked _ _ _ _ c.in-Ok.ensures.told).lent.room c.if-read-t.false).room)

pub returns-in-Err : goal.returns-in-Err
returns-in-Err c = span_refused _ _ _ _ _ c.in-Err.ensures.told

pub returns-else-read-t : goal.returns-else-read-t
unfolding entry_width
returns-else-read-t c = span_at _ _ _ _ _ _ _ c.from-t.ensures (span_held _ _ _ _ _ _ _ c.in-Ok.ensures.told c.if-read-t.false c.entry_place-from.ensures (c.from.ensures ∙ count_as _ (c.track_at-k.ensures ∙ track_read _ _ _ _ c.if-read-t.false)))
