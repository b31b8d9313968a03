-- Over, without the right, not to be fired, or fired: the entry is read and removed, its deviation entered, then abandoning and finish.
-- Assumes nothing.
use Rattle.std.proofs.Common.{arith}
use Rattle.rules.specs.Answers.{fire_told}
use Rattle.withdrawal.proofs.Storing.{settled_words}
use Rattle.withdrawal.proofs.FiredWords.{fire_over, fire_lacks, fire_not, fireable, low, counted, within_words, removable, removed_words, code_is, deviation_is, removed_orderly, sleepers, fired_orderly, fired_nested, fire_done}
use Rattle.withdrawal.proofs.fire.fire.Goals as goal

pub returns-then-is_over : goal.returns-then-is_over
unfolding fire_told
returns-then-is_over c = fire_over _ c.requires.0 c.is_over.ensures _ _ c.if-is_over.true

pub returns-then-lacks_right : goal.returns-then-lacks_right
unfolding fire_told
returns-then-lacks_right c = fire_lacks _ c.requires.0 c.is_over.ensures _ _ c.if-is_over.false c.lacks_right.ensures c.if-lacks_right.true

pub returns-then-not-may_fire : goal.returns-then-not-may_fire
unfolding fire_told
returns-then-not-may_fire c = fire_not _ c.requires.0 c.is_over.ensures _ _ c.if-is_over.false c.lacks_right.ensures c.if-lacks_right.false c.may_fire.ensures c.if-not-may_fire.true

pub track-k-requires : goal.track-k-requires
track-k-requires c = (c.requires.0.lent.room, low _ (fireable _ c.requires.0 c.is_over.ensures _ _ c.if-is_over.false c.lacks_right.ensures c.if-lacks_right.false c.may_fire.ensures c.if-not-may_fire.false))

pub overflow_sub-newest : goal.overflow_sub-newest
overflow_sub-newest c =
    let a = fireable _ c.requires.0 c.is_over.ensures _ _ c.if-is_over.false c.lacks_right.ensures c.if-lacks_right.false c.may_fire.ensures c.if-not-may_fire.false in
    let n = counted _ a c.track-k.ensures in
    omega arith

pub entry_code-code-requires : goal.entry_code-code-requires
entry_code-code-requires c =
    let a = fireable _ c.requires.0 c.is_over.ensures _ _ c.if-is_over.false c.lacks_right.ensures c.if-lacks_right.false c.may_fire.ensures c.if-not-may_fire.false in
    let n = counted _ a c.track-k.ensures in
    (within_words _ a, omega arith)

pub entry_deviation-deviation-requires : goal.entry_deviation-deviation-requires
entry_deviation-deviation-requires c =
    let a = fireable _ c.requires.0 c.is_over.ensures _ _ c.if-is_over.false c.lacks_right.ensures c.if-lacks_right.false c.may_fire.ensures c.if-not-may_fire.false in
    let n = counted _ a c.track-k.ensures in
    (within_words _ a, omega arith)

pub remove_newest-requires : goal.remove_newest-requires
remove_newest-requires c =
    let a = fireable _ c.requires.0 c.is_over.ensures _ _ c.if-is_over.false c.lacks_right.ensures c.if-lacks_right.false c.may_fire.ensures c.if-not-may_fire.false in
    (within_words _ a, (removable _ a).0, (removable _ a).1)

pub deviate-requires : goal.deviate-requires
deviate-requires c =
    let a = fireable _ c.requires.0 c.is_over.ensures _ _ c.if-is_over.false c.lacks_right.ensures c.if-lacks_right.false c.may_fire.ensures c.if-not-may_fire.false in
    let d = removed_words _ a c.track-k.ensures c.remove_newest.ensures in
    let e = deviation_is _ a c.track-k.ensures c.entry_deviation-deviation.ensures in
    (removed_orderly _ a d e, low _ a, c.requires.2, sleepers _ a d e)

pub abandon-left-requires : goal.abandon-left-requires
abandon-left-requires c =
    let a = fireable _ c.requires.0 c.is_over.ensures _ _ c.if-is_over.false c.lacks_right.ensures c.if-lacks_right.false c.may_fire.ensures c.if-not-may_fire.false in
    let d = removed_words _ a c.track-k.ensures c.remove_newest.ensures in
    let e = deviation_is _ a c.track-k.ensures c.entry_deviation-deviation.ensures in
    (fired_orderly _ a d e c.deviate.ensures, fired_nested _ a d e c.deviate.ensures)

pub returns : goal.returns
unfolding fire_told
returns c =
    let a = fireable _ c.requires.0 c.is_over.ensures _ _ c.if-is_over.false c.lacks_right.ensures c.if-lacks_right.false c.may_fire.ensures c.if-not-may_fire.false in
    let d = removed_words _ a c.track-k.ensures c.remove_newest.ensures in
    let e = deviation_is _ a c.track-k.ensures c.entry_deviation-deviation.ensures in
    fire_done _ a d e c.deviate.ensures (code_is _ a c.track-k.ensures c.entry_code-code.ensures) (settled_words _ _ _ (fired_orderly _ a d e c.deviate.ensures) c.abandon-left.ensures.0 c.finish.ensures)
