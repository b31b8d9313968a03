-- Stamped, the ledger has its room; asleep, its words are tidy and whatever wakes is asleep; the roots entered, they hold begin's ledger.
-- Assumes nothing.
use Rattle.std.proofs.Common.{ap, ◌∙◌}
use Rattle.rules.specs.Ledger.{written}
use Rattle.ledger.proofs.Words.{leading_room}
use Rattle.opening.proofs.BeginLaws.{stamped_room, length-word_lem, begin_tidy, begin_sleepers, begin_done}
use Rattle.opening.proofs.begin.begin_all.Goals as goal

pub stamp-requires : goal.stamp-requires
stamp-requires c = let a = c.requires.0 in (length-word_lem a.accepts, leading_room a.room)

pub enter_all-requires : goal.enter_all-requires
enter_all-requires c =
    let r = stamped_room _ _ _ c.requires.0.room c.stamp.ensures in
    let s = c.put_all_to_sleep.ensures in
    (begin_tidy _ _ _ c.requires.0.accepts _ r s, c.requires.1, begin_sleepers _ _ _ c.requires.0.accepts _ r s _)

pub returns : goal.returns
returns c =
    let r = stamped_room _ _ _ c.requires.0.room c.stamp.ensures in
    begin_done _ _ _ c.requires.0.accepts _ r c.put_all_to_sleep.ensures _ c.root_words-to.ensures c.enter_all.ensures
    ∙ ap (written _ _ _) c.stamp.ensures
