-- The three passes follow one another. Assumes nothing.
use Rattle.lookup.proofs.Facts.{tidy_words}
use Rattle.event_writing.proofs.EventWritten.{in_range, movers, first_tidy, sleepers, second_tidy, closings, none_closed, all_written}
use Rattle.event_writing.proofs.write.Goals as goal

pub install_moves-to-requires : goal.install_moves-to-requires
install_moves-to-requires c =
    (tidy_words _ _ _ _ c.requires.0.checked, in_range _ _ _ _ c.requires.0 _ c.requires.1, movers _ _ _ _ c.requires.0 _ c.requires.1 c.requires.2)

pub enter_all-requires : goal.enter_all-requires
enter_all-requires c =
    let m = c.install_moves-to.ensures in
    (first_tidy _ _ _ _ c.requires.0 _ c.requires.1 c.requires.2 m.0, c.requires.3, sleepers _ _ _ _ c.requires.0 _ c.requires.1 c.requires.2 m.0 m.1)

pub returns-then-choice-eq0 : goal.returns-then-choice-eq0
returns-then-choice-eq0 c =
    let m = c.install_moves-to.ensures in
    none_closed _ _ _ _ c.requires.0 _ c.requires.1 c.requires.2 m.0 m.1 c.enter_all.ensures c.if-choice-eq0.true

pub close_scopes-requires : goal.close_scopes-requires
close_scopes-requires c =
    let m = c.install_moves-to.ensures in
    let e = c.enter_all.ensures in
    (second_tidy _ _ _ _ c.requires.0 _ c.requires.1 c.requires.2 m.0 m.1 e, closings _ _ _ _ c.requires.0 _ c.requires.1 c.requires.2 m.0 m.1 e)

pub returns : goal.returns
returns c =
    let m = c.install_moves-to.ensures in
    all_written _ _ _ _ c.requires.0 _ c.requires.1 c.requires.2 m.0 m.1 c.enter_all.ensures c.close_scopes.ensures
