-- The part lent is the words of all tracks, behind the leading ones, and comes back zeroed. Assumes nothing.
use Rattle.rules.specs.Layout.{leading_words}
use Rattle.ledger.proofs.Words.{leading_before, sleep_all}
use Rattle.ledger.proofs.track.put_all_to_sleep.Goals as goal

pub slice_bounds-fill-count : goal.slice_bounds-fill-count
unfolding leading_words
slice_bounds-fill-count c = leading_before _ _ c.track_place-end.ensures

pub slice_bounds-fill-start : goal.slice_bounds-fill-start
unfolding leading_words
slice_bounds-fill-start c = leading_before _ _ c.track_place-end.ensures

pub returns : goal.returns
unfolding leading_words
returns c = sleep_all _ _ _ _ _ c.track_place-end.ensures c.requires.words (c.fill.ensures.after (λ w e. e))
