use Rattle.std.proofs.Common.{refl, sym, ap, ◌∙◌, arith, rules}
use Rattle.rules.specs.Fold.{every_below}
use Rattle.rules.specs.Layout.{leading_words}
use Rattle.rules.specs.Soundness.{is_tidy, are_tidy}
use Rattle.rules.proofs.TrackWords.{place_first}
use Rattle.ledger.proofs.LayoutLaws.{place_next, place_small}
use Rattle.ledger.proofs.Loops.{every_visit, every_done}
use Rattle.ledger.proofs.Words.{in_room}
use Rattle.ledger.proofs.tidy.are_tidy.Goals as goal

pub loop-t-init : goal.loop-t-init
unfolding every_below leading_words
loop-t-init c = (sym (place_first _), refl)

pub is_tidy-all-requires : goal.is_tidy-all-requires
is_tidy-all-requires c = rw c.loop-t.invariant.0 (in_room _ _ c.loop-t.t c.requires (search rules)).room

pub loop-t-preserved : goal.loop-t-preserved
loop-t-preserved c =
    let i = c.loop-t in
    let w = c.track_width-width.ensures.0 in
    (rw (i.invariant.0, w) (sym (place_next _ _)), every_visit _ _ i.invariant.1 (c.is_tidy-all.ensures ∙ ap (is_tidy _ _) i.invariant.0))

pub overflow_add-at : goal.overflow_add-at
overflow_add-at c =
    let i = c.loop-t in
    let w = c.track_width-width.ensures.1 in
    let m = place_small c.args.terms i.t (search rules) (search rules) in
    omega (arith, i.invariant.0, w, m)

pub returns : goal.returns
unfolding are_tidy
returns c = every_done _ _ _ c.loop-t.invariant.1 (search rules) (search rules)
