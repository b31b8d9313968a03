use Rattle.std.proofs.Common.{refl, ◌∙◌, get_or}
use Rattle.rules.specs.Fold.{every_below}
use Rattle.ledger.proofs.Loops.{every_visit}
use Rattle.ledger.proofs.TidyLaws.{or_zero}
use Rattle.ledger.proofs.tidy.are_zero.Goals as goal

pub loop-w-init : goal.loop-w-init
unfolding every_below
loop-w-init c = refl

pub loop-w-preserved : goal.loop-w-preserved
loop-w-preserved c = or_zero c.loop-w.bits (get_or c.args.words.now c.loop-w.w-index 0) ∙ every_visit _ _ c.loop-w.invariant refl
