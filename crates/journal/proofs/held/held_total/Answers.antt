use Rattle.ledger.specs.Ladder.{ledger_of}
use Rattle.ledger.proofs.ReadTracks.{count_as}
use Rattle.journal.proofs.OfLedger.{summed}
use Rattle.std.proofs.Common.{rules, ◌≡◌, refl, arith, length}
use Rattle.rules.specs.Fold.{sum_below}
use Rattle.journal.proofs.held.held_total.Goals as goal

pub loop-t-init : goal.loop-t-init
unfolding sum_below
loop-t-init c = (search rules, refl)

pub loop-t-preserved : goal.loop-t-preserved
loop-t-preserved c = (search rules, summed (λ u. length (ledger_of _ c.args.c c.args.ledger.now u).held) _ _ _ c.loop-t.invariant.1 (count_as _ c.track-k.ensures))

pub returns : goal.returns
returns c = let e : c.loop-t.t ≡ c.args.c.tracks = omega arith in rw e at c.loop-t.invariant.1
