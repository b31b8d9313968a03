use Rattle.std.proofs.Common.{refl, ap, not, arith}
use Rattle.rules.specs.Fold.{every_below, some_below}
use Rattle.ledger.specs.Ladder.{ledger_of}
use Rattle.ledger.proofs.Loops.{every_next, some_visit}
use Rattle.finish.proofs.Roots.{done_asked, ended_asked, stops, visited}
use Rattle.finish.proofs.finishing.is_finishing.Goals as goal

pub loop-t-init : goal.loop-t-init
unfolding every_below some_below
loop-t-init c = (refl, refl)

pub returns-then-root-ended : goal.returns-then-root-ended
returns-then-root-ended c =
    let b = c.loop-t-test.true in
    let open-scope = c.requires.1.at _ b in
    let done = done_asked _ _ _ c.track-k.ensures c.is_root-root.ensures c.is_ended-ended.ensures c.is_bare-bare.ensures open-scope in
    stops _ _ _ _ done (ap not c.if-root-ended.true) b

pub loop-t-preserved : goal.loop-t-preserved
loop-t-preserved c =
    let inv = c.loop-t.invariant in
    let read = c.track-k.ensures in
    let root = c.is_root-root.ensures in
    let ended = c.is_ended-ended.ensures in
    let open-scope = c.requires.1.at _ c.loop-t-test.true in (
      every_next _ _ inv.0 (done_asked _ _ _ read root ended c.is_bare-bare.ensures open-scope) (ap not c.if-root-ended.false),
      some_visit _ _ inv.1 (ended_asked _ (ledger_of _ _ _) _ read root ended),
    )

pub returns : goal.returns
returns c = let inv = c.loop-t.invariant in visited _ _ _ _ inv.0 inv.1 c.loop-t.auto.t-end (omega arith)
