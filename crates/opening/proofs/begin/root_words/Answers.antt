use Rattle.std.proofs.Common.{arith}
use Rattle.lookup.proofs.FiguresLaws.{number_more, numbers_all}
use Rattle.opening.proofs.begin.root_words.Goals as goal

pub loop-t-preserved : goal.loop-t-preserved
loop-t-preserved c =
    let n = c.args.plan.now.accepted.holds.tracks in
    number_more _ c.loop-t.invariant (omega arith) c.root_word.ensures

pub returns : goal.returns
returns c = numbers_all (omega arith) c.loop-t.invariant
