-- Over, without the right anywhere, or the tracks turned, then abandoning and finish: the three outcomes of a signal. Assumes nothing.
use Rattle.std.proofs.Common.{sym, ◌∙◌}
use Rattle.rules.specs.Answers.{signal_told}
use Rattle.withdrawal.proofs.Storing.{settled_words}
use Rattle.withdrawal.proofs.Outcomes.{orderly, turned_orderly, turned_nested, signal_over, signal_lacks, signal_done}
use Rattle.withdrawal.proofs.signal.signal.Goals as goal

pub returns-then-is_over : goal.returns-then-is_over
unfolding signal_told
returns-then-is_over c = signal_over _ _ _ _ c.requires _ (sym c.is_over.ensures ∙ c.if-is_over.true)

pub returns-then-not-holds_somewhere : goal.returns-then-not-holds_somewhere
unfolding signal_told
returns-then-not-holds_somewhere c =
    signal_lacks _ _ _ _ c.requires _ (sym c.is_over.ensures ∙ c.if-is_over.false) c.holds_somewhere.ensures c.if-not-holds_somewhere.true

pub turn_all-count-requires : goal.turn_all-count-requires
turn_all-count-requires c = (orderly _ _ _ _ c.requires, c.permitted-may.ensures)

pub abandon-left-requires : goal.abandon-left-requires
abandon-left-requires c =
    let w = c.turn_all-count.ensures.1 in
    let n = sym c.is_over.ensures ∙ c.if-is_over.false in
    (turned_orderly _ _ _ _ c.requires _ w, turned_nested _ _ _ _ c.requires _ n w)

pub returns : goal.returns
unfolding signal_told
returns c =
    let t = c.turn_all-count.ensures in
    signal_done _ _ _ _ c.requires _ (sym c.is_over.ensures ∙ c.if-is_over.false) c.holds_somewhere.ensures c.if-not-holds_somewhere.false t.0 t.1
    (settled_words _ _ _ (turned_orderly _ _ _ _ c.requires _ t.1) c.abandon-left.ensures.0 c.finish.ensures)
