-- The plan is read; a refusal is the answer, and a deviation is 29. Assumes nothing.
use Rattle.std.proofs.Common.{sym, ap, ◌∙◌}
use Rattle.rules.specs.Call.{refusal}
use Rattle.opening.proofs.FirstStates.{first_figures}
use Rattle.largest.proofs.AnswerLaws.{unread, deviating, shows_refused}
use Rattle.largest.proofs.of_plan.Goals as goal

pub returns-then-some_deviation : goal.returns-then-some_deviation
returns-then-some_deviation c =
    let r = c.refused-then-some_deviation.ensures in
    rw (← c.in-Ok.ensures.bytes) (shows_refused _ _ (deviating _ _ c.in-Ok.read.accepted.read (sym c.some_deviation.ensures ∙ c.if-some_deviation.true)) r.0 r.1 r.2 r.3)

pub of_undeviating-requires : goal.of_undeviating-requires
of_undeviating-requires c =
    (sym c.some_deviation.ensures ∙ c.if-some_deviation.false, first_figures _ _ c.in-Ok.read.accepted c.in-Ok.ensures.firsts)

pub returns-in-Err : goal.returns-in-Err
returns-in-Err c =
    let r = c.refused.ensures in
    shows_refused _ _ (unread _ _ (sym c.in-Err.ensures.reading)) (r.0 ∙ ap refusal c.number.ensures) r.1 r.2 r.3

pub returns-else-some_deviation : goal.returns-else-some_deviation
returns-else-some_deviation c = rw (← c.in-Ok.ensures.bytes) c.of_undeviating.ensures
