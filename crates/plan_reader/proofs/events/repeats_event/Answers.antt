-- Transitions share source and event if these are one number. Assumes nothing.
use Rattle.plan.specs.Plans.{plan_in}
use Rattle.std.proofs.Common.{sym, ◌∙◌, rules, tests}
use Rattle.rules.proofs.Ranges.{some_from_any}
use Rattle.plan_reader.proofs.CellLaws.{shares, repeats_some, by_step}
use Rattle.plan_reader.proofs.events.repeats_event.Goals as goal

pub returns : goal.returns
returns c =
    some_from_any (shares (plan_in c.args.records.now) c.args.x) _ c.any.ensures.ran (λ y b q k. search (rules, tests, by_step))
    ∙ sym (repeats_some _ _)
