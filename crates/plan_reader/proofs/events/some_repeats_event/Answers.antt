-- Some transition meets the test if its closure finds one. Assumes nothing.
use Rattle.plan.specs.Plans.{plan_in}
use Rattle.std.proofs.Common.{rules, tests}
use Rattle.rules.proofs.Ranges.{some_from_any}
use Rattle.rules.specs.Acceptance.{repeats_event}
use Rattle.plan_reader.proofs.events.some_repeats_event.Goals as goal

pub returns : goal.returns
returns c = some_from_any (repeats_event (plan_in c.args.records.now)) _ c.any.ensures.ran (λ s b q k. search (rules, tests))
