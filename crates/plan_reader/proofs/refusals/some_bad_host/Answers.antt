-- Some record meets the test if its closure finds one. Assumes nothing.
use Rattle.plan.specs.Plans.{plan_in}
use Rattle.std.proofs.Common.{rules, tests}
use Rattle.rules.proofs.Ranges.{some_from_any}
use Rattle.rules.specs.Acceptance.{bad_host}
use Rattle.plan_reader.proofs.refusals.some_bad_host.Goals as goal

pub returns : goal.returns
returns c = some_from_any (bad_host (plan_in c.args.records.now)) _ c.any.ensures.ran (λ s b q k. search (rules, tests))
