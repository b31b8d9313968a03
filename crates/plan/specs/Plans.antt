-- The plan that its records are. Assumes nothing.
use Rattle.rules.specs.Plan.{Plan, plan_of}
use Rattle.plan.specs.declared.Records.{Records}

abbrev pub plan_in : Records → Plan
plan_in r = plan_of r.bytes.now r.counts
