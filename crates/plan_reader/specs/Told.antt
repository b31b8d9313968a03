-- Each case of the reader's answer as the rules' reading of a plan. Assumes nothing.
use Rattle.std.specs.Prelude.{Result, Ok, Err}
use Rattle.rules.specs.declared.Refusal.{Refusal}
use Rattle.rules.specs.Acceptance.{Reading, turned_back, accepted}
use Rattle.rules.specs.Refusals.{number_of}
use Rattle.plan.specs.declared.Plan.{Plan}

abbrev pub reading_told : Result Plan Refusal → Reading
reading_told (Ok p) = accepted p.records.counts
reading_told (Err r) = turned_back (number_of r)
