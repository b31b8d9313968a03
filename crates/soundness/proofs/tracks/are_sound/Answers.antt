-- Every track below the count of the tracks is asked. Assumes nothing.
use Rattle.plan.specs.Plans.{plan_in}
use Rattle.std.proofs.Common.{rules, tests}
use Rattle.rules.proofs.Ranges.{every_from_all}
use Rattle.ledger.specs.Ladder.{ledger_of}
use Rattle.soundness.specs.Parts.{sound_track}
use Rattle.soundness.proofs.tracks.are_sound.Goals as goal

pub returns : goal.returns
returns c =
    every_from_all (sound_track (plan_in c.args.plan.now.records) (ledger_of c.args.terms c.args.plan.now.records.counts c.args.ledger.now)) _ c.all.ensures.ran (λ t b q k. search (rules, tests))
