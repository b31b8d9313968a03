-- The invariant: what is written so far, with the text of the rest of the journal, is the whole text. A record has bytes, so the measure, the
-- bytes left, falls; where none of a known kind stands whole, the last lines are written. Assumes nothing.
use Rattle.plan.specs.Plans.{plan_in}
use Rattle.std.proofs.Common.{◌≡◌, suc, ◌-◌, length}
use Rattle.rules.specs.Transcript.{replay}
use Rattle.replay.specs.Left.{words_from}
use Rattle.replay.proofs.Underway.{Underway}
use Rattle.replay.proofs.records.run_records.Given as goal

abbrev pub invariant-loop-terms : goal.invariant-loop-terms
invariant-loop-terms l =
    Underway l.terms l.plan.records.bytes.now l.journal l.plan.records.counts l.initial.output l.start (replay l.terms l.plan.records.bytes.now l.journal (plan_in l.plan.records) (suc (length l.journal)) 0 l.initial.ledger 0) (words_from l.terms l.plan.records.bytes.now l.journal (plan_in l.plan.records) (suc (length l.journal)) 0 l.initial.ledger) l.at l.ledger l.output l.so_far
    × (length l.output ≡ length l.initial.output)
    × (length l.ledger ≡ length l.initial.ledger)

abbrev pub decreases-loop-terms : goal.decreases-loop-terms
decreases-loop-terms l = length l.journal - l.at
