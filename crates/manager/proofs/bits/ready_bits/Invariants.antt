-- The invariant: the bit is that of the track, and the bits are those of the tracks passed that may be fired. Assumes nothing.
use Rattle.plan.specs.Plans.{plan_in}
use Rattle.std.proofs.Common.{◌≡◌, ◌^◌}
use Rattle.rules.specs.Fire.{may_fire}
use Rattle.ledger.specs.Ladder.{ledger_of}
use Rattle.manager.proofs.BitLaws.{bits_below}
use Rattle.manager.proofs.bits.ready_bits.Given as goal

abbrev pub invariant-loop-t : goal.invariant-loop-t
invariant-loop-t l = (l.bit ≡ 2 ^ l.t) × (l.bits ≡ bits_below l.t (may_fire (plan_in l.plan.records) (ledger_of l.terms l.plan.records.counts l.ledger)))
