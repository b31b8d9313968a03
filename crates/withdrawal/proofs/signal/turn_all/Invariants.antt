-- The invariant: the tracks passed have turned if they may, and the count is theirs. Assumes nothing.
use Rattle.plan.specs.Plans.{plan_in}
use Rattle.std.proofs.Common.{◌≡◌, ◌&&◌}
use Rattle.rules.specs.Fold.{count_below}
use Rattle.rules.specs.Rights.{signal_right, is_permitted}
use Rattle.rules.specs.Ledger.{is_forward, written}
use Rattle.rules.specs.Signal.{turned}
use Rattle.rules.proofs.Passes.{up_to}
use Rattle.ledger.specs.Ladder.{ledger_of}
use Rattle.withdrawal.proofs.signal.turn_all.Given as goal

abbrev pub invariant-loop-t : goal.invariant-loop-t
invariant-loop-t l = (l.count ≡ count_below l.t (λ t'. is_permitted (plan_in l.plan.records) signal_right l.society t' && is_forward (ledger_of l.terms l.plan.records.counts l.initial.ledger t').mode)) × (l.ledger ≡ written l.terms l.plan.records.counts.tracks (up_to (turned (plan_in l.plan.records) l.society (ledger_of l.terms l.plan.records.counts l.initial.ledger)) (ledger_of l.terms l.plan.records.counts l.initial.ledger) l.t) l.initial.ledger)
