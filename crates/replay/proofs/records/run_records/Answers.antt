use Rattle.std.proofs.Common.{refl, arith, rules}
use Rattle.replay.proofs.CarriedOut.{held_told}
use Rattle.replay.proofs.Underway.{underway_start, within_close, prepared, next_within, underway_next, underway_done}
use Rattle.replay.proofs.records.run_records.Goals as goal

pub loop-terms-init : goal.loop-terms-init
loop-terms-init c = (underway_start _ _ _ _ _ _ _ _ _ _ c.requires.0 (held_told _ _ _ _ _ c.held_total-held.ensures) refl refl, refl, refl)

pub close-requires : goal.close-requires
close-requires c = within_close _ _ _ _ _ _ _ _ c.requires.2 c.requires.1 _ _ _ _ c.loop-terms.invariant.0 c.loop-terms.invariant.1

pub returns-then-size-eq0 : goal.returns-then-size-eq0
returns-then-size-eq0 c = underway_done _ _ _ _ _ _ _ _ c.requires.2 c.requires.1 _ _ _ _ c.loop-terms.invariant.0 c.loop-terms.invariant.1 _ _ c.record_at-found.ensures c.size-size.ensures c.if-size-eq0.true _ _ c.close.ensures

pub carry_out-so_far-requires : goal.carry_out-so_far-requires
carry_out-so_far-requires c = (prepared _ _ _ _ _ _ _ _ c.requires.2 c.requires.1 _ _ _ _ c.loop-terms.invariant.0 c.loop-terms.invariant.1, omega (arith, c.size-size.ensures, c.if-size-eq0.false), record { started = c.requires.3; indexed = c.index-index.ensures })

pub overflow_add-at : goal.overflow_add-at
overflow_add-at c = omega (arith, c.requires.1, next_within _ _ _ _ _ _ _ _ c.requires.2 c.requires.1 _ _ _ _ c.loop-terms.invariant.0 c.loop-terms.invariant.1 _ _ c.record_at-found.ensures c.size-size.ensures c.if-size-eq0.false)

pub loop-terms-smaller : goal.loop-terms-smaller
loop-terms-smaller c = omega (arith, c.if-size-eq0.false, next_within _ _ _ _ _ _ _ _ c.requires.2 c.requires.1 _ _ _ _ c.loop-terms.invariant.0 c.loop-terms.invariant.1 _ _ c.record_at-found.ensures c.size-size.ensures c.if-size-eq0.false)

pub loop-terms-preserved : goal.loop-terms-preserved
loop-terms-preserved c = (underway_next _ _ _ _ _ _ _ _ c.requires.2 c.requires.1 _ _ _ _ c.loop-terms.invariant.0 c.loop-terms.invariant.1 _ _ c.record_at-found.ensures c.size-size.ensures c.if-size-eq0.false _ _ _ c.carry_out-so_far.ensures, search rules, search rules)
