-- By the word, then by its mark. Assumes nothing.
use Rattle.std.proofs.Common.{sym, arith}
use Rattle.rules.specs.Plan.{no_state}
use Rattle.plan.proofs.FieldLaws.{window_count_lem}
use Rattle.event_choice.proofs.DayMoves.{on_none, on_shut, on_left}
use Rattle.event_choice.proofs.windows.unless_shut.Goals as goal

pub returns-then-x-eq-NO_STATE : goal.returns-then-x-eq-NO_STATE
unfolding no_state
returns-then-x-eq-NO_STATE c = on_none _ _ c.if-x-eq-NO_STATE.true

pub bounds-shut-x : goal.bounds-shut-x
unfolding no_state
bounds-shut-x c = omega (arith, c.requires.1 c.if-x-eq-NO_STATE.false, c.args.plan.now.accepted.holds.transitions)

pub returns-then-shut-x : goal.returns-then-shut-x
unfolding no_state
returns-then-shut-x c =
    let n = c.if-x-eq-NO_STATE.false in
    on_shut _ _ n c.requires.0 (sym (window_count_lem _ _)) (omega (arith, c.requires.1 n, c.args.plan.now.accepted.holds.transitions)) c.if-shut-x.true

pub returns : goal.returns
unfolding no_state
returns c =
    let n = c.if-x-eq-NO_STATE.false in
    on_left _ _ n c.requires.0 (sym (window_count_lem _ _)) (omega (arith, c.requires.1 n, c.args.plan.now.accepted.holds.transitions)) c.if-shut-x.false
