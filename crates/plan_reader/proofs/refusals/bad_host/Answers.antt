-- A root passes; a hosted track's host must be a state, and its track lower. Assumes nothing.
use Rattle.std.proofs.Common.{sym, le-leb, eq-eqb, rules}
use Rattle.plan.proofs.FieldLaws.{state_count_lem}
use Rattle.plan.proofs.RefusalTests.{host_root, host_lost, host_track_lem}
use Rattle.rules.specs.Plan.{no_state}
use Rattle.plan_reader.proofs.refusals.bad_host.Goals as goal

pub returns-else-h : goal.returns-else-h
unfolding no_state
returns-else-h c = rw (eq-eqb _ _ c.if-h.false) (sym (host_root _ _ _ c.host_word-h.ensures c.if-h.false))

pub returns-then-records-s : goal.returns-then-records-s
unfolding no_state
returns-then-records-s c = rw (le-leb _ _ c.if-records-s.true) (sym (host_lost _ _ _ c.host_word-h.ensures c.if-h.true (rw state_count_lem (search rules))))

pub returns-else-records-s : goal.returns-else-records-s
unfolding no_state
returns-else-records-s c = rw (c.from.ensures, c.track_of.ensures, c.from-s.ensures) (sym (host_track_lem _ _ _ c.host_word-h.ensures c.if-h.true (rw state_count_lem (search rules))))
