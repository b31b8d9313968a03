-- The tests of the definition, the first alone if it holds. Assumes nothing.
use Rattle.std.proofs.Common.{eq-eqb, ne_eqb}
use Rattle.rules.specs.Plan.{no_state}
use Rattle.rules.specs.Soundness.{good_deviation}
use Rattle.soundness.proofs.entries.good_deviation.Goals as goal

pub returns-then-deviation-eq-NO_STATE : goal.returns-then-deviation-eq-NO_STATE
unfolding good_deviation no_state
returns-then-deviation-eq-NO_STATE c = rw (eq-eqb c.args.deviation 65535 c.if-deviation-eq-NO_STATE.true)

pub returns : goal.returns
unfolding good_deviation no_state
returns c = rw (ne_eqb c.args.deviation 65535 c.if-deviation-eq-NO_STATE.false, ← c.from-s.ensures, c.is_root-root.ensures, c.is_state_of-own.ensures, c.is_final-last.ensures)
