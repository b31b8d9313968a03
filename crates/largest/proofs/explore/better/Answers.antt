-- The two tests are those of the definition. Assumes nothing.
use Rattle.std.proofs.Common.{eq-eqb, ne_eqb, lt-ltb, le-ltb}
use Rattle.largest.specs.Table.{better_of}
use Rattle.largest.proofs.explore.better.Goals as goal

pub returns-then-entries-eq0 : goal.returns-then-entries-eq0
unfolding better_of
returns-then-entries-eq0 c = rw (eq-eqb _ _ c.if-entries-eq0.true)

pub returns-then-entries-b : goal.returns-then-entries-b
unfolding better_of
returns-then-entries-b c = rw (ne_eqb _ _ c.if-entries-eq0.false, lt-ltb _ _ c.if-entries-b.true)

pub returns : goal.returns
unfolding better_of
returns c = rw (ne_eqb _ _ c.if-entries-eq0.false, le-ltb _ _ c.if-entries-b.false)
