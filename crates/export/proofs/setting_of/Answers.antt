-- By bit 0. Assumes nothing.
use Rattle.std.proofs.Common.{refl, eq-eqb, ne_eqb}
use Rattle.export.specs.Options.{setting_of}
use Rattle.export.proofs.setting_of.Goals as goal

pub returns-then-options-eq1 : goal.returns-then-options-eq1
unfolding setting_of
returns-then-options-eq1 c = rw (eq-eqb _ _ c.if-options-eq1.true) refl

pub returns : goal.returns
unfolding setting_of
returns c = rw (ne_eqb _ _ c.if-options-eq1.false) refl
