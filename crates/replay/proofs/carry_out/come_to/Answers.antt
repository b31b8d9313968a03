-- What the two callees promise. Assumes nothing.
use Rattle.std.proofs.Common.{refl, ap, ◌∙◌}
use Rattle.journal.specs.declared.tally.Tally.{Tally}
use Rattle.replay.proofs.carry_out.come_to.Goals as goal

pub returns : goal.returns
returns c = record { place = refl; fired = ap (λ (t : Tally). t.fired) c.advanced.ensures; held = ap (λ (t : Tally). t.held) c.advanced.ensures ∙ c.held_total-held.ensures }
