-- A number beyond the last state is no state; any other is a state of the track that its record names. Assumes nothing.
use Rattle.std.proofs.Common.{sym, le-ltb, rules}
use Rattle.plan.proofs.FieldLaws.{state_count_lem}
use Rattle.plan.proofs.Hosting.{beyond, within}
use Rattle.plan.proofs.Records.is_state_of.Goals as goal

pub returns-then-s-self : goal.returns-then-s-self
returns-then-s-self c = rw (c.from.ensures, c.track_of.ensures) (sym (within _ _ _ (rw state_count_lem (search rules))))

pub returns-else-s-self : goal.returns-else-s-self
returns-else-s-self c = rw (le-ltb _ _ c.if-s-self.false) (sym (beyond _ _ _ (rw state_count_lem (search rules))))
