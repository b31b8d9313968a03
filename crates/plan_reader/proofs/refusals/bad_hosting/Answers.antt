-- A hosting state is judged by its final field, any other by its replacement. Assumes nothing.
use Rattle.std.proofs.Common.{sym, ◌∙◌}
use Rattle.plan.proofs.RefusalTests.{hosting_here, hosting_none}
use Rattle.plan_reader.proofs.refusals.bad_hosting.Goals as goal

pub returns-then-hosting : goal.returns-then-hosting
returns-then-hosting c = c.is_final.ensures ∙ sym (hosting_here _ _ (sym c.requires.1 ∙ c.if-hosting.true))

pub returns-else-hosting : goal.returns-else-hosting
returns-else-hosting c = rw c.replacement_of.ensures (sym (hosting_none _ _ (sym c.requires.1 ∙ c.if-hosting.false)))
