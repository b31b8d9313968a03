-- 65535 is beyond every state, so a first state within them is the track's own. Assumes nothing.
use Rattle.rules.specs.Plan.{no_state}
use Rattle.std.proofs.Common.{sym, ◌∙◌, le-leb, rules}
use Rattle.plan.proofs.FieldLaws.{state_count_lem}
use Rattle.plan.proofs.RefusalTests.{first_lost, first_here}
use Rattle.plan_reader.proofs.refusals.bad_first.Goals as goal

pub returns-then-records-s : goal.returns-then-records-s
returns-then-records-s c =
    let f = c.from-s.ensures ∙ c.requires in
    rw (le-leb _ _ c.if-records-s.true) (sym (first_lost _ _ _ f (rw state_count_lem (search rules))))

pub returns-else-records-s : goal.returns-else-records-s
unfolding no_state
returns-else-records-s c =
    let f = c.from-s.ensures ∙ c.requires in
    c.is_final.ensures ∙ sym (first_here _ _ _ f (rw state_count_lem (search rules)) (rw state_count_lem (search rules)))
