-- The transition's destination. Assumes nothing.
use Rattle.std.proofs.Common.{ap, ◌∙◌}
use Rattle.rules.specs.Plan.{is_final}
use Rattle.event_choice.specs.Next.{is_last}
use Rattle.event_choice.proofs.Visits.{destination_low}
use Rattle.event_choice.proofs.judging.is_last.Goals as goal

pub is_final-requires : goal.is_final-requires
is_final-requires c = destination_low _ _ c.args.plan.now.accepted c.requires c.destination_of-d.ensures

pub returns : goal.returns
unfolding is_last
returns c = c.is_final.ensures ∙ ap (is_final _) c.destination_of-d.ensures
