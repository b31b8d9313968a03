-- The test's five parts, in the order of the code: each return knows that the parts before it failed. Assumes nothing.
use Rattle.std.proofs.Common.{refl, sym, ◌∙◌, rules}
use Rattle.plan.proofs.FieldLaws.{state_count_lem}
use Rattle.plan.proofs.RefusalTests.{source_lost, destination_lost, two_tracks, from_final, by_event}
use Rattle.plan_reader.proofs.refusals.bad_transition.Goals as goal

pub returns-then-records-source : goal.returns-then-records-source
returns-then-records-source c = sym (source_lost _ _ _ _ (c.from-source.ensures ∙ c.source_of.ensures) refl (rw state_count_lem (search rules)))

pub returns-then-records-destination : goal.returns-then-records-destination
returns-then-records-destination c = sym (destination_lost _ _ _ _ (c.from-source.ensures ∙ c.source_of.ensures) (c.from-destination.ensures ∙ c.destination_of.ensures) (rw state_count_lem (search rules)) (rw state_count_lem (search rules)))

pub returns-then-track_of : goal.returns-then-track_of
returns-then-track_of c = sym (two_tracks _ _ _ _ (c.from-source.ensures ∙ c.source_of.ensures) (c.from-destination.ensures ∙ c.destination_of.ensures) (rw state_count_lem (search rules)) (rw state_count_lem (search rules)) (λ e. c.if-track_of.true (c.track_of.ensures ∙ e ∙ sym c.track_of-2.ensures)))

pub returns-then-is_final : goal.returns-then-is_final
returns-then-is_final c = sym (from_final _ _ _ _ (c.from-source.ensures ∙ c.source_of.ensures) (c.from-destination.ensures ∙ c.destination_of.ensures) (rw state_count_lem (search rules)) (rw state_count_lem (search rules)) (sym c.track_of.ensures ∙ c.if-track_of.false ∙ c.track_of-2.ensures) (sym c.is_final.ensures ∙ c.if-is_final.true))

pub returns : goal.returns
returns c = rw c.event_of.ensures (sym (by_event _ _ _ _ (c.from-source.ensures ∙ c.source_of.ensures) (c.from-destination.ensures ∙ c.destination_of.ensures) (rw state_count_lem (search rules)) (rw state_count_lem (search rules)) (sym c.track_of.ensures ∙ c.if-track_of.false ∙ c.track_of-2.ensures) (sym c.is_final.ensures ∙ c.if-is_final.false)))
