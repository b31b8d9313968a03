-- The test's parts in the order of the code: each return knows that the parts before it failed. Assumes nothing.
use Rattle.std.proofs.Common.{not, refl, sym, ap, ◌∙◌, arith}
use Rattle.plan.proofs.FieldLaws.{state_count_lem}
use Rattle.plan.proofs.RefusalTests.{no_deviation, deviation_lost, deviation_final, deviation_hosted, deviation_code, state_within}
use Rattle.rules.specs.Plan.{no_state, mover, owner}
use borrow.Author.Tests.{not-true, not-false}
use Rattle.plan_reader.proofs.refusals.bad_deviation.Goals as goal

pub returns-then-deviation : goal.returns-then-deviation
unfolding no_state
returns-then-deviation c = sym (no_deviation _ _ _ _ refl c.deviation_of-deviation.ensures c.if-deviation.true)

pub returns-then-not-is_state_of : goal.returns-then-not-is_state_of
unfolding no_state mover
returns-then-not-is_state_of c = sym (deviation_lost _ _ _ _ (c.from-t.ensures ∙ c.track_of.ensures ∙ ap (owner _) (c.from.ensures ∙ c.source_of.ensures)) (c.from-s.ensures ∙ c.deviation_of-deviation.ensures) (λ e. c.if-deviation.false (sym c.from-s.ensures ∙ e)) (sym c.is_state_of.ensures ∙ not-true _ (ap not c.if-not-is_state_of.true)))

pub track_of-requires : goal.track_of-requires
track_of-requires c = let e = c.from.ensures ∙ c.source_of.ensures in omega (arith, e)

pub is_final-requires : goal.is_final-requires
is_final-requires c =
    let l = state_within _ _ _ (sym c.is_state_of.ensures ∙ not-false _ (ap not c.if-not-is_state_of.false)) in
    rw state_count_lem at l

pub returns-then-is_final : goal.returns-then-is_final
unfolding no_state mover
returns-then-is_final c = sym (deviation_final _ _ _ _ (c.from-t.ensures ∙ c.track_of.ensures ∙ ap (owner _) (c.from.ensures ∙ c.source_of.ensures)) (c.from-s.ensures ∙ c.deviation_of-deviation.ensures) (λ e. c.if-deviation.false (sym c.from-s.ensures ∙ e)) (sym c.is_state_of.ensures ∙ not-false _ (ap not c.if-not-is_state_of.false)) (sym c.is_final.ensures ∙ c.if-is_final.true))

pub is_root-requires : goal.is_root-requires
unfolding mover
is_root-requires c = rw (c.from-t.ensures, c.track_of.ensures, c.from.ensures, c.source_of.ensures) c.requires.2

pub returns-then-not-is_root : goal.returns-then-not-is_root
unfolding no_state mover
returns-then-not-is_root c = sym (deviation_hosted _ _ _ _ (c.from-t.ensures ∙ c.track_of.ensures ∙ ap (owner _) (c.from.ensures ∙ c.source_of.ensures)) (c.from-s.ensures ∙ c.deviation_of-deviation.ensures) (λ e. c.if-deviation.false (sym c.from-s.ensures ∙ e)) (sym c.is_state_of.ensures ∙ not-false _ (ap not c.if-not-is_state_of.false)) (sym c.is_final.ensures ∙ c.if-is_final.false) (sym c.is_root.ensures ∙ not-true _ (ap not c.if-not-is_root.true)))

pub returns : goal.returns
unfolding no_state mover
returns c = rw c.code_of.ensures (sym (deviation_code _ _ _ _ (c.from-t.ensures ∙ c.track_of.ensures ∙ ap (owner _) (c.from.ensures ∙ c.source_of.ensures)) (c.from-s.ensures ∙ c.deviation_of-deviation.ensures) (λ e. c.if-deviation.false (sym c.from-s.ensures ∙ e)) (sym c.is_state_of.ensures ∙ not-false _ (ap not c.if-not-is_state_of.false)) (sym c.is_final.ensures ∙ c.if-is_final.false) (sym c.is_root.ensures ∙ not-false _ (ap not c.if-not-is_root.false))))
