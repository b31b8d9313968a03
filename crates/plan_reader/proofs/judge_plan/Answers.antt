-- Each return knows that the tests before it in the table of refusals failed and that its own holds; the last, that the tracks pass.
-- Assumes nothing.
use Rattle.std.proofs.Common.{sym, ◌∙◌}
use Rattle.plan_reader.proofs.Reader.{in_order}
use Rattle.plan_reader.proofs.judge_plan.Goals as goal

pub returns-then-no_track-clause-number : goal.returns-then-no_track-clause-number
returns-then-no_track-clause-number c = sym (in_order _ _ ∙ rw (sym c.no_track.ensures ∙ c.if-no_track.true))

pub returns-then-some_bad_state-clause-number : goal.returns-then-some_bad_state-clause-number
returns-then-some_bad_state-clause-number c =
    sym (in_order _ _ ∙ rw (
      sym c.no_track.ensures ∙ c.if-no_track.false,
      sym c.some_bad_state.ensures ∙ c.if-some_bad_state.true,
    ))

pub returns-then-some_bad_host-clause-number : goal.returns-then-some_bad_host-clause-number
returns-then-some_bad_host-clause-number c =
    sym (in_order _ _ ∙ rw (
      sym c.no_track.ensures ∙ c.if-no_track.false,
      sym c.some_bad_state.ensures ∙ c.if-some_bad_state.false,
      sym c.some_bad_host.ensures ∙ c.if-some_bad_host.true,
    ))

pub returns-then-some_bad_first-clause-number : goal.returns-then-some_bad_first-clause-number
returns-then-some_bad_first-clause-number c =
    sym (in_order _ _ ∙ rw (
      sym c.no_track.ensures ∙ c.if-no_track.false,
      sym c.some_bad_state.ensures ∙ c.if-some_bad_state.false,
      sym c.some_bad_host.ensures ∙ c.if-some_bad_host.false,
      sym c.some_bad_first.ensures ∙ c.if-some_bad_first.true,
    ))

pub returns-then-some_bad_hosting-clause-number : goal.returns-then-some_bad_hosting-clause-number
returns-then-some_bad_hosting-clause-number c =
    sym (in_order _ _ ∙ rw (
      sym c.no_track.ensures ∙ c.if-no_track.false,
      sym c.some_bad_state.ensures ∙ c.if-some_bad_state.false,
      sym c.some_bad_host.ensures ∙ c.if-some_bad_host.false,
      sym c.some_bad_first.ensures ∙ c.if-some_bad_first.false,
      sym c.some_bad_hosting.ensures ∙ c.if-some_bad_hosting.true,
    ))
