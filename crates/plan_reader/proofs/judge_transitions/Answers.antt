-- Where the tracks pass, each return knows that the tests before it in what is left of the table failed and that its own holds.
-- Assumes nothing.
use Rattle.std.proofs.Common.{sym, ◌∙◌}
use Rattle.plan_reader.proofs.Reader.{then_transitions}
use Rattle.plan_reader.proofs.judge_transitions.Goals as goal

pub returns-then-some_bad_transition : goal.returns-then-some_bad_transition
returns-then-some_bad_transition c =
    sym (then_transitions _ _ _ _ c.requires ∙ rw (sym c.some_bad_transition.ensures ∙ c.if-some_bad_transition.true))

pub some_bad_deviation-requires : goal.some_bad_deviation-requires
some_bad_deviation-requires c = (c.requires.states, sym c.some_bad_transition.ensures ∙ c.if-some_bad_transition.false)

pub returns-then-some_bad_deviation : goal.returns-then-some_bad_deviation
returns-then-some_bad_deviation c =
    sym (then_transitions _ _ _ _ c.requires ∙ rw (
      sym c.some_bad_transition.ensures ∙ c.if-some_bad_transition.false,
      sym c.some_bad_deviation.ensures ∙ c.if-some_bad_deviation.true,
    ))

pub some_repeated_event-requires : goal.some_repeated_event-requires
some_repeated_event-requires c = sym c.some_bad_transition.ensures ∙ c.if-some_bad_transition.false

pub returns-then-some_repeated_event : goal.returns-then-some_repeated_event
returns-then-some_repeated_event c =
    sym (then_transitions _ _ _ _ c.requires ∙ rw (
      sym c.some_bad_transition.ensures ∙ c.if-some_bad_transition.false,
      sym c.some_bad_deviation.ensures ∙ c.if-some_bad_deviation.false,
      sym c.some_repeated_event.ensures ∙ c.if-some_repeated_event.true,
    ))

pub returns-then-some_too_high : goal.returns-then-some_too_high
returns-then-some_too_high c =
    sym (then_transitions _ _ _ _ c.requires ∙ rw (
      sym c.some_bad_transition.ensures ∙ c.if-some_bad_transition.false,
      sym c.some_bad_deviation.ensures ∙ c.if-some_bad_deviation.false,
      sym c.some_repeated_event.ensures ∙ c.if-some_repeated_event.false,
      sym c.some_too_high.ensures ∙ c.if-some_too_high.true,
    ))

pub returns-then-some_bad_window : goal.returns-then-some_bad_window
returns-then-some_bad_window c =
    sym (then_transitions _ _ _ _ c.requires ∙ rw (
      sym c.some_bad_transition.ensures ∙ c.if-some_bad_transition.false,
      sym c.some_bad_deviation.ensures ∙ c.if-some_bad_deviation.false,
      sym c.some_repeated_event.ensures ∙ c.if-some_repeated_event.false,
      sym c.some_too_high.ensures ∙ c.if-some_too_high.false,
      sym c.some_bad_window.ensures ∙ c.if-some_bad_window.true,
    ))

pub returns-then-some_bad_grant : goal.returns-then-some_bad_grant
returns-then-some_bad_grant c =
    sym (then_transitions _ _ _ _ c.requires ∙ rw (
      sym c.some_bad_transition.ensures ∙ c.if-some_bad_transition.false,
      sym c.some_bad_deviation.ensures ∙ c.if-some_bad_deviation.false,
      sym c.some_repeated_event.ensures ∙ c.if-some_repeated_event.false,
      sym c.some_too_high.ensures ∙ c.if-some_too_high.false,
      sym c.some_bad_window.ensures ∙ c.if-some_bad_window.false,
      sym c.some_bad_grant.ensures ∙ c.if-some_bad_grant.true,
    ))

pub returns : goal.returns
returns c =
    sym (then_transitions _ _ _ _ c.requires ∙ rw (
      sym c.some_bad_transition.ensures ∙ c.if-some_bad_transition.false,
      sym c.some_bad_deviation.ensures ∙ c.if-some_bad_deviation.false,
      sym c.some_repeated_event.ensures ∙ c.if-some_repeated_event.false,
      sym c.some_too_high.ensures ∙ c.if-some_too_high.false,
      sym c.some_bad_window.ensures ∙ c.if-some_bad_window.false,
      sym c.some_bad_grant.ensures ∙ c.if-some_bad_grant.false,
    ))
