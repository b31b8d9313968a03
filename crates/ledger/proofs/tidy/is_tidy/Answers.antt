-- An asleep track's words, or the mode, the count and the words behind the entries held. Assumes nothing.
use Rattle.rules.specs.Layout.{entry_width, head_words, track_width}
use Rattle.ledger.proofs.TidyLaws.{asleep_tidy, bad_mode, bad_count, awake_tidy, zero_part}
use Rattle.std.proofs.Common.{◌∙◌, arith, ◌+◌, ◌*◌, ◌-◌, rules}
use Rattle.ledger.proofs.tidy.is_tidy.Goals as goal

pub returns-then-mode-eq0 : goal.returns-then-mode-eq0
unfolding track_width head_words entry_width
returns-then-mode-eq0 c = asleep_tidy _ _ _ c.if-mode-eq0.true (c.are_zero.ensures ∙ zero_part _ _ _ _ (omega (arith, c.track_width.ensures.0)) c.requires)

pub returns-then-mode-gt2 : goal.returns-then-mode-gt2
returns-then-mode-gt2 c = bad_mode _ _ _ c.if-mode-gt2.true

pub returns-then-limit-count : goal.returns-then-limit-count
returns-then-limit-count c = bad_count _ _ _ (search rules) (search rules)

pub returns : goal.returns
unfolding track_width head_words entry_width
returns c =
    let a = c.args in
    let held = entry_width * c.from-count.result in
    awake_tidy _ _ _ (search rules) held c.if-mode-eq0.false (search rules) (omega (arith, c.from-count.ensures))
    (c.are_zero-2.ensures ∙ zero_part a.ledger.now (a.at + head_words + held) _ (entry_width * a.terms.limit - held) (omega (arith, c.track_width.ensures.0)) (omega (arith, c.limit-limit.ensures)))
