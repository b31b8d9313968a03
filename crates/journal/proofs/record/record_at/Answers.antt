-- One law for each way out. Assumes nothing.
use Rattle.std.proofs.Common.{refl, sym, ◌∙◌}
use Rattle.journal.proofs.Records.{at_end, too_short, unknown, wrong, cut, whole, known_length}
use Rattle.journal.proofs.record.record_at.Goals as goal

pub returns-then-journal-at : goal.returns-then-journal-at
returns-then-journal-at c = sym (at_end _ _ c.if-journal-at.true)

pub returns-then-left-lt-FIRST_FIELD : goal.returns-then-left-lt-FIRST_FIELD
returns-then-left-lt-FIRST_FIELD c = sym (too_short _ _ c.if-journal-at.false c.if-left-lt-FIRST_FIELD.true)

pub returns-in_default : goal.returns-in_default
returns-in_default c = sym (unknown _ _ _ _ _ c.word_at.ensures refl refl c.if-left-lt-FIRST_FIELD.false c.in_default.ensures)

pub returns-then-from-length : goal.returns-then-from-length
returns-then-from-length c =
    let k = sym c.in-Some.ensures ∙ c.word_at.ensures in
    let n = c.length-length.ensures in
    sym (wrong _ _ _ _ _ k n (c.from.ensures ∙ c.word_at-2.ensures) c.if-left-lt-FIRST_FIELD.false (λ z. known_length _ (sym n ∙ z)) c.if-from-length.true)

pub returns-then-left-length : goal.returns-then-left-length
returns-then-left-length c =
    let k = sym c.in-Some.ensures ∙ c.word_at.ensures in
    let n = c.length-length.ensures in
    sym (cut _ _ _ _ _ k n (c.from.ensures ∙ c.word_at-2.ensures) c.if-left-lt-FIRST_FIELD.false (λ z. known_length _ (sym n ∙ z)) c.if-from-length.false c.if-left-length.true)

pub returns : goal.returns
returns c =
    let k = sym c.in-Some.ensures ∙ c.word_at.ensures in
    let n = c.length-length.ensures in
    c.whole_at.ensures ∙ sym (whole _ _ _ _ _ k n (c.from.ensures ∙ c.word_at-2.ensures) c.if-left-lt-FIRST_FIELD.false (λ z. known_length _ (sym n ∙ z)) c.if-from-length.false c.if-left-length.false)
