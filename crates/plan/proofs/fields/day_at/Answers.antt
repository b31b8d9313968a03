-- A day is its low word and, two bytes on, its high word. Assumes nothing.
use Rattle.std.proofs.Common.{◌∙◌}
use Rattle.signed.proofs.Integers.{read_back}
use Rattle.plan.proofs.FieldLaws.{day_words_lem}
use Rattle.plan.proofs.fields.day_at.Goals as goal

pub returns : goal.returns
returns c = read_back _ c.join.type_inv ∙ c.join.ensures ∙ day_words_lem _ _ _ _ c.word_at.ensures c.word_at-2.ensures
