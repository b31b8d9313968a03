-- Two words are set, and the others stay. Assumes nothing.
use Rattle.std.proofs.Common.{ap, ◌∙◌}
use Rattle.rules.specs.Signed.{low_word, high_word}
use Rattle.signed.proofs.Integers.{read_back}
use Rattle.ledger.proofs.LeadingLaws.{day_steps}
use Rattle.ledger.proofs.leading.put_day.Goals as goal

pub returns : goal.returns
returns c =
    let e = read_back _ c.ranges.day.sfits in
    day_steps _ _ _ _ c.requires (c.low_word.ensures ∙ ap low_word e) (c.high_word.ensures ∙ ap high_word e)
