-- Every track below the count of the tracks is asked. Assumes nothing.
use Rattle.std.proofs.Common.{not, rules, tests}
use Rattle.rules.proofs.Ranges.{every_from_all}
use Rattle.rules.specs.Ledger.{is_awake}
use Rattle.ledger.specs.Ladder.{ledger_of}
use Rattle.lookup.proofs.reading.all_asleep.Goals as goal

pub returns : goal.returns
returns c =
    let a = c.args in
    every_from_all (λ t. not (is_awake (ledger_of a.terms a.c a.ledger.now t).mode)) _ c.all.ensures.ran (λ t b q k. search (rules, tests))
