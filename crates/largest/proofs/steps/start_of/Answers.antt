-- At most 32 lengths of 16 bits each. Assumes nothing.
use Rattle.std.proofs.Common.{take, arith, rules, tests}
use Rattle.std.proofs.lemmas.Iterator.{YieldsList-from_slice}
use Rattle.std.proofs.lemmas.Iterator.Adapters.{fits_from_length, at_most_from_yields_List}
use Rattle.std.proofs.lemmas.List.{length-take}
use Rattle.largest.proofs.steps.start_of.Goals as goal

pub sum-requires-clause-fits : goal.sum-requires-clause-fits
sum-requires-clause-fits c =
    fits_from_length _ _ 32 _ (at_most_from_yields_List (YieldsList-from_slice (take c.args.t c.args.lengths.now) cc) (omega (arith, length-take c.args.t c.args.lengths.now)))
    c.map.ensures.closure (omega arith) (λ x r q k. search (rules, tests))
