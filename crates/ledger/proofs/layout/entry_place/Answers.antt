-- A track's entries follow its first three words; places are small. Assumes nothing.
use Rattle.std.proofs.Common.{arith}
use Rattle.ledger.proofs.LayoutLaws.{place_small}
use Rattle.ledger.proofs.layout.entry_place.Goals as goal

pub overflow_add-result : goal.overflow_add-result
overflow_add-result c = omega (arith, c.track_place.ensures, place_small c.args.terms c.args.t (omega arith) c.requires.0)

pub overflow_add-result-2 : goal.overflow_add-result-2
overflow_add-result-2 c = omega (arith, c.track_place.ensures, place_small c.args.terms c.args.t (omega arith) c.requires.0)
