-- Whether the tracks visited are tidy, and where the next one starts; each has room where all have. Assumes nothing.
use Rattle.std.proofs.Common.{◌≡◌}
use Rattle.rules.specs.Fold.{every_below}
use Rattle.rules.specs.Layout.{track_place}
use Rattle.rules.specs.Soundness.{is_tidy}
use Rattle.ledger.proofs.tidy.are_tidy.Given as goal

abbrev pub invariant-loop-t : goal.invariant-loop-t
invariant-loop-t l =
    (l.at ≡ track_place l.terms l.t) × (l.all ≡ every_below l.t (λ t'. is_tidy l.terms l.ledger (track_place l.terms t')))
