-- A way on from any list of calls to a withdrawn ledger: signals and firings alone, by societies that have the rights. Assumes nothing.
use Rattle.std.specs.Prelude.{◌≡◌, true, List, [], ◌∷◌, ◌<◌}
use Rattle.std.proofs.Math.Option.{none}
use Rattle.rules.specs.Names.{TrackNumber, Society}
use Rattle.rules.specs.Plan.{Plan, track_count, host}
use Rattle.rules.specs.Rights.{signal_right, fire_right, is_permitted}
use Rattle.rules.specs.Call.{Call, signal, fire}

-- one society may signal every root, and for each track this one may fire it
pub record MayWithdraw (p : Plan) (signaller : Society) (firer : TrackNumber → Society) : Type 0 where
  pub signals : (t : TrackNumber) → t < track_count p → host p t ≡ none → is_permitted p signal_right signaller t ≡ true
  pub fires : (t : TrackNumber) → t < track_count p → is_permitted p fire_right (firer t) t ≡ true

-- a signal, and each of these tracks fired and signalled again: "With a deviation other than 65535, the track goes forward in that state"
module _ (signaller : Society) (firer : TrackNumber → Society) where
  unfoldable pub withdrawing : List TrackNumber → List Call
  withdrawing [] = signal (record { society = signaller }) ∷ []
  withdrawing (t ∷ ts) = signal (record { society = signaller }) ∷ fire (record { track = t; society = firer t }) ∷ withdrawing ts
