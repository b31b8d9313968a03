-- Turning keeps every track awake or asleep as it was, its state, and what it holds, and so does a signal of those that it may not turn.
-- Assumes nothing.
use Rattle.std.proofs.Common.{◌≡◌, refl, Bool, true, false}
use Rattle.rules.specs.declared.Mode.{Mode}
use Rattle.rules.specs.declared.Mode.TheVariants.{Asleep, Forward, Undoing}
use Rattle.rules.specs.Ledger.{Configuration, is_awake, is_forward, sleeping}
use Rattle.rules.specs.Signal.{turned_track}
use Rattle.withdrawal.specs.Turning.{turned_if}

turned_track_awake : (x : Configuration) → is_awake (turned_track x).mode ≡ is_awake x.mode
unfolding turned_track is_forward is_awake
turned_track_awake x = go x.mode refl
  where
    go : (m : Mode) → x.mode ≡ m → is_awake (turned_track x).mode ≡ is_awake x.mode
    go Asleep e = rw e
    go Forward e = rw e
    go Undoing e = rw e

turned_track_held : (x : Configuration) → (turned_track x).held ≡ x.held
unfolding turned_track
turned_track_held x = go (is_forward x.mode) refl
  where
    go : (b : Bool) → is_forward x.mode ≡ b → (turned_track x).held ≡ x.held
    go true e = rw e
    go false e = rw e

turned_track_state : (x : Configuration) → (turned_track x).state ≡ x.state
unfolding turned_track
turned_track_state x = go (is_forward x.mode) refl
  where
    go : (b : Bool) → is_forward x.mode ≡ b → (turned_track x).state ≡ x.state
    go true e = rw e
    go false e = rw e

pub turned_awake : (may : Bool) (x : Configuration) → is_awake (turned_if may x).mode ≡ is_awake x.mode
turned_awake true x = turned_track_awake x
turned_awake false x = refl

pub turned_held : (may : Bool) (x : Configuration) → (turned_if may x).held ≡ x.held
turned_held true x = turned_track_held x
turned_held false x = refl

pub turned_state : (may : Bool) (x : Configuration) → (turned_if may x).state ≡ x.state
turned_state true x = turned_track_state x
turned_state false x = refl

pub turned_sleeping : (may : Bool) → turned_if may sleeping ≡ sleeping
unfolding turned_track sleeping is_forward
turned_sleeping true = refl
turned_sleeping false = refl
