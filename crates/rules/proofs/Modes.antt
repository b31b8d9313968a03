-- The three modes, by their tests. Assumes nothing.
use mathlib.Core.Path.{◌≡◌, refl, sym}
use mathlib.Core.Bool.{true, false}
use Rattle.rules.specs.declared.Mode.{Mode}
use Rattle.rules.specs.declared.Mode.TheVariants.{Asleep, Forward, Undoing}
use Rattle.rules.specs.Ledger.{is_awake, is_forward, is_undoing}
use Rattle.rules.proofs.Tests.{clash}

pub forward_awake : (m : Mode) → is_forward m ≡ true → is_awake m ≡ true
unfolding is_forward is_awake
forward_awake Asleep h = h
forward_awake Forward h = refl
forward_awake Undoing h = refl

pub forward_is : (m : Mode) → is_forward m ≡ true → m ≡ Forward
unfolding is_forward
forward_is Asleep h = clash h refl
forward_is Forward h = refl
forward_is Undoing h = clash h refl

pub is_forward_lem : (m : Mode) → m ≡ Forward → is_forward m ≡ true
unfolding is_forward
is_forward_lem m h = rw h

pub undoing_is : (m : Mode) → is_undoing m ≡ true → m ≡ Undoing
unfolding is_undoing
undoing_is Asleep h = clash h refl
undoing_is Forward h = clash h refl
undoing_is Undoing h = refl

pub is_undoing_lem : (m : Mode) → m ≡ Undoing → is_undoing m ≡ true
unfolding is_undoing
is_undoing_lem m h = rw h

pub undoing_forward : (m : Mode) → is_undoing m ≡ true → is_forward m ≡ false
unfolding is_undoing is_forward
undoing_forward Asleep h = refl
undoing_forward Forward h = sym h
undoing_forward Undoing h = refl

-- what is awake is one of the two
pub awake_undoing : (m : Mode) → is_awake m ≡ true → is_forward m ≡ false → is_undoing m ≡ true
unfolding is_awake is_forward is_undoing
awake_undoing Asleep a f = a
awake_undoing Forward a f = sym f
awake_undoing Undoing a f = refl
