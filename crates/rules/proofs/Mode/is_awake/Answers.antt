-- Each mode by itself. Assumes nothing.
use mathlib.Core.Path.{◌≡◌, refl, ◌∙◌}
use mathlib.Core.Bool.{not}
use denote.Enum.Bare.{sameb}
use Rattle.rules.specs.declared.Mode.{Mode}
use Rattle.rules.specs.declared.Mode.TheVariants.{Asleep, Forward, Undoing}
use Rattle.rules.specs.contracts.Mode.{the_type}
use Rattle.rules.specs.Ledger.{is_awake}
use Rattle.rules.proofs.Mode.is_awake.Goals as goal

told : (m : Mode) → not (sameb the_type m Asleep) ≡ is_awake m
unfolding is_awake
told Asleep = refl
told Forward = refl
told Undoing = refl

pub returns : goal.returns
returns c = c.ne.ensures ∙ told c.args.self
