-- Each mode by itself. Assumes nothing.
use mathlib.Core.Path.{◌≡◌, refl, ◌∙◌}
use denote.Enum.Bare.{sameb}
use Rattle.rules.specs.declared.Mode.{Mode}
use Rattle.rules.specs.declared.Mode.TheVariants.{Asleep, Forward, Undoing}
use Rattle.rules.specs.contracts.Mode.{the_type}
use Rattle.rules.specs.Ledger.{is_forward}
use Rattle.rules.proofs.Mode.is_forward.Goals as goal

told : (m : Mode) → sameb the_type m Forward ≡ is_forward m
unfolding is_forward
told Asleep = refl
told Forward = refl
told Undoing = refl

pub returns : goal.returns
returns c = c.eq.ensures ∙ told c.args.self
