-- The chains by which the transition of a state for an event is found. Assumes nothing.
use Rattle.std.specs.Prelude.{Bool, ◌&&◌, List, ℕ, ◌+◌, ◌*◌, ◌%◌, Option, Some, None, eqb}
use Rattle.std.proofs.Math.Option as rule
use Rattle.rules.specs.Names.{Bytes, StateNumber, TransitionNumber, EventNumber}
use Rattle.rules.specs.declared.Counts.{Counts}
use Rattle.rules.specs.Plan.{Plan, plan_of, transition}
use Rattle.plan.specs.Chain.{Heads, cell}

-- the transition x leaves the state s for the event e
unfoldable pub is_for : Plan → StateNumber → EventNumber → TransitionNumber → Bool
is_for p s e x = eqb (transition p x).source s && eqb (transition p x).event e

-- the cell of a source and an event
unfoldable pub cell_of : StateNumber → EventNumber → ℕ
cell_of s e = (2 * s + e) % 256

-- every transition is in the chain of its cell
abbrev pub Indexed : Bytes → Counts → List ℕ → List ℕ → Type 0
Indexed bs c last before = Heads (cell (plan_of bs c)) 256 c.transitions last before

-- what the code may or may not answer, as the rules have it
abbrev pub optioned : Option ℕ → rule.Option ℕ
optioned None = rule.none
optioned (Some x) = rule.some x
