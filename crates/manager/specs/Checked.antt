-- The checks that a call makes first: the plan's counts, or the first refusal. Assumes nothing.
use Rattle.std.specs.Prelude.{◌≡◌, Bool, false, List, [], ◌∷◌, ℕ, zero, suc, ◌-◌, ◌≤◌, ◌<◌, length, take, drop}
use Rattle.rules.specs.declared.Counts.{Counts}
use Rattle.rules.specs.Names.{Bytes, Words, Place, Refusal, TrackNumber}
use Rattle.rules.specs.declared.Terms.{Terms}
use Rattle.rules.specs.Fold.{first_refusal}
use Rattle.rules.specs.Plan.{Plan, plan_of}
use Rattle.rules.specs.Acceptance.{Reading, turned_back, accepted, read_plan}
use Rattle.rules.specs.Layout.{entries_place}
use Rattle.rules.specs.Scope.{has_open_scope, is_over}
use Rattle.rules.specs.Call.{too_short, ledger_refusal, entries_part}
use Rattle.plan.specs.Passes.{first_marks}
use Rattle.ledger.specs.Ladder.{ledger_of}
use Rattle.lookup.specs.Figures.{Figures}

-- the plan is read, and then a test of an accepted plan may refuse: the plan's counts, or the first refusal
unfoldable pub cleared : Counts → Refusal → Reading
cleared c zero = accepted c
cleared c (suc r) = turned_back (suc r)

unfoldable pub further_read : Bytes → (Plan → Refusal) → Reading
further_read bs f = elim (read_plan bs) [ turned_back r ↦ turned_back r | accepted c ↦ cleared c (f (plan_of bs c)) ]

-- 2 to 17
unfoldable pub lent : (terms : Terms) → Bytes → Words → Reading
lent terms bs ws = further_read bs (λ p. first_refusal ((17, too_short terms p ws) ∷ []))

-- 2 to 17, and then 24 and 18
unfoldable pub checked : (terms : Terms) → Bytes → Words → Reading
checked terms bs ws = further_read bs (λ p. ledger_refusal terms bs p ws)

-- what the checks find beside: the first state of each track of a plan that is accepted
abbrev pub FirstsFound : Bytes → List ℕ → Type 0
FirstsFound bs firsts = (c : Counts) → read_plan bs ≡ accepted c → firsts ≡ first_marks (plan_of bs c) c.states

-- and who has an open scope, where the ledger is sound and not over
abbrev pub ScopesFound : (terms : Terms) → Bytes → Words → List Bool → Type 0
ScopesFound terms bs ws opens =
    (c : Counts) → checked terms bs ws ≡ accepted c → is_over (plan_of bs c) (ledger_of terms c ws) ≡ false
    → Figures false opens c.tracks (has_open_scope (plan_of bs c) (ledger_of terms c ws))

-- the part of the ledger between two places is the one that holds a track's entries, and starts there if it is not empty
pub record Span (terms : Terms) (bs : Bytes) (ws : Words) (t : TrackNumber) (from to : Place) : Type 0 where
  pub starts : from ≤ to
  pub ends : to ≤ length ws
  pub place : from < to → from ≡ entries_place terms t
  pub part : take (to - from) (drop from ws) ≡ entries_part terms bs ws t
