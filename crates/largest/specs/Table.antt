-- What the walk over a plan's states keeps of each of them, as two lists of words, and what it promises of them. Assumes nothing.
use Rattle.std.specs.Prelude.{◌≡◌, Bool, true, false, cond, List, ℕ, ◌<◌, length, get_or, map, ltb, eqb}
use Rattle.rules.specs.Names.{Bytes, StateNumber, TransitionNumber}
use Rattle.rules.specs.declared.Counts.{Counts}
use Rattle.rules.specs.Plan.{Plan, plan_of, state_count, transition}
use Rattle.rules.specs.Largest.{leaves, Leads, goes_on, has_cycle}
use Rattle.plan.specs.Passes.{state_slots, Chains}
use Rattle.ledger.specs.Ladder.{Accepts}
use Rattle.largest.specs.declared.explore.Best.{Best}
use Rattle.largest.specs.declared.explore.Onward.{Onward}
use Rattle.largest.specs.Chosen.{most_from, best_gain, step_word}

-- the table as two lists of words
abbrev pub most_words : List Onward → List ℕ
most_words table = map (λ k. k.most) table

abbrev pub step_words : List Onward → List ℕ
step_words table = map (λ k. k.step) table

-- the word of a state that is entered; below it a word is the most entries from the state on, above it the state was not come to yet
abbrev pub entered_word : ℕ
entered_word = 65534

-- what is known of a state: no path from it goes round, and its two words
pub record Known (p : Plan) (s : StateNumber) (entries step : ℕ) : Type 0 where
  pub ends : goes_on p (state_count p) s ≡ false
  pub entries_are : entries ≡ most_from p s
  pub step_is : step ≡ step_word p s

pub record Table (p : Plan) (most step : List ℕ) : Type 0 where
  pub most_size : length most ≡ state_slots
  pub step_size : length step ≡ state_slots
  pub known : (s : StateNumber) → s < state_count p → get_or most s 0 < entered_word → Known p s (get_or most s 0) (get_or step s 0)

-- what was known is known, and nothing more is entered
pub record Kept (before after : List ℕ) : Type 0 where
  pub known : (u : StateNumber) → get_or before u 0 < entered_word → get_or after u 0 < entered_word
  pub entered : (u : StateNumber) → get_or after u 0 ≡ entered_word → get_or before u 0 ≡ entered_word

-- a state is come to, by a transition, from every state that is entered
pub record Entering (bs : Bytes) (c : Counts) (head next : List ℕ) (s : StateNumber) (most step : List ℕ) : Type 0 where
  pub accepts : Accepts bs c
  pub chains : Chains (leaves (plan_of bs c)) state_slots c.transitions head next
  pub state : s < c.states
  pub table : Table (plan_of bs c) most step
  pub led : (u : StateNumber) → get_or most u 0 ≡ entered_word
      → (x : TransitionNumber) × (leaves (plan_of bs c) u x ≡ true) × Leads (plan_of bs c) (transition (plan_of bs c) x).destination s

-- every path from the state ends, and it is known; or one goes on so far
pub record Done (p : Plan) (s : StateNumber) (before most step : List ℕ) : Type 0 where
  pub table : Table p most step
  pub kept : Kept before most
  pub known : get_or most s 0 < entered_word

pub record Explored (p : Plan) (s : StateNumber) (left : ℕ) (before most step : List ℕ) (ends : Bool) : Type 0 where
  pub done : ends ≡ true → Done p s before most step
  pub round : ends ≡ false → goes_on p left s ≡ true

-- a state is entered, and led to from every state that is
pub record Exploring (bs : Bytes) (c : Counts) (head next : List ℕ) (s : StateNumber) (most step : List ℕ) : Type 0 where
  pub accepts : Accepts bs c
  pub chains : Chains (leaves (plan_of bs c)) state_slots c.transitions head next
  pub state : s < c.states
  pub table : Table (plan_of bs c) most step
  pub led : (u : StateNumber) → get_or most u 0 ≡ entered_word → Leads (plan_of bs c) u s

-- what lies behind its transitions
pub record Found (p : Plan) (s : StateNumber) (before most step : List ℕ) (best : Best) : Type 0 where
  pub table : Table p most step
  pub kept : Kept before most
  pub ends : goes_on p (state_count p) s ≡ false
  pub entries_are : best.entries ≡ best_gain p s
  pub step_is : best.step ≡ step_word p s

-- the better of the best so far and a transition with so many entries, of equal ones the transition; nothing is better than no entry
unfoldable pub better_of : Best → TransitionNumber → ℕ → Best
better_of b x entries =
    cond (eqb entries 0) b
    (cond (ltb entries b.entries) b (record { entries = entries; step = x }))

-- all states are known, and there is no cycle; or there is one
pub record Whole (p : Plan) (most step : List ℕ) (ends : Bool) : Type 0 where
  pub known : ends ≡ true → (s : StateNumber) → s < state_count p → Known p s (get_or most s 0) (get_or step s 0)
  pub straight : ends ≡ true → has_cycle p ≡ false
  pub round : ends ≡ false → has_cycle p ≡ true

-- of every state: no path from it goes round, and the word of its step
pub record Stepped (p : Plan) (step : List ℕ) : Type 0 where
  pub ends : (s : StateNumber) → s < state_count p → goes_on p (state_count p) s ≡ false
  pub word : (s : StateNumber) → s < state_count p → get_or step s 0 ≡ step_word p s
