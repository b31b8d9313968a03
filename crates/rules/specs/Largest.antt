-- How many entries a plan can ask for: the paths of a track, the entries along them, and what the call shows of each track. Assumes nothing.
use Rattle.std.specs.Prelude.{◌≡◌, Bool, true, cond, not, ◌&&◌, ◌||◌, List, [], ◌∷◌, ◌++◌, ℕ, zero, suc, ◌+◌, ◌-◌, ◌≤◌, ◌<◌, length, replicate, ltb, eqb}
use Rattle.rules.specs.declared.Terms.{Terms}
use Rattle.rules.specs.Names.{Bytes, Words, TrackNumber, StateNumber, TransitionNumber}
use Rattle.rules.specs.declared.Counts.{Counts}
use Rattle.rules.specs.Fold.{some_below, greatest_below, tabulate}
use Rattle.rules.specs.Plan.{Plan, plan_of, track_count, state_count, transition_count, no_state, transition, replacement, is_hosting, first_state}
use Rattle.rules.specs.Acceptance.{Reading, turned_back, accepted, read_plan}
use Rattle.rules.specs.Ledger.{ledger_at}
use Rattle.rules.specs.Call.{Answer, refusal, done}

-- 65535 stands for no transition: a path has ended
unfoldable pub no_transition : TransitionNumber
no_transition = 65535

module _ (p : Plan) where
  -- "one for each transition with a code"
  unfoldable pub of_transition : TransitionNumber → ℕ
  of_transition x = cond (eqb (transition p x).code 0) 0 1

  -- "one for each hosting state with a replacement"
  unfoldable pub of_state : StateNumber → ℕ
  of_state s = cond (is_hosting p s && not (eqb (replacement p s) 0)) 1 0

  -- x is a transition that leaves the state s
  unfoldable pub leaves : StateNumber → TransitionNumber → Bool
  leaves s x = ltb x (transition_count p) && eqb (transition p x).source s

  -- a "path from" a state, "as transition numbers in order": each leaves the state that the one before it leads to
  unfoldable pub is_path : StateNumber → List TransitionNumber → Bool
  is_path s [] = true
  is_path s (x ∷ xs) = leaves s x && is_path (transition p x).destination xs

  -- the state that it ends in
  unfoldable pub end_of : StateNumber → List TransitionNumber → StateNumber
  end_of s [] = s
  end_of s (x ∷ xs) = end_of (transition p x).destination xs

  -- some path leads from one state to another
  pub record Leads (s u : StateNumber) : Type 0 where
    pub by : List TransitionNumber
    pub path : is_path s by ≡ true
    pub to : end_of s by ≡ u

  -- "the .. number of entries along" it, "its last state included"; the empty path has its one state's
  unfoldable pub entries_along : StateNumber → List TransitionNumber → ℕ
  entries_along s [] = of_state s
  entries_along s (x ∷ xs) = of_state s + (of_transition x + entries_along (transition p x).destination xs)

  -- a path from s that has so many entries, "and no path has more"
  pub record Attains (s : StateNumber) (entries : ℕ) (path : List TransitionNumber) : Type 0 where
    pub leads : is_path s path ≡ true
    pub has : entries_along s path ≡ entries
    pub no_more : (other : List TransitionNumber) → is_path s other ≡ true → entries_along s other ≤ entries

  -- the most along the paths from s of at most n transitions
  unfoldable pub most_within : ℕ → StateNumber → ℕ
  most_within zero s = of_state s
  most_within (suc n) s =
      of_state s
      + greatest_below (transition_count p)
      (λ x. cond (leaves s x) (of_transition x + most_within n (transition p x).destination) 0)

  -- "for each track the largest number of entries along any path from its first state": without a cycle a path has fewer transitions than
  -- there are states. Of a track that does not exist it is 0
  unfoldable pub largest : TrackNumber → ℕ
  largest t = cond (ltb t (track_count p)) (most_within (state_count p) (first_state p t)) 0

  -- "a deviation"
  unfoldable pub has_deviation : Bool
  has_deviation = some_below (transition_count p) (λ x. not (eqb (transition p x).deviation no_state))

  -- a "cycle of transitions": one that leaves a state, and a path from there that leads back
  pub record Cycle : Type 0 where
    pub from : StateNumber
    pub first : TransitionNumber
    pub leaving : leaves from first ≡ true
    pub back : Leads (transition p first).destination from

  -- some path from s has n transitions
  unfoldable pub goes_on : ℕ → StateNumber → Bool
  goes_on zero s = true
  goes_on (suc n) s = some_below (transition_count p) (λ x. leaves s x && goes_on n (transition p x).destination)

  -- a path with as many transitions as there are states comes to some state twice. (That there is one exactly if there is a `Cycle` is
  -- shown with the laws of paths)
  unfoldable pub has_cycle : Bool
  has_cycle = some_below (state_count p) (goes_on (state_count p))

  -- 29 "the plan has a deviation or a cycle"
  unfoldable pub is_unbounded : Bool
  is_unbounded = has_deviation || has_cycle

-- 29 "only for this call, after 27": a refusal, or the counts of a plan "with no deviation and no cycle of transitions"
unfoldable pub read_bounded : Bytes → Reading
read_bounded bs =
    elim (read_plan bs) [
      | turned_back r ↦ turned_back r
      | accepted c ↦ cond (is_unbounded (plan_of bs c)) (turned_back 29) (accepted c)
    ]

unfoldable pub largest_answer : Bytes → Answer
largest_answer bs = elim (read_bounded bs) [ turned_back r ↦ refusal r | accepted c ↦ done [] ]

-- the figure shown of a track; 0 where the plan is refused or there is no such track
unfoldable pub largest_of : Bytes → TrackNumber → ℕ
largest_of bs t = elim (read_bounded bs) [ turned_back r ↦ 0 | accepted c ↦ largest (plan_of bs c) t ]

-- one figure and one length for each of the 32 tracks that there can be, and room for each of the 256 transitions: each belongs to one track,
-- and on its path it comes once
abbrev pub most_tracks : ℕ
most_tracks = 32

abbrev pub most_transitions : ℕ
most_transitions = 256

-- the paths of the tracks below n, end to end
unfoldable pub joined : ℕ → (TrackNumber → List TransitionNumber) → List TransitionNumber
joined zero path = []
joined (suc n) path = joined n path ++ path n

unfoldable pub padded : List TransitionNumber → List TransitionNumber
padded xs = xs ++ replicate (most_transitions - length xs) no_transition

-- What the contract of the call promises of its answer and of the arrays beside it, each word of them, for the paths that it shows.
-- "which of several equal paths is free": nothing more is promised of them than `attained`
pub record Shows (bs : Bytes) (path : TrackNumber → List TransitionNumber) (told : Answer) (figures lengths steps : List ℕ) : Type 0 where
  pub answered : told ≡ largest_answer bs
  pub attained : (c : Counts) → read_bounded bs ≡ accepted c → (t : TrackNumber) → t < c.tracks
      → Attains (plan_of bs c) (first_state (plan_of bs c) t) (largest_of bs t) (path t)
  -- no path where the plan is refused or there is no such track
  pub pathless : (t : TrackNumber) → ((c : Counts) → read_bounded bs ≡ accepted c → c.tracks ≤ t) → path t ≡ []
  pub figures_are : figures ≡ tabulate most_tracks (largest_of bs)
  pub lengths_are : lengths ≡ tabulate most_tracks (λ t. length (path t))
  pub steps_are : steps ≡ padded (joined most_tracks path)
  -- none is cut off
  pub fits : length (joined most_tracks path) ≤ most_transitions

-- "No history, whatever its days and rights, makes the track hold more", of the ledger that words hold
unfoldable pub HoldsNoMore : Terms → Plan → Words → Type 0
HoldsNoMore terms p ws = (t : TrackNumber) → length (ledger_at terms ws (track_count p) t).held ≤ largest p t
