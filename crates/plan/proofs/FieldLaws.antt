-- The fields of the plan that bytes hold: a record's fields by its number are the words at its place. Assumes nothing.
use Rattle.std.proofs.Common.{◌≡◌, sym, ap, ◌∙◌, List, ℕ, ◌+◌, ◌<◌}
use Rattle.rules.specs.declared.Counts.{Counts}
use Rattle.rules.specs.Signed.{joined}
use Rattle.rules.specs.Record.{word, day_at}
use Rattle.rules.specs.Plan.{State, Transition, Window, Grant, plan_of, track_count, state_count, transition_count, window_count, grant_count, host_word, state, transition, window, grant, owner, replacement, track_record, state_record, transition_record, window_record, grant_record, state_at, transition_at, window_at, grant_at}
use Rattle.rules.proofs.Folds.{length-tabulate_lem, get_d_tabulate}

-- a day by its two words
pub day_words_lem : (bs : List ℕ) (at low high : ℕ) → low ≡ word bs at → high ≡ word bs (at + 2) → joined low high ≡ day_at bs at
unfolding day_at
day_words_lem bs at low high l h = rw (l, h)

module _ (bs : List ℕ) (c : Counts) where
  pub track_count_lem : track_count (plan_of bs c) ≡ c.tracks
  unfolding track_count plan_of
  track_count_lem = length-tabulate_lem _ _

  pub state_count_lem : state_count (plan_of bs c) ≡ c.states
  unfolding state_count plan_of
  state_count_lem = length-tabulate_lem _ _

  pub transition_count_lem : transition_count (plan_of bs c) ≡ c.transitions
  unfolding transition_count plan_of
  transition_count_lem = length-tabulate_lem _ _

  pub window_count_lem : window_count (plan_of bs c) ≡ c.windows
  unfolding window_count plan_of
  window_count_lem = length-tabulate_lem _ _

  pub grant_count_lem : grant_count (plan_of bs c) ≡ c.grants
  unfolding grant_count plan_of
  grant_count_lem = length-tabulate_lem _ _

  pub host_word_lem : (t : ℕ) → t < c.tracks → host_word (plan_of bs c) t ≡ word bs (track_record t + 4)
  unfolding host_word plan_of
  host_word_lem t l = get_d_tabulate _ t _ _ l

  pub state_of : (s : ℕ) → s < c.states → state (plan_of bs c) s ≡ state_at bs (state_record c s)
  unfolding state plan_of
  state_of s l = get_d_tabulate _ s _ _ l

  pub transition_of : (x : ℕ) → x < c.transitions → transition (plan_of bs c) x ≡ transition_at bs (transition_record c x)
  unfolding transition plan_of
  transition_of x l = get_d_tabulate _ x _ _ l

  pub window_of_lem : (w : ℕ) → w < c.windows → window (plan_of bs c) w ≡ window_at bs (window_record c w)
  unfolding window plan_of
  window_of_lem w l = get_d_tabulate _ w _ _ l

  pub grant_of : (g : ℕ) → g < c.grants → grant (plan_of bs c) g ≡ grant_at bs (grant_record c g)
  unfolding grant plan_of
  grant_of g l = get_d_tabulate _ g _ _ l

  -- the fields of a state
  pub owner_at : (s : ℕ) → s < c.states → owner (plan_of bs c) s ≡ word bs (state_record c s + 4)
  unfolding owner state_at
  owner_at s l = ap (λ (r : State). r.track) (state_of s l)

  pub final_at : (s : ℕ) → s < c.states → (state (plan_of bs c) s).final ≡ word bs (state_record c s + 6)
  unfolding state_at
  final_at s l = ap (λ (r : State). r.final) (state_of s l)

  pub replacement_at : (s : ℕ) → s < c.states → replacement (plan_of bs c) s ≡ word bs (state_record c s + 8)
  unfolding replacement state_at
  replacement_at s l = ap (λ (r : State). r.replacement) (state_of s l)

  -- the fields of a transition
  pub source_at : (x : ℕ) → x < c.transitions → (transition (plan_of bs c) x).source ≡ word bs (transition_record c x + 4)
  unfolding transition_at
  source_at x l = ap (λ (r : Transition). r.source) (transition_of x l)

  pub event_at : (x : ℕ) → x < c.transitions → (transition (plan_of bs c) x).event ≡ word bs (transition_record c x + 6)
  unfolding transition_at
  event_at x l = ap (λ (r : Transition). r.event) (transition_of x l)

  pub code_at : (x : ℕ) → x < c.transitions → (transition (plan_of bs c) x).code ≡ word bs (transition_record c x + 8)
  unfolding transition_at
  code_at x l = ap (λ (r : Transition). r.code) (transition_of x l)

  pub deviation_at : (x : ℕ) → x < c.transitions → (transition (plan_of bs c) x).deviation ≡ word bs (transition_record c x + 10)
  unfolding transition_at
  deviation_at x l = ap (λ (r : Transition). r.deviation) (transition_of x l)

  pub destination_at : (x : ℕ) → x < c.transitions → (transition (plan_of bs c) x).destination ≡ word bs (transition_record c x + 12)
  unfolding transition_at
  destination_at x l = ap (λ (r : Transition). r.destination) (transition_of x l)

  -- the fields of a window whose record starts at a place
  module _ (w : ℕ) (l : w < c.windows) {at : ℕ} (e : at ≡ window_record c w) where
    there : window_at bs at ≡ window (plan_of bs c) w
    there = ap (window_at bs) e ∙ sym (window_of_lem w l)

    pub named_at : word bs (at + 4) ≡ (window (plan_of bs c) w).transition
    unfolding window_at
    named_at = ap (λ (r : Window). r.transition) there

    pub first_day_at : day_at bs (at + 6) ≡ (window (plan_of bs c) w).first
    unfolding window_at
    first_day_at = ap (λ (r : Window). r.first) there

    pub last_day_at : day_at bs (at + 10) ≡ (window (plan_of bs c) w).last
    unfolding window_at
    last_day_at = ap (λ (r : Window). r.last) there

  -- the fields of a grant whose record starts at a place
  module _ (g : ℕ) (l : g < c.grants) {at : ℕ} (e : at ≡ grant_record c g) where
    stands : grant_at bs at ≡ grant (plan_of bs c) g
    stands = ap (grant_at bs) e ∙ sym (grant_of g l)

    pub society_at_lem : word bs (at + 4) ≡ (grant (plan_of bs c) g).society
    unfolding grant_at
    society_at_lem = ap (λ (r : Grant). r.society) stands

    pub root_at : word bs (at + 6) ≡ (grant (plan_of bs c) g).root
    unfolding grant_at
    root_at = ap (λ (r : Grant). r.root) stands

    pub rights_at : word bs (at + 8) ≡ (grant (plan_of bs c) g).rights
    unfolding grant_at
    rights_at = ap (λ (r : Grant). r.rights) stands
