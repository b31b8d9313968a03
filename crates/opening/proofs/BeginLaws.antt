-- Begin: the leading words are stamped, every track sleeps, and the roots enter their first states, as the rules have it. Assumes nothing.
use Rattle.std.proofs.Common.{◌≡◌, refl, sym, ap, ◌∙◌, Bool, true, false, not, List, ℕ, ◌<◌, arith, ltb, length, ne_eqb, ltb-true}
use Rattle.std.proofs.Math.Bool.{and-false}
use borrow.Author.Tests.{not-true, not-false}
use Rattle.rules.specs.declared.Counts.{Counts}
use Rattle.rules.specs.declared.Terms.{Terms}
use Rattle.rules.specs.Leading.{stamped}
use Rattle.rules.specs.Plan.{Plan, plan_of, track_count, state_count, no_state, optional, is_root, is_state_of, first_state}
use Rattle.rules.specs.Ledger.{Ledger, sleeping, written}
use Rattle.rules.specs.Opening.{fresh, entered, enter, roots_first, begun}
use Rattle.rules.proofs.Tests.{and_holds}
use Rattle.rules.proofs.Opening.{wakes_same, roots_to}
use Rattle.rules.proofs.Scopes.{root_none}
use Rattle.rules.proofs.LeadingLaws.{length-stamped_lem}
use Rattle.rules.proofs.Stored.{Storable, written_same, written_twice, length-written_lem, tidy_written, read_written}
use Rattle.plan.proofs.FieldLaws.{track_count_lem, state_count_lem}
use Rattle.plan.proofs.WindowLaws.{length_most}
use Rattle.ledger.specs.Ladder.{Room, Tidy, Accepts, ledger_of}
use Rattle.ledger.proofs.Words.{leading_room}
use Rattle.lookup.specs.Figures.{Numbers}
use Rattle.lookup.proofs.Facts.{plan_facts}
use Rattle.opening.specs.Entering.{states_of, Sleepers}

-- a root's word, as the code has it
module _ (bs : List ℕ) (c : Counts) (a : Accepts bs c) (t : ℕ) (b : t < c.tracks) {q : Bool} (e : q ≡ is_root (plan_of bs c) t) where
  abbrev p : Plan
  p = plan_of bs c

  pub not_rooted : not q ≡ true → optional no_state ≡ roots_first p t
  unfolding optional roots_first no_state
  not_rooted h = sym (rw (sym e ∙ not-true _ h, and-false (ltb t (track_count p))))

  pub rooted : {r : ℕ} → not q ≡ false → r ≡ first_state p t → optional r ≡ roots_first p t
  unfolding optional is_state_of no_state
  rooted h f =
      let d : t < track_count p = omega (arith, track_count_lem bs c) in
      let l = ltb-true (first_state p t) (state_count p) (and_holds _ _ ((plan_facts bs c a).first_own t d)).0 in
      ap optional f
      ∙ (rw (ne_eqb (first_state p t) 65535 (λ (z : first_state p t ≡ 65535). absurd (omega (arith, state_count_lem bs c, a.holds.states)))))
      ∙ sym (roots_to p (plan_facts bs c a) t d (root_none p t (sym e ∙ not-false _ h)))

-- a ledger keeps its room when it is stamped, and the plan's length is a word
pub stamped_room : (terms : Terms) (bs ws : List ℕ) {vs : List ℕ} {tracks : ℕ} → Room terms ws tracks → vs ≡ stamped bs ws → Room terms vs tracks
stamped_room terms bs ws r e = record { few = r.few; words = omega (arith, r.words, ap length e, length-stamped_lem bs ws (leading_room r)) }

pub length-word_lem : {bs : List ℕ} {c : Counts} → Accepts bs c → length bs < 65536
length-word_lem {bs} {c} a = omega (arith, length_most bs c (plan_facts bs c a).windows (plan_facts bs c a).grants a.holds)

-- a ledger all asleep can be stored, and is read back
abbrev asleep : Ledger
asleep t = sleeping

storable_asleep : (terms : Terms) (n : ℕ) → Storable terms n asleep
unfolding sleeping
storable_asleep terms n = record { fits = λ t. omega arith; beyond = λ t b. refl; blank = λ t a. refl }

module _ (terms : Terms) (bs : List ℕ) (c : Counts) (a : Accepts bs c) (ws : List ℕ) (r : Room terms ws c.tracks) {vs : List ℕ}
    (e : vs ≡ written terms c.tracks (λ t. sleeping) ws) where
  pub begin_length : length vs ≡ length ws
  begin_length = ap length e ∙ length-written_lem terms c.tracks asleep ws (storable_asleep terms c.tracks).fits r.words

  pub begin_tidy : Tidy terms vs c.tracks
  begin_tidy =
      record {
        room = record { few = r.few; words = omega (arith, begin_length, r.words) };
        tidy = rw e (tidy_written terms c.tracks asleep ws (storable_asleep terms c.tracks) r.words);
      }

  all_asleep_lem : ledger_of terms c vs ≡ asleep
  unfolding ledger_of
  all_asleep_lem = rw e (read_written terms c.tracks asleep ws (storable_asleep terms c.tracks).fits r.words (λ t b. refl))

  pub begin_sleepers : (to : List ℕ) → Sleepers (plan_of bs c) (states_of to) (ledger_of terms c vs)
  begin_sleepers to u w = ap (λ (l : Ledger). l u) all_asleep_lem

  module _ (to : List ℕ) (m : Numbers to c.tracks (roots_first (plan_of bs c))) where
    roots_enter : (t : ℕ) → t < track_count (plan_of bs c) → states_of to t ≡ roots_first (plan_of bs c) t
    unfolding states_of
    roots_enter t h = m.at t (omega (arith, track_count_lem bs c))

    -- the pass after the sleep is begin
    pub begin_done : {us : List ℕ} → us ≡ written terms c.tracks (enter (plan_of bs c) (states_of to) (ledger_of terms c vs)) vs
        → us ≡ written terms c.tracks (begun (plan_of bs c)) ws
    unfolding begun enter
    begin_done d =
        let p = plan_of bs c in
        d
        ∙ ap (λ (v : List ℕ). written terms c.tracks (enter p (states_of to) (ledger_of terms c vs)) v) e
        ∙ written_twice terms c.tracks asleep ws (storable_asleep terms c.tracks).fits r.words (enter p (states_of to) (ledger_of terms c vs))
        ∙ written_same terms c.tracks _ _ ws
        (λ t b.
        let h : t < track_count p = omega (arith, track_count_lem bs c) in
        (λ i. entered (all_asleep_lem i t) (fresh p t) (roots_enter t h i) (wakes_same p (plan_facts bs c a) (states_of to) (roots_first p) roots_enter t i)))
