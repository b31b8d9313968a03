-- Soundness by its parts: a clause of every track is asked track by track, so all of them are asked of one track after the other; the same of
-- scopes. Then the words, over, and the clauses, as the code asks them. Assumes nothing.
use Rattle.std.proofs.Common.{◌≡◌, refl, sym, ap, ap₂, ◌∙◌, Bool, true, false, not, ◌&&◌, ◌||◌, List, [], ◌∷◌, ℕ, zero, suc, eqb, ℤ}
use Rattle.std.proofs.Math.Bool.{and-false, and_assoc}
use borrow.Author.Tests.{not-true, not-false}
use Rattle.rules.specs.declared.Counts.{Counts}
use Rattle.rules.specs.declared.Terms.{Terms}
use Rattle.rules.specs.Fold.{some_below, every_below}
use Rattle.rules.specs.Day.{is_day}
use Rattle.rules.specs.Leading.{last_day}
use Rattle.rules.specs.Plan.{Plan, plan_of, track_count, state_count, is_root, is_state_of}
use Rattle.rules.specs.Ledger.{Entry, Ledger, is_awake, ledger_at}
use Rattle.rules.specs.Scope.{is_over}
use Rattle.rules.specs.Event.{is_closing}
use Rattle.rules.specs.Finish.{is_finishing}
use Rattle.rules.specs.Signal.{is_abandoning}
use Rattle.rules.specs.Soundness.{are_tidy, every_held, roots_awake, states_own, codes_real, good_deviation, deviations_good, is_whole, scopes_whole, is_hosted_well, hosts_awake, closing_done, finish_done, abandoning_done, is_live, is_sound}
use Rattle.rules.proofs.Folds.{every_same}
use Rattle.plan.proofs.FieldLaws.{track_count_lem, state_count_lem}
use Rattle.ledger.specs.Ladder.{ledger_of}
use Rattle.soundness.specs.Parts.{good_entry, sound_track, sound_scope}

and_and : (a b c d : Bool) → ((a && b) && (c && d)) ≡ ((a && c) && (b && d))
and_and true true c d = refl
and_and true false c d = sym (and-false c)
and_and false b c d = refl

-- two tests of each number, of each entry
every_and : (n : ℕ) (f g : ℕ → Bool) → every_below n (λ k. f k && g k) ≡ (every_below n f && every_below n g)
unfolding every_below
every_and zero f g = refl
every_and (suc n) f g = ap (λ z. z && (f n && g n)) (every_and n f g) ∙ and_and (every_below n f) (every_below n g) (f n) (g n)

held_and : (f g : Entry → Bool) (es : List Entry) → every_held (λ e. f e && g e) es ≡ (every_held f es && every_held g es)
unfolding every_held
held_and f g [] = refl
held_and f g (e ∷ es) = ap (λ z. (f e && g e) && z) (held_and f g es) ∙ and_and (f e) (g e) (every_held f es) (every_held g es)

-- every number fails a test, or some passes it
pub not_some : (n : ℕ) (f : ℕ → Bool) → every_below n (λ k. not (f k)) ≡ not (some_below n f)
unfolding every_below some_below
not_some zero f = refl
not_some (suc n) f = ap (λ z. z && not (f n)) (not_some n f) ∙ neither (some_below n f) (f n)
  where
    neither : (a b : Bool) → (not a && not b) ≡ not (a || b)
    neither true b = refl
    neither false b = refl

-- the clauses in the rules' order
in_order : (x w h d f a : Bool) → (((x && h) && f) && ((w && d) && a)) ≡ (((((x && w) && h) && d) && f) && a)
in_order false w h d f a = refl
in_order true false h d f a = and-false (h && f)
in_order true true false d f a = refl
in_order true true true false f a = and-false f
in_order true true true true f a = refl

module _ (p : Plan) (l : Ledger) where
  tracks_part : every_below (track_count p) (sound_track p l) ≡ ((roots_awake p l && states_own p l && codes_real p l && deviations_good p l) && hosts_awake p l)
  unfolding sound_track good_entry roots_awake states_own hosts_awake codes_real deviations_good
  tracks_part =
      let n = track_count p in
      let root : ℕ → Bool = λ t. not (is_root p t) || is_awake (l t).mode in
      let own : ℕ → Bool = λ t. not (is_awake (l t).mode) || is_state_of p t (l t).state in
      let real : Entry → Bool = λ e. not (eqb e.code 0) in
      let good : ℕ → Entry → Bool = λ t e. good_deviation p t e.deviation in
      let entries : ℕ → Bool = λ t. every_held (λ e. real e && good t e) (l t).held in
      every_and n (λ t. root t && own t && entries t) (is_hosted_well p l)
      ∙ ap (λ a. a && hosts_awake p l)
      (every_and n (λ t. root t && own t) entries
      ∙ ap₂ (λ a b. a && b) (every_and n root own)
      (every_same n entries _ (λ t b. held_and real (good t) (l t).held) ∙ every_and n (λ t. every_held real (l t).held) (λ t. every_held (good t) (l t).held))
      ∙ sym (and_assoc (roots_awake p l && states_own p l) (codes_real p l) (deviations_good p l)))

  scopes_part : every_below (state_count p) (sound_scope p l) ≡ ((scopes_whole p l && closing_done p l) && abandoning_done p l)
  unfolding sound_scope scopes_whole closing_done abandoning_done
  scopes_part =
      let n = state_count p in
      every_and n (λ s. is_whole p l s && not (is_closing p l s)) (λ s. not (is_abandoning p l s))
      ∙ ap₂ (λ a b. a && b) (every_and n (is_whole p l) (λ s. not (is_closing p l s)) ∙ ap (λ a. scopes_whole p l && a) (not_some n (is_closing p l)))
      (not_some n (is_abandoning p l))

  live_parts : ((every_below (track_count p) (sound_track p l) && not (is_finishing p l)) && every_below (state_count p) (sound_scope p l)) ≡ is_live p l
  unfolding is_live finish_done
  live_parts =
      ap₂ (λ a b. (a && not (is_finishing p l)) && b) tracks_part scopes_part
      ∙ in_order (roots_awake p l && states_own p l && codes_real p l && deviations_good p l) (scopes_whole p l) (hosts_awake p l) (closing_done p l) (finish_done p l) (abandoning_done p l)

-- what the code answered of the tracks, of the finish and of the scopes
pub live_asked : (bs : List ℕ) (c : Counts) (l : Ledger) {a f b : Bool} → a ≡ every_below c.tracks (sound_track (plan_of bs c) l)
    → f ≡ is_finishing (plan_of bs c) l → b ≡ every_below c.states (sound_scope (plan_of bs c) l) → ((a && not f) && b) ≡ is_live (plan_of bs c) l
live_asked bs c l e g h =
    rw (e ∙ ap (λ n. every_below n (sound_track (plan_of bs c) l)) (sym (track_count_lem bs c)), g, h ∙ ap (λ n. every_below n (sound_scope (plan_of bs c) l)) (sym (state_count_lem bs c)))
    (live_parts (plan_of bs c) l)

-- the day, the words, then over, then the clauses
module _ (terms : Terms) (bs : List ℕ) (c : Counts) (ws : List ℕ) where
  abbrev said : ℕ → Bool
  said n = is_day (last_day ws) && are_tidy terms ws n && (every_below n (λ t. not (is_awake (ledger_at terms ws n t).mode)) || is_live (plan_of bs c) (ledger_at terms ws n))

  -- the definition, by the counts
  counted : said c.tracks ≡ is_sound terms (plan_of bs c) ws
  unfolding is_sound is_over
  counted = ap said (sym (track_count_lem bs c))

  pub over_asked : {r : Bool} → r ≡ every_below c.tracks (λ t. not (is_awake (ledger_of terms c ws t).mode)) → r ≡ true → is_over (plan_of bs c) (ledger_of terms c ws) ≡ true
  unfolding is_over
  over_asked f k = ap (λ n. every_below n (λ t. not (is_awake (ledger_of terms c ws t).mode))) (track_count_lem bs c) ∙ sym f ∙ k

  module _ {z : ℤ} {d : Bool} (day : z ≡ last_day ws) (dayed : d ≡ is_day z) where
    day_is : is_day (last_day ws) ≡ d
    day_is = ap is_day (sym day) ∙ sym dayed

    pub no_day : not d ≡ true → false ≡ is_sound terms (plan_of bs c) ws
    no_day h = rw (day_is ∙ not-true d h) at counted

    module _ (on : not d ≡ false) {q : Bool} (e : q ≡ are_tidy terms ws c.tracks) where
      pub untidy : not q ≡ true → false ≡ is_sound terms (plan_of bs c) ws
      untidy h = rw (day_is ∙ not-false d on, sym e ∙ not-true q h) at counted

      module _ (h : not q ≡ false) {r : Bool} (f : r ≡ every_below c.tracks (λ t. not (is_awake (ledger_of terms c ws t).mode))) where
        pub sound_over : r ≡ true → true ≡ is_sound terms (plan_of bs c) ws
        unfolding ledger_of
        sound_over k = rw (day_is ∙ not-false d on, sym e ∙ not-false q h, sym f ∙ k) at counted

        pub sound_live : {x : Bool} → r ≡ false → x ≡ is_live (plan_of bs c) (ledger_of terms c ws) → x ≡ is_sound terms (plan_of bs c) ws
        unfolding ledger_of
        sound_live k g = g ∙ (rw (day_is ∙ not-false d on, sym e ∙ not-false q h, sym f ∙ k) at counted)
