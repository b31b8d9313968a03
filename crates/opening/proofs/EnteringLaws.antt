-- Entering states by one pass: a track enters, wakes or is left, and the figures say which; all together are the rules' enter. Assumes nothing.
use Rattle.std.proofs.Common.{◌≡◌, refl, sym, ap, ◌∙◌, inl, inr, Bool, true, false, List, ℕ, ◌+◌, ◌<◌, ◌≤◌, arith, eqb, length, get_or, eq-eqb, ne_eqb}
use Rattle.std.proofs.Math.Option.{Option, none, some}
use Rattle.rules.specs.declared.Counts.{Counts}
use Rattle.rules.specs.declared.Mode.TheVariants.{Forward}
use Rattle.rules.specs.declared.Terms.{Terms}
use Rattle.rules.specs.Plan.{Plan, no_state, optional, first_state}
use Rattle.rules.specs.Ledger.{Configuration, Ledger, is_awake, sleeping, written}
use Rattle.rules.specs.Opening.{fresh, wakes, entered, enter}
use Rattle.rules.proofs.Tests.{look, clash}
use Rattle.rules.proofs.Stored.{written_same}
use Rattle.rules.proofs.Passes.{up_to}
use Rattle.ledger.specs.Ladder.{Tidy, ledger_of}
use Rattle.lookup.specs.Figures.{Figures}
use Rattle.lookup.specs.OneTrack.{with_configuration, with_mode}
use Rattle.lookup.proofs.OneTrackLaws.{Stores, stores_at, holds, kept_track, Fitting, pass_start, pass_orderly, pass_length, pass_old, pass_more, pass_end}
use Rattle.opening.specs.Entering.{states_of, entered_by, Sleepers}

-- one track, as the code takes it: it enters, is left, or wakes
module _ (terms : Terms) (c : Counts) (ws : List ℕ) (o : Tidy terms ws c.tracks) (t s : ℕ) (w : Bool) (first : ℕ) where
  pub enter_state : (s ≡ no_state → ⊥) → {vs : List ℕ} → vs ≡ with_configuration terms c ws t (with_mode Forward s (ledger_of terms c ws t))
      → vs ≡ with_configuration terms c ws t (entered_by s w first (ledger_of terms c ws t))
  unfolding entered_by with_mode
  enter_state n d = d ∙ ap (with_configuration terms c ws t) (sym (rw (ne_eqb s no_state n)))

  pub enter_not : s ≡ no_state → w ≡ false → ws ≡ with_configuration terms c ws t (entered_by s w first (ledger_of terms c ws t))
  unfolding entered_by
  enter_not n k = kept_track terms c ws o t _ (rw (eq-eqb s no_state n, k))

  pub enter_first : s ≡ no_state → w ≡ true → ledger_of terms c ws t ≡ sleeping
      → {vs : List ℕ} → vs ≡ with_configuration terms c ws t (with_mode Forward first (ledger_of terms c ws t))
      → vs ≡ with_configuration terms c ws t (entered_by s w first (ledger_of terms c ws t))
  unfolding entered_by with_mode sleeping
  enter_first n k a d = d ∙ ap (with_configuration terms c ws t) (rw (eq-eqb s no_state n, k, a))

-- the same as the rules have it
enters : (p : Plan) (s : ℕ) (w : Bool) (first t : ℕ) (x : Configuration) → first ≡ first_state p t
    → entered_by s w first x ≡ entered x (fresh p t) (optional s) w
unfolding entered_by entered optional fresh
enters p s w first t x e =
    elim (look (eqb s no_state)) [
      | inl z ↦ rw (z, entered, e)
      | inr z ↦ rw (z, entered)
    ]

-- what is entered or woken holds no more than before
pub entered_stores : (terms : Terms) (p : Plan) (x : Configuration) (t : ℕ) (o : Option ℕ) (w : Bool) → Stores terms x → Stores terms (entered x (fresh p t) o w)
unfolding entered fresh is_awake
entered_stores terms p x t none true s = record { fits = omega arith; blank = λ a. clash refl a }
entered_stores terms p x t none false s = s
entered_stores terms p x t (some d) w s = record { fits = s.fits; blank = λ a. clash refl a }

visit_stores : (terms : Terms) (s : ℕ) (w : Bool) (first : ℕ) (x : Configuration) → Stores terms x → Stores terms (entered_by s w first x)
unfolding entered_by is_awake
visit_stores terms s w first x h =
    elim (look (eqb s no_state)) [
      | inr z ↦ rw z (record { fits = h.fits; blank = λ a. clash refl a })
      | inl z ↦ elim (look w) [ inl k ↦ rw (z, k) (record { fits = omega arith; blank = λ a. clash refl a }) | inr k ↦ rw (z, k) h ]
    ]

module _ (terms : Terms) (c : Counts) (ws : List ℕ) (o : Tidy terms ws c.tracks) (p : Plan) (to : List ℕ) {firsts : List ℕ} {woken : List Bool}
    (f : Figures 0 firsts c.tracks (first_state p)) (m : Figures false woken c.tracks (wakes p (states_of to))) where
  abbrev visit : ℕ → Configuration → Configuration
  visit t = entered_by (get_or to t 0) (get_or woken t false) (get_or firsts t 0)

  fitting : Fitting terms c ws o visit
  fitting =
      let s : (t : ℕ) → Stores terms (visit t (ledger_of terms c ws t)) = λ t. visit_stores terms _ _ _ (ledger_of terms c ws t) (stores_at terms c.tracks (ledger_of terms c ws) (holds terms c ws o) t) in
      record { fits = λ t b. (s t).fits; blank = λ t b. (s t).blank }

  abbrev through : ℕ → Ledger
  through i = up_to (λ t. visit t (ledger_of terms c ws t)) (ledger_of terms c ws) i

  pub entering_start : ws ≡ written terms c.tracks (through 0) ws
  entering_start = pass_start terms c ws o visit

  module _ (i : ℕ) (h : i ≤ c.tracks) {vs : List ℕ} (e : vs ≡ written terms c.tracks (through i) ws) where
    pub entering_tidy : Tidy terms vs c.tracks
    entering_tidy = pass_orderly terms c ws o visit fitting i h e

    pub entering_length : length vs ≡ length ws
    entering_length = pass_length terms c ws o visit fitting i h e

    pub entering_asleep : i < c.tracks → Sleepers p (states_of to) (ledger_of terms c ws) → get_or woken i false ≡ true → ledger_of terms c vs i ≡ sleeping
    entering_asleep k a w = pass_old terms c ws o visit fitting i h e i (omega arith) ∙ a i (sym (m.at i k) ∙ w)

    pub entering_more : {us : List ℕ} → us ≡ with_configuration terms c vs i (visit i (ledger_of terms c vs i))
        → us ≡ written terms c.tracks (through (i + 1)) ws
    entering_more d = pass_more terms c ws o visit fitting i h e d

    pub entering_end : c.tracks ≤ i → vs ≡ written terms c.tracks (enter p (states_of to) (ledger_of terms c ws)) ws
    unfolding enter states_of
    entering_end k =
        pass_end terms c ws o visit fitting i h e k
        ∙ written_same terms c.tracks _ _ ws
        (λ t b.
        enters p (get_or to t 0) (get_or woken t false) (get_or firsts t 0) t (ledger_of terms c ws t) (f.at t b)
        ∙ ap (entered (ledger_of terms c ws t) (fresh p t) (optional (get_or to t 0))) (m.at t b))
