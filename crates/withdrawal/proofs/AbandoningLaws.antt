-- Abandoning as the code takes it: each branch of a climb is a case of one scope's going to sleep, and afterwards one pass over the tracks
-- writes the ledger with the scopes asleep that are not left open. Assumes nothing.
use Rattle.std.proofs.Common.{◌≡◌, sym, ap, ◌∙◌, subst, inl, inr, Bool, true, false, ◌&&◌, List, ℕ, ◌+◌, ◌-◌, ◌<◌, ◌≤◌, arith, eqb, length, get_or, set, eqb-true}
use Rattle.std.proofs.Math.Option.{some}
use borrow.Author.Tests.{eqb-false}
use Rattle.rules.specs.declared.Counts.{Counts}
use Rattle.rules.specs.Plan.{Plan, plan_of, track_count, no_state, host, owner}
use Rattle.rules.specs.Ledger.{Configuration, Ledger, is_awake, is_undoing, is_empty, written}
use Rattle.rules.specs.Scope.{has_open_scope}
use Rattle.rules.specs.Signal.{abandoned}
use Rattle.rules.proofs.Tests.{look, and_holds}
use Rattle.rules.proofs.Passes.{up_to}
use Rattle.plan.proofs.FieldLaws.{track_count_lem}
use Rattle.ledger.specs.Ladder.{Tidy, Accepts, ledger_of}
use Rattle.lookup.specs.HostTrack.{host_track}
use Rattle.ledger.specs.Words.{with_asleep}
use Rattle.lookup.proofs.Facts.{plan_facts, few_tracks, no_host_track, host_of_track}
use Rattle.lookup.specs.Figures.{Figures}
use Rattle.lookup.specs.OneTrack.{with_configuration}
use Rattle.withdrawal.specs.declared.abandoning.Scopes.{Scopes}
use Rattle.rules.specs.declared.Terms.{Terms}
use Rattle.withdrawal.specs.Scopes.{Nested, Counted, kept_by, keeping, Due, Climbed, Cleared, LeftOpen}
use Rattle.lookup.proofs.OneTrackLaws.{holds, kept_track, put_asleep, Fitting, pass_start, pass_orderly, pass_length, pass_more, pass_end}
use Rattle.lookup.proofs.OneTrackLaws.{Stores, stores_sleeping, stores_at}
use Rattle.withdrawal.proofs.Storing.{abandoned_read}
use Rattle.withdrawal.proofs.Climbing.{keep_root, keep_open, keep_shut, keep_case, keep_sleeping, Step, step_busy, step_root, some_busy, step_more, step_due, step_on, cleared_start, cleared_shut, cleared_busy, cleared_more, cleared_end}

-- a climb: still busy, a root, others busy, and on to the host's track
module _ (terms : Terms) (bs : List ℕ) (c : Counts) (acc : Accepts bs c) (ws : List ℕ) (o : Tidy terms ws c.tracks) (x : Scopes) (t : ℕ)
    (due : Due (plan_of bs c) (ledger_of terms c ws) x t) where
  abbrev p : Plan
  p = plan_of bs c

  abbrev l : Ledger
  l = ledger_of terms c ws

  pub climb_low : t < c.tracks
  climb_low = let b = due.low in omega (arith, track_count_lem bs c)

  step : Step p l x t
  step = record { accepted = plan_facts bs c acc; few = few_tracks bs c acc; blank = (holds terms c ws o).blank; due = due }

  module _ {r : Bool} (f : r ≡ (is_undoing (l t).mode && is_empty (l t).held)) where
    pub climb_busy : r ≡ false → Climbed p l x (record { opens = set x.opens t false; busy = x.busy }) t
    climb_busy n = step_busy step (sym f ∙ n)

    module _ (n : r ≡ true) {u : ℕ} (g : u ≡ host_track p t) where
      pub climb_root : u ≡ no_state → Climbed p l x (record { opens = set x.opens t false; busy = x.busy }) t
      climb_root z = step_root step (no_host_track bs c t acc (sym g ∙ z))

      module _ (z : u ≡ no_state → ⊥) where
        at : (h : ℕ) × (host p t ≡ some h) × (owner p h ≡ u)
        at = let (h, e, q) = host_of_track p t (λ y. z (g ∙ y)) in (h, e, q ∙ sym g)

        back : (is_undoing (l t).mode && is_empty (l t).held) ≡ true
        back = sym f ∙ n

        pub climb_lower : u < t
        climb_lower = subst (λ v. v < t) at.2 ((plan_facts bs c acc).lower t at.0 at.1)

        pub climb_some : 0 < get_or x.busy u 0
        climb_some = subst (λ v. 0 < get_or x.busy v 0) at.2 (some_busy step at.0 at.1 back)

        module _ {k : ℕ} (e : k ≡ get_or x.busy u 0 - 1) where
          abbrev next : ℕ → Scopes
          next v = record { opens = set x.opens t false; busy = set x.busy v k }

          less : k ≡ get_or x.busy (owner p at.0) 0 - 1
          less = e ∙ ap (λ (v : ℕ). get_or x.busy v 0 - 1) (sym at.2)

          pub climb_more : (k ≡ 0 → ⊥) → Climbed p l x (next u) t
          climb_more y = subst (λ v. Climbed p l x (next v) t) at.2 (step_more step at.0 at.1 back less y)

          pub climb_due : k ≡ 0 → Due p l (next u) u
          climb_due y = subst (λ v. Due p l (next v) v) at.2 (step_due step at.0 at.1 back less y)

          pub climb_on : {y : Scopes} → Climbed p l (next u) y u → Climbed p l x y t
          climb_on {y} d = step_on step at.0 at.1 back less (subst (λ v. Climbed p l (next v) y v) (sym at.2) d)

-- the visits, in track order
module _ (terms : Terms) (bs : List ℕ) (c : Counts) (acc : Accepts bs c) (ws : List ℕ) where
  pub visit_start : Tidy terms ws c.tracks → Nested (plan_of bs c) (ledger_of terms c ws) → (x : Scopes)
      → Counted (plan_of bs c) (ledger_of terms c ws) x.opens x.busy c.tracks → Cleared (plan_of bs c) (ledger_of terms c ws) x 0
  visit_start o nest x k =
      cleared_start (plan_of bs c) (plan_facts bs c acc) (ledger_of terms c ws) (holds terms c ws o).blank nest x
      (subst (Counted (plan_of bs c) (ledger_of terms c ws) x.opens x.busy) (sym (track_count_lem bs c)) k)

  module _ (x : Scopes) (t : ℕ) where
    pub visit_end : c.tracks ≤ t → Cleared (plan_of bs c) (ledger_of terms c ws) x t
        → LeftOpen (plan_of bs c) (ledger_of terms c ws) x.opens
    visit_end h k =
        let q = cleared_end (plan_of bs c) (plan_facts bs c acc) (ledger_of terms c ws) x t (omega (arith, track_count_lem bs c)) k in
        let f = k.figures.counted in
        record {
          same = q;
          marks = record { size = f.opens_size; at = λ u b. f.mark u b ∙ ap (λ (m : Ledger). has_open_scope (plan_of bs c) m u) q };
        }

    module _ (b : t < c.tracks) (k : Cleared (plan_of bs c) (ledger_of terms c ws) x t) where
      there : t < track_count (plan_of bs c)
      there = omega (arith, track_count_lem bs c)

      pub visit_none : (get_or x.opens t false && eqb (get_or x.busy t 0) 0) ≡ false → Cleared (plan_of bs c) (ledger_of terms c ws) x (t + 1)
      visit_none z =
          elim (look (get_or x.opens t false)) [
            | inl q ↦ cleared_busy (plan_of bs c) (plan_facts bs c acc) (ledger_of terms c ws) x t there k (eqb-false _ _ (rw q at z))
            | inr q ↦ cleared_shut (plan_of bs c) (plan_facts bs c acc) (ledger_of terms c ws) x t there k q
          ]

      pub visit_due : (get_or x.opens t false && eqb (get_or x.busy t 0) 0) ≡ true → Due (plan_of bs c) (ledger_of terms c ws) x t
      visit_due z =
          let q = and_holds _ _ z in record { low = there; figures = k.figures; marked = q.0; idle = eqb-true _ _ q.1 }

      pub visit_climb : {y : Scopes} → Climbed (plan_of bs c) (ledger_of terms c ws) x y t → Cleared (plan_of bs c) (ledger_of terms c ws) y (t + 1)
      visit_climb d = cleared_more (plan_of bs c) (plan_facts bs c acc) (ledger_of terms c ws) x t there k d

-- one track: asleep, a root, in a scope that is left open, in one that is not
module _ (terms : Terms) (bs : List ℕ) (c : Counts) (acc : Accepts bs c) (ws : List ℕ) (o : Tidy terms ws c.tracks) (opens : List Bool) (t : ℕ) {r : Bool}
    (f : r ≡ is_awake (ledger_of terms c ws t).mode) where
  abbrev Left : List ℕ → Type 0
  Left vs = vs ≡ with_configuration terms c ws t (kept_by (plan_of bs c) opens t (ledger_of terms c ws t))

  as_it_is : keeping (plan_of bs c) opens (ledger_of terms c ws) t ≡ ledger_of terms c ws t → Left ws
  unfolding keeping
  as_it_is e = kept_track terms c ws o t (kept_by (plan_of bs c) opens t (ledger_of terms c ws t)) e

  pub leave_asleep : r ≡ false → Left ws
  leave_asleep n =
      let z = (holds terms c ws o).blank t (sym f ∙ n) in
      as_it_is (keep_sleeping (plan_of bs c) opens (ledger_of terms c ws) t z ∙ sym z)

  module _ {u : ℕ} (g : u ≡ host_track (plan_of bs c) t) where
    pub leave_root : u ≡ no_state → Left ws
    leave_root z = as_it_is (keep_root (plan_of bs c) opens (ledger_of terms c ws) t (no_host_track bs c t acc (sym g ∙ z)))

    module _ (n : u ≡ no_state → ⊥) where
      pub leave_not : get_or opens u false ≡ true → Left ws
      leave_not m =
          let (h, e, q) = host_of_track (plan_of bs c) t (λ y. n (g ∙ y)) in
          as_it_is (keep_open (plan_of bs c) opens (ledger_of terms c ws) t h e (subst (λ v. get_or opens v false ≡ true) (g ∙ sym q) m))

      pub leave_done : t < c.tracks → get_or opens u false ≡ false → {vs : List ℕ} → vs ≡ with_asleep terms ws t → Left vs
      unfolding keeping
      leave_done b m d =
          let (h, e, q) = host_of_track (plan_of bs c) t (λ y. n (g ∙ y)) in
          d ∙ put_asleep terms c ws o t b
          ∙ ap (with_configuration terms c ws t) (sym (keep_shut (plan_of bs c) opens (ledger_of terms c ws) t h e (subst (λ v. get_or opens v false ≡ false) (g ∙ sym q) m)))

-- the pass
module _ (terms : Terms) (bs : List ℕ) (c : Counts) (ws : List ℕ) (o : Tidy terms ws c.tracks) (opens : List Bool)
    (k : LeftOpen (plan_of bs c) (ledger_of terms c ws) opens) where
  abbrev left : ℕ → Configuration → Configuration
  left = kept_by (plan_of bs c) opens

  leaving_fits : Fitting terms c ws o left
  unfolding keeping
  leaving_fits =
      let w : (t : ℕ) → Stores terms (keeping (plan_of bs c) opens (ledger_of terms c ws) t) =
      λ t.
      elim (keep_case (plan_of bs c) opens (ledger_of terms c ws) t) [
        | inl e ↦ subst (Stores terms) (sym e) (stores_at terms c.tracks (ledger_of terms c ws) (holds terms c ws o) t)
        | inr e ↦ subst (Stores terms) (sym e) (stores_sleeping terms)
      ] in
      record { fits = λ t b. (w t).fits; blank = λ t b. (w t).blank }

  pub leaving_start : ws ≡ written terms c.tracks (up_to (λ t. left t (ledger_of terms c ws t)) (ledger_of terms c ws) 0) ws
  leaving_start = pass_start terms c ws o left

  module _ (i : ℕ) (b : i ≤ c.tracks) {vs : List ℕ}
      (e : vs ≡ written terms c.tracks (up_to (λ t. left t (ledger_of terms c ws t)) (ledger_of terms c ws) i) ws) where
    pub leaving_orderly : Tidy terms vs c.tracks
    leaving_orderly = pass_orderly terms c ws o left leaving_fits i b e

    pub leaving_length : length vs ≡ length ws
    leaving_length = pass_length terms c ws o left leaving_fits i b e

    pub leaving_more : {us : List ℕ} → us ≡ with_configuration terms c vs i (left i (ledger_of terms c vs i))
        → us ≡ written terms c.tracks (up_to (λ t. left t (ledger_of terms c ws t)) (ledger_of terms c ws) (i + 1)) ws
    leaving_more d = pass_more terms c ws o left leaving_fits i b e d

    pub leaving_end : c.tracks ≤ i → vs ≡ written terms c.tracks (abandoned (plan_of bs c) (ledger_of terms c ws)) ws
    unfolding keeping
    leaving_end h = pass_end terms c ws o left leaving_fits i b e h ∙ ap (λ (m : Ledger). written terms c.tracks m ws) k.same

  -- which tracks have an open scope then
  pub leaving_marks : {vs : List ℕ} → vs ≡ written terms c.tracks (abandoned (plan_of bs c) (ledger_of terms c ws)) ws
      → Figures false opens c.tracks (has_open_scope (plan_of bs c) (ledger_of terms c vs))
  leaving_marks d =
      subst (λ (m : Ledger). Figures false opens c.tracks (has_open_scope (plan_of bs c) m)) (sym (abandoned_read terms (plan_of bs c) c o d))
      (subst (λ n. Figures false opens n (has_open_scope (plan_of bs c) (abandoned (plan_of bs c) (ledger_of terms c ws)))) (track_count_lem bs c) k.marks)
