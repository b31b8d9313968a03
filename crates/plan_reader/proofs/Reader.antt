-- The reading of a plan, in the reader's steps: the scan, then refusals 8 to 16, 25 and 27 in order. An accepted plan stands in its bytes.
-- Assumes nothing.
use Rattle.std.proofs.Common.{◌≡◌, refl, ap, ◌∙◌, cond, List, ℕ, zero, suc, arith}
use Rattle.rules.specs.declared.Counts.{Counts}
use Rattle.rules.specs.Fold.{some_below, first_refusal}
use Rattle.rules.specs.Record.{Scan, refused, counted, scan}
use Rattle.rules.specs.Plan.{plan_of}
use Rattle.rules.specs.Acceptance.{no_track, bad_state, bad_host, bad_first, bad_hosting, bad_transition, bad_deviation, repeats_event, too_high, bad_window, bad_grant, judge_plan, turned_back, accepted, judged, read_plan}
use Rattle.plan.specs.Holds.{Holds}
use Rattle.plan_reader.specs.TracksPass.{TracksPass}
use Rattle.plan.proofs.FieldLaws.{track_count_lem, state_count_lem, transition_count_lem, window_count_lem, grant_count_lem}
use Rattle.plan_scan.proofs.Scanning.{scan_holds}

pub scan_refused : (bs : List ℕ) (n : ℕ) → scan bs ≡ refused n → read_plan bs ≡ turned_back n
unfolding read_plan
scan_refused bs n h = rw (h, read_plan)

module _ (bs : List ℕ) (c : Counts) where
  -- the table of refusals 8 to 16, 25 and 27 of the plan that the bytes hold
  pub in_order : judge_plan (plan_of bs c)
      ≡ cond (no_track (plan_of bs c)) 8
      (cond (some_below c.states (bad_state (plan_of bs c))) 9
      (cond (some_below c.tracks (bad_host (plan_of bs c))) 10
      (cond (some_below c.tracks (bad_first (plan_of bs c))) 11
      (cond (some_below c.states (bad_hosting (plan_of bs c))) 12
      (cond (some_below c.transitions (bad_transition (plan_of bs c))) 13
      (cond (some_below c.transitions (bad_deviation (plan_of bs c))) 14
      (cond (some_below c.transitions (repeats_event (plan_of bs c))) 15
      (cond (some_below c.tracks (too_high (plan_of bs c))) 16
      (cond (some_below c.windows (bad_window (plan_of bs c))) 25
      (cond (some_below c.grants (bad_grant (plan_of bs c))) 27 0))))))))))
  unfolding judge_plan first_refusal
  in_order = rw (track_count_lem bs c, state_count_lem bs c, transition_count_lem bs c, window_count_lem bs c, grant_count_lem bs c)

  -- what is left of it where the tracks pass
  pub then_transitions : (scopes beside : List ℕ) → TracksPass bs c scopes beside
      → judge_plan (plan_of bs c)
      ≡ cond (some_below c.transitions (bad_transition (plan_of bs c))) 13
      (cond (some_below c.transitions (bad_deviation (plan_of bs c))) 14
      (cond (some_below c.transitions (repeats_event (plan_of bs c))) 15
      (cond (some_below c.tracks (too_high (plan_of bs c))) 16
      (cond (some_below c.windows (bad_window (plan_of bs c))) 25
      (cond (some_below c.grants (bad_grant (plan_of bs c))) 27 0)))))
  then_transitions scopes beside a = in_order ∙ rw (a.some_track, a.states, a.hosts, a.firsts, a.hostings)

  pub plan_refused : (n : ℕ) → scan bs ≡ counted c → judge_plan (plan_of bs c) ≡ n → (n ≡ 0 → ⊥) → read_plan bs ≡ turned_back n
  unfolding read_plan judged
  plan_refused zero h k z = absurd (z refl)
  plan_refused (suc n) h k z = rw (h, read_plan, k, judged)

  pub plan_accepted : scan bs ≡ counted c → judge_plan (plan_of bs c) ≡ 0 → read_plan bs ≡ accepted c
  unfolding read_plan judged
  plan_accepted h k = rw (h, read_plan, k, judged)

  -- an accepted plan's records were counted
  pub accepted_counted : read_plan bs ≡ accepted c → scan bs ≡ counted c
  unfolding read_plan judged
  accepted_counted h = go (scan bs) refl
    where
      judge : (d : Counts) (n : ℕ) → judge_plan (plan_of bs d) ≡ n → judged bs d ≡ accepted c → d ≡ c
      judge d zero e q = let r : accepted d ≡ accepted c = rw (e, judged) at q in cc
      judge d (suc n) e q =
          let r : turned_back (suc n) ≡ accepted c = rw (e, judged) at q in let z : ◌≡◌ {A = ℕ} 0 1 = cc in absurd (omega arith)

      go : (s : Scan) → scan bs ≡ s → scan bs ≡ counted c
      go (refused r) e =
          let q : turned_back r ≡ accepted c = rw (e, read_plan) at h in let z : ◌≡◌ {A = ℕ} 0 1 = cc in absurd (omega arith)
      go (counted d) e = let q : judged bs d ≡ accepted c = rw (e, read_plan) at h in e ∙ ap counted (judge d _ refl q)

  pub accepted_holds : read_plan bs ≡ accepted c → Holds bs c
  accepted_holds h = scan_holds bs c (accepted_counted h)
