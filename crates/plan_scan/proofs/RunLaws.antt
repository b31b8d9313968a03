-- Runs of like records: where the kinds rise and the limits allow it, each record of a run passes, so the scan from after a run is the scan from
-- before it, by induction on its length; and a run of each kind with the end record after them is counted. Assumes nothing.
use Rattle.std.proofs.Common.{◌≡◌, refl, sym, ◌∙◌, Bool, true, false, cond, ⊎_elim, List, ℕ, zero, suc, ◌+◌, ◌*◌, ◌-◌, ◌/◌, ◌<◌, ◌≤◌, eq-or-lt_of_le, not-suc-le-zero, mul-suc, mul-le-mul_left, arith, eqb}
use Rattle.std.proofs.Math.Nat.{div-add-mod}
use Rattle.rules.specs.declared.Counts.{Counts}
use Rattle.rules.specs.Record.{length_of, rank_of, most_of, count_of, one_more, no_counts, end_kind, judge_record, counted, scan}
use Rattle.plan_scan.specs.Scanned.{Stands}
use Rattle.plan_scan.specs.RecordRuns.{Whole, Run, InRuns, EndsAfter}
use Rattle.plan_scan.proofs.RecordTable.{passes}
use Rattle.plan_scan.proofs.Scanning.{scan_rest, start_stands, rest_start, rest_end, next}

-- with so many more records of a kind
unfoldable more_of : Counts → ℕ → ℕ → Counts
more_of c kind n =
    record {
      tracks = c.tracks + cond (eqb kind 1) n 0;
      states = c.states + cond (eqb kind 2) n 0;
      transitions = c.transitions + cond (eqb kind 3) n 0;
      windows = c.windows + cond (eqb kind 5) n 0;
      grants = c.grants + cond (eqb kind 6) n 0;
    }

more_none : (c : Counts) (kind : ℕ) → more_of c kind 0 ≡ c
unfolding more_of
more_none c kind =
    rw (none c.tracks (eqb kind 1), none c.states (eqb kind 2), none c.transitions (eqb kind 3), none c.windows (eqb kind 5), none c.grants (eqb kind 6))
    refl
  where
    none : (a : ℕ) (b : Bool) → a + cond b 0 0 ≡ a
    none a true = omega arith
    none a false = omega arith

more_first : (c : Counts) (kind n : ℕ) → more_of (one_more c kind) kind n ≡ more_of c kind (suc n)
unfolding one_more more_of
more_first c kind n =
    rw (add c.tracks (eqb kind 1), add c.states (eqb kind 2), add c.transitions (eqb kind 3), add c.windows (eqb kind 5), add c.grants (eqb kind 6))
  where
    add : (a : ℕ) (b : Bool) → a + cond b 1 0 + cond b n 0 ≡ a + cond b (suc n) 0
    add a true = omega arith
    add a false = omega arith

abbrev counts : ℕ → ℕ → ℕ → ℕ → ℕ → Counts
counts t s x w g = record { tracks = t; states = s; transitions = x; windows = w; grants = g }

more_counts : (t s x w g a b c d e : ℕ) → t ≡ a → s ≡ b → x ≡ c → w ≡ d → g ≡ e → counts t s x w g ≡ counts a b c d e
more_counts t s x w g a b c d e et es ex ew eg = rw (et, es, ex, ew, eg)

with_tracks : (t : ℕ) → counts t 0 0 0 0 ≡ more_of no_counts 1 t
unfolding more_of no_counts
with_tracks t = more_counts _ _ _ _ _ _ _ _ _ _ (omega arith) refl refl refl refl

with_states : (t s : ℕ) → counts t s 0 0 0 ≡ more_of (counts t 0 0 0 0) 2 s
unfolding more_of
with_states t s = more_counts _ _ _ _ _ _ _ _ _ _ (omega arith) (omega arith) refl refl refl

with_transitions : (t s x : ℕ) → counts t s x 0 0 ≡ more_of (counts t s 0 0 0) 3 x
unfolding more_of
with_transitions t s x = more_counts _ _ _ _ _ _ _ _ _ _ (omega arith) (omega arith) (omega arith) refl refl

with_windows_lem : (t s x w : ℕ) → counts t s x w 0 ≡ more_of (counts t s x 0 0) 5 w
unfolding more_of
with_windows_lem t s x w = more_counts _ _ _ _ _ _ _ _ _ _ (omega arith) (omega arith) (omega arith) (omega arith) refl

with_grants : (c : Counts) → c ≡ more_of (counts c.tracks c.states c.transitions c.windows 0) 6 c.grants
unfolding more_of
with_grants c = more_counts _ _ _ _ _ _ _ _ _ _ (omega arith) (omega arith) (omega arith) (omega arith) (omega arith)

-- as many records as there is room for from a place on end within the bytes
pub run_fits : (size at bytes n : ℕ) → at ≤ bytes → n ≤ (bytes - at) / size → at + size * n ≤ bytes
run_fits size at bytes n l r =
    let q : size * n ≤ size * ((bytes - at) / size) = mul-le-mul_left size r in omega (arith, div-add-mod (bytes - at) size)

pub head_parts : (a b s k : ℕ) → a < 65536 → s < 65536 → a + 65536 * b ≡ s + 65536 * k → (a ≡ s) × (b ≡ k)
head_parts a b s k l m e = (omega arith, omega arith)

module _ (bs : List ℕ) where
  -- the loop that counts a run
  pub run_none : (kind at : ℕ) → Run bs kind at 0
  unfolding Run
  run_none kind at i l = absurd (not-suc-le-zero l)

  pub run_more : (kind at n here : ℕ) → Run bs kind at n → here ≡ at + length_of kind * n → Whole bs kind here → Run bs kind at (n + 1)
  unfolding Run
  run_more kind at n here r e w i l =
      ⊎_elim (λ (q : i ≡ n). rw (q, ← e) w) (λ (q : i < n). r i q) (eq-or-lt_of_le (let m : i ≤ n = omega arith in m))

  -- an end record as the last
  end_passes : (c : Counts) (last : ℕ) → rank_of last ≤ 5 → EndsAfter bs c
      → judge_record bs (6 * c.tracks + 10 * c.states + 14 * c.transitions + 14 * c.windows + 10 * c.grants) last c ≡ 0
  unfolding length_of rank_of most_of count_of
  end_passes c last r e =
      let n = e.last in
      passes bs _ last c end_kind e.end.sort (omega arith) (λ z. absurd (omega (arith, z))) (omega arith) e.end.long (omega arith) (omega arith) (λ q. omega arith)

  -- where the scan stands after some runs, the last of them of a kind of so low a rank
  record At (at rank : ℕ) (c : Counts) : Type 0 where
    last : ℕ
    rises : rank_of last ≤ rank
    stands : Stands bs at c
    rest : scan bs ≡ scan_rest bs at last c

  -- there is room for so many more of a kind
  unfoldable Room : Counts → ℕ → ℕ → Type 0
  Room c kind n = (i : ℕ) → i < n → count_of (more_of c kind i) kind < most_of kind

  run_after : (n at rank : ℕ) (c : Counts) (kind : ℕ) → Run bs kind at n → rank ≤ rank_of kind → 4 ≤ length_of kind → (kind ≡ end_kind → ⊥)
      → Room c kind n → At at rank c → At (at + length_of kind * n) (rank_of kind) (more_of c kind n)
  unfolding Run Room
  run_after zero at rank c kind r f l e m s =
      let p : at ≡ at + length_of kind * 0 = omega arith in
      let i = s.rises in
      rw (more_none c kind, ← p) (record { last = s.last; rises = omega arith; stands = s.stands; rest = s.rest })
  run_after (suc n) at rank c kind r f l e m s =
      let p : at + length_of kind * 0 ≡ at = omega arith in
      let w : Whole bs kind at = rw p at (r 0 (omega arith)) in
      let i = s.rises in
      let g = w.fits in
      let j = passes bs at s.last c kind w.sort (omega arith) (λ z. absurd (omega (arith, z))) (omega arith) w.long g (rw (more_none c kind) at (m 0 (omega arith))) (λ z. absurd (e z)) in
      let x = next bs at s.last c kind (length_of kind) (one_more c kind) j s.stands (sym w.sort) e refl refl in
      let o : Run bs kind (at + length_of kind) n = (λ i b. rw (← further i) at (r (suc i) (omega arith))) in
      let k : Room (one_more c kind) kind n = (λ i b. rw (more_first c kind i) (m (suc i) (omega arith))) in
      let q : at + length_of kind + length_of kind * n ≡ at + length_of kind * suc n = further n in
      rw (← more_first c kind n, ← q)
      (run_after n (at + length_of kind) (rank_of kind) (one_more c kind) kind o (omega arith) l e k
      (record { last = kind; rises = omega arith; stands = x.stands; rest = s.rest ∙ x.rest }))
    where
      further : (i : ℕ) → at + length_of kind + length_of kind * i ≡ at + length_of kind * suc i
      further i = let z = mul-suc (length_of kind) i in omega arith

  -- the same in other words for where it ends and what is counted
  follow : (n at rank : ℕ) (c : Counts) (kind to : ℕ) (more : Counts) → Run bs kind at n → rank ≤ rank_of kind → 4 ≤ length_of kind
      → (kind ≡ end_kind → ⊥) → Room c kind n → to ≡ at + length_of kind * n → more ≡ more_of c kind n → At at rank c → At to (rank_of kind) more
  follow n at rank c kind to more r f l e m et em s = rw (et, em) (run_after n at rank c kind r f l e m s)

  at_start : At 0 0 no_counts
  unfolding rank_of
  at_start = record { last = 0; rises = omega arith; stands = start_stands bs; rest = rest_start bs }

  module _ (c : Counts) (r : InRuns bs c) where
    after_tracks : At (6 * c.tracks) 1 (counts c.tracks 0 0 0 0)
    unfolding length_of rank_of most_of count_of more_of no_counts Room
    after_tracks =
        let x = r.tracks in
        follow c.tracks 0 0 no_counts 1 (6 * c.tracks) (counts c.tracks 0 0 0 0) r.track_run
        (omega arith) (omega arith) (λ q. absurd (omega arith)) (λ i l. omega arith) (omega arith) (with_tracks c.tracks) at_start

    after_states : At (6 * c.tracks + 10 * c.states) 2 (counts c.tracks c.states 0 0 0)
    unfolding length_of rank_of most_of count_of more_of Room
    after_states =
        let x = r.states in
        follow c.states (6 * c.tracks) 1 (counts c.tracks 0 0 0 0) 2 (6 * c.tracks + 10 * c.states) (counts c.tracks c.states 0 0 0) r.state_run
        (omega arith) (omega arith) (λ q. absurd (omega arith)) (λ i l. omega arith) refl (with_states c.tracks c.states) after_tracks

    after_transitions : At (6 * c.tracks + 10 * c.states + 14 * c.transitions) 3 (counts c.tracks c.states c.transitions 0 0)
    unfolding length_of rank_of most_of count_of more_of Room
    after_transitions =
        let x = r.transitions in
        follow c.transitions (6 * c.tracks + 10 * c.states) 2 (counts c.tracks c.states 0 0 0) 3 (6 * c.tracks + 10 * c.states + 14 * c.transitions)
        (counts c.tracks c.states c.transitions 0 0) r.transition_run
        (omega arith) (omega arith) (λ q. absurd (omega arith)) (λ i l. omega arith) refl (with_transitions c.tracks c.states c.transitions) after_states

    -- of windows and of grants there may be any number
    after_windows : At (6 * c.tracks + 10 * c.states + 14 * c.transitions + 14 * c.windows) 4 (counts c.tracks c.states c.transitions c.windows 0)
    unfolding length_of rank_of most_of count_of more_of Room
    after_windows =
        follow c.windows (6 * c.tracks + 10 * c.states + 14 * c.transitions) 3 (counts c.tracks c.states c.transitions 0 0) 5
        (6 * c.tracks + 10 * c.states + 14 * c.transitions + 14 * c.windows) (counts c.tracks c.states c.transitions c.windows 0) r.window_run
        (omega arith) (omega arith) (λ q. absurd (omega arith)) (λ i l. omega arith) refl
        (with_windows_lem c.tracks c.states c.transitions c.windows) after_transitions

    after_grants : At (6 * c.tracks + 10 * c.states + 14 * c.transitions + 14 * c.windows + 10 * c.grants) 5 c
    unfolding length_of rank_of most_of count_of more_of Room
    after_grants =
        follow c.grants (6 * c.tracks + 10 * c.states + 14 * c.transitions + 14 * c.windows) 4
        (counts c.tracks c.states c.transitions c.windows 0) 6
        (6 * c.tracks + 10 * c.states + 14 * c.transitions + 14 * c.windows + 10 * c.grants) c r.grant_run
        (omega arith) (omega arith) (λ q. absurd (omega arith)) (λ i l. omega arith) refl (with_grants c) after_windows

  pub in_order : (c : Counts) → InRuns bs c → EndsAfter bs c → scan bs ≡ counted c
  in_order c r e = let v = after_grants c r in v.rest ∙ rest_end bs _ v.last c (end_passes c v.last v.rises e) e.end.sort
