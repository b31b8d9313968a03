-- An accepted plan, in facts: the table of refusals gave 0, so each of its tests fails at every record. Assumes nothing.
use mathlib.Core.Path.{◌≡◌, refl, sym, ap, ◌∙◌}
use mathlib.Core.Logic.{⊎_elim}
use mathlib.Core.Bool.{Bool, true, false, not, ◌&&◌, ◌||◌}
use mathlib.Core.List.{List}
use mathlib.Core.Option.{Option, none, some}
use Prim.Native.Nat.{ℕ, zero, suc, ◌<◌}
use native.Mathlib.Omega.{arith}
use lib.ListN.{length, get_or, get_or-eq_default}
use lib.Dec.{eqb, ltb, leb}
use borrow.Author.Tests.{eqb-true, eqb-false, ltb-true, ltb-false, leb-false, not-false}
use Rattle.rules.specs.declared.Counts.{Counts}
use Rattle.rules.specs.Fold.{some_below, first_refusal}
use Rattle.rules.specs.Record.{Scan, refused, counted, scan}
use Rattle.rules.specs.Plan.{Plan, plan_of, track_count, state_count, transition_count, window_count, grant_count, no_state, optional, host_word, host, owner, replacement, state, transition, mover, is_root, is_state_of, is_final, is_in, is_hosting, first, first_state, transition_for}
use Rattle.rules.specs.Acceptance.{no_track, bad_state, bad_host, bad_first, bad_hosting, bad_transition, bad_deviation, repeats_event, too_high, bad_window, bad_grant, judge_plan, turned_back, accepted, judged, read_plan}
use Rattle.rules.proofs.Tests.{look, clash, and_holds, and_both, or_fails, passed}
use Rattle.rules.proofs.Folds.{some_not, some_at, first_found}
use Rattle.rules.proofs.Windows.{FitWindows, fit_windows}
use Rattle.rules.proofs.Grants.{FitGrants, fit_grants}

-- 8 to 16, 25 and 27, as each record passed them
pub record Passed (p : Plan) : Type 0 where
  pub some_track : no_track p ≡ false
  pub states : (s : ℕ) → s < state_count p → bad_state p s ≡ false
  pub hosts : (t : ℕ) → t < track_count p → bad_host p t ≡ false
  pub firsts : (t : ℕ) → t < track_count p → bad_first p t ≡ false
  pub hostings : (s : ℕ) → s < state_count p → bad_hosting p s ≡ false
  pub transitions : (x : ℕ) → x < transition_count p → bad_transition p x ≡ false
  pub deviations : (x : ℕ) → x < transition_count p → bad_deviation p x ≡ false
  pub events : (x : ℕ) → x < transition_count p → repeats_event p x ≡ false
  pub heights : (t : ℕ) → t < track_count p → too_high p t ≡ false
  pub windows : (w : ℕ) → w < window_count p → bad_window p w ≡ false
  pub grants : (g : ℕ) → g < grant_count p → bad_grant p g ≡ false

pub passed_all : (p : Plan) → judge_plan p ≡ 0 → Passed p
unfolding judge_plan first_refusal
passed_all p h =
    let a8 = passed (no_track p) 7 _ h in
    let a9 = passed (some_below (state_count p) (bad_state p)) 8 _ a8.1 in
    let a10 = passed (some_below (track_count p) (bad_host p)) 9 _ a9.1 in
    let a11 = passed (some_below (track_count p) (bad_first p)) 10 _ a10.1 in
    let a12 = passed (some_below (state_count p) (bad_hosting p)) 11 _ a11.1 in
    let a13 = passed (some_below (transition_count p) (bad_transition p)) 12 _ a12.1 in
    let a14 = passed (some_below (transition_count p) (bad_deviation p)) 13 _ a13.1 in
    let a15 = passed (some_below (transition_count p) (repeats_event p)) 14 _ a14.1 in
    let a16 = passed (some_below (track_count p) (too_high p)) 15 _ a15.1 in
    let a25 = passed (some_below (window_count p) (bad_window p)) 24 _ a16.1 in
    let a27 = passed (some_below (grant_count p) (bad_grant p)) 26 _ a25.1 in
    record {
      some_track = a8.0;
      states = some_not _ _ a9.0;
      hosts = some_not _ _ a10.0;
      firsts = some_not _ _ a11.0;
      hostings = some_not _ _ a12.0;
      transitions = some_not _ _ a13.0;
      deviations = some_not _ _ a14.0;
      events = some_not _ _ a15.0;
      heights = some_not _ _ a16.0;
      windows = some_not _ _ a25.0;
      grants = some_not _ _ a27.0;
    }

-- the reading accepted: no refusal 8 to 16, nor 25 or 27
pub read_passed : (bs : List ℕ) (c : Counts) → read_plan bs ≡ accepted c → judge_plan (plan_of bs c) ≡ 0
unfolding read_plan judged
read_passed bs c h = go (scan bs) refl
  where
    judge : (d : Counts) (n : ℕ) → judge_plan (plan_of bs d) ≡ n → judged bs d ≡ accepted c → judge_plan (plan_of bs c) ≡ 0
    judge d zero e q = let r : accepted d ≡ accepted c = rw (e, judged) at q in let w : d ≡ c = cc in rw (← w) e
    judge d (suc n) e q =
        let r : turned_back (suc n) ≡ accepted c = rw (e, judged) at q in let z : ◌≡◌ {A = ℕ} 0 1 = cc in absurd (omega arith)

    go : (s : Scan) → scan bs ≡ s → judge_plan (plan_of bs c) ≡ 0
    go (refused r) e =
        let q : turned_back r ≡ accepted c = rw (e, read_plan) at h in let z : ◌≡◌ {A = ℕ} 0 1 = cc in absurd (omega arith)
    go (counted d) e = judge d (judge_plan (plan_of bs d)) refl (rw (e, read_plan) at h)

-- What the rules' theorems use of an accepted plan.
pub record Accepted (p : Plan) : Type 0 where
  pub some_track : 0 < track_count p
  pub hosted : (t h : ℕ) → host p t ≡ some h → t < track_count p
  pub host_state : (t h : ℕ) → host p t ≡ some h → h < state_count p
  pub lower : (t h : ℕ) → host p t ≡ some h → owner p h < t
  pub host_open : (t h : ℕ) → host p t ≡ some h → is_final p h ≡ false
  pub first_own : (t : ℕ) → t < track_count p → is_state_of p t (first_state p t) ≡ true
  pub first_open : (t : ℕ) → t < track_count p → is_final p (first_state p t) ≡ false
  pub owned : (s : ℕ) → s < state_count p → owner p s < track_count p
  pub source_state : (x : ℕ) → x < transition_count p → (transition p x).source < state_count p
  pub destination_own : (x : ℕ) → x < transition_count p → is_state_of p (mover p x) (transition p x).destination ≡ true
  pub source_open : (x : ℕ) → x < transition_count p → is_final p (transition p x).source ≡ false
  pub deviation_own : (x d : ℕ) → x < transition_count p → optional (transition p x).deviation ≡ some d → is_state_of p (mover p x) d ≡ true
  pub deviation_open : (x d : ℕ) → x < transition_count p → optional (transition p x).deviation ≡ some d → is_final p d ≡ false
  pub deviation_root : (x d : ℕ) → x < transition_count p → optional (transition p x).deviation ≡ some d → is_root p (mover p x) ≡ true
  -- the report's Definition 8
  pub deterministic : (x y : ℕ) → x < transition_count p → y < transition_count p → (transition p x).source ≡ (transition p y).source
      → (transition p x).event ≡ (transition p y).event → x ≡ y
  pub unhosting : (s : ℕ) → s < state_count p → is_hosting p s ≡ false → replacement p s ≡ 0
  pub windows : FitWindows p
  pub grants : FitGrants p

-- 65535 is no state, any other word is
pub optional_some : (w d : ℕ) → optional w ≡ some d → (w ≡ d) × (eqb w no_state ≡ false)
unfolding optional
optional_some w d h = go (eqb w no_state) refl
  where
    go : (b : Bool) → eqb w no_state ≡ b → (w ≡ d) × (eqb w no_state ≡ false)
    go true e = let q : none ≡ some d = rw e at h in let z : ◌≡◌ {A = ℕ} 0 1 = cc in absurd (omega arith)
    go false e = let q : some w ≡ some d = rw e at h in (cc, e)

module _ (p : Plan) (a : Passed p) where
  host_word_lem : (t h : ℕ) → host p t ≡ some h → host_word p t ≡ h
  unfolding host
  host_word_lem t h e = (optional_some (host_word p t) h e).0

  hosted : (t h : ℕ) → host p t ≡ some h → t < track_count p
  unfolding host host_word track_count
  hosted t h e =
      ⊎_elim (λ l. ltb-true t (length p.hosts) l)
      (λ l.
      let d : get_or p.hosts t no_state ≡ no_state = get_or-eq_default p.hosts no_state (ltb-false t (length p.hosts) l) in
      let f = (optional_some (get_or p.hosts t no_state) h e).1 in
      absurd (eqb-false (get_or p.hosts t no_state) no_state f d))
      (look (ltb t (length p.hosts)))

  not_root : (t h : ℕ) → host p t ≡ some h → is_root p t ≡ false
  unfolding is_root
  not_root t h e = rw (e, is_root)

  host_facts : (t h : ℕ) → host p t ≡ some h → (h < state_count p) × (owner p h < t)
  unfolding bad_host
  host_facts t h e =
      let w = host_word_lem t h e in
      let q : (is_root p t || (ltb (host_word p t) (state_count p) && ltb (owner p (host_word p t)) t)) ≡ true = not-false _ (a.hosts t (hosted t h e)) in
      let r : (ltb h (state_count p) && ltb (owner p h) t) ≡ true = rw (not_root t h e, w) at q in
      let (x, y) = and_holds (ltb h (state_count p)) (ltb (owner p h) t) r in
      (ltb-true h (state_count p) x, ltb-true (owner p h) t y)

  is_in_lem : (t h : ℕ) → host p t ≡ some h → is_in p h t ≡ true
  unfolding is_in
  is_in_lem t h e = rw (e, is_in) (borrow.Author.Tests.eq-eqb h h refl)

  host_open : (t h : ℕ) → host p t ≡ some h → is_final p h ≡ false
  unfolding bad_hosting is_hosting
  host_open t h e =
      let x = some_at (track_count p) (is_in p h) t (hosted t h e) (is_in_lem t h e) in
      let q = (or_fails (is_final p h && is_hosting p h) (not (is_hosting p h) && not (eqb (replacement p h) 0)) (a.hostings h (host_facts t h e).0)).0 in
      ⊎_elim (λ f. clash (and_both (is_final p h) (is_hosting p h) f x) q) (λ f. f) (look (is_final p h))

  unhosting : (s : ℕ) → s < state_count p → is_hosting p s ≡ false → replacement p s ≡ 0
  unfolding bad_hosting
  unhosting s l n =
      let q = (or_fails (is_final p s && is_hosting p s) (not (is_hosting p s) && not (eqb (replacement p s) 0)) (a.hostings s l)).1 in
      let r : not (eqb (replacement p s) 0) ≡ false = rw n at q in
      eqb-true (replacement p s) 0 (not-false _ r)

  first_facts : (t : ℕ) → t < track_count p → (is_state_of p t (first_state p t) ≡ true) × (is_final p (first_state p t) ≡ false)
  unfolding bad_first first_state
  first_facts t l = go (first p t) refl
    where
      go : (o : Option ℕ) → first p t ≡ o → (is_state_of p t (first_state p t) ≡ true) × (is_final p (first_state p t) ≡ false)
      go none e = let q : ◌≡◌ {A = Bool} true false = rw (e, bad_first) at (a.firsts t l) in clash refl q
      go (some s) e =
          let f : first_state p t ≡ s = rw (e, first_state) in
          let x : is_state_of p t s ≡ true = unfold first in (first_found (state_count p) (is_state_of p t) s e).1 in
          let y : is_final p s ≡ false = rw (e, bad_first) at (a.firsts t l) in
          (ap (is_state_of p t) f ∙ x, ap (is_final p) f ∙ y)

  owned : (s : ℕ) → s < state_count p → owner p s < track_count p
  unfolding bad_state
  owned s l = leb-false (track_count p) (owner p s) (or_fails (leb (track_count p) (owner p s)) (ltb 1 (state p s).final) (a.states s l)).0

  -- the four parts of 13 that are used
  pub record Sane (x : ℕ) : Type 0 where
    pub source : (transition p x).source < state_count p
    pub destination : is_state_of p (mover p x) (transition p x).destination ≡ true
    pub going : is_final p (transition p x).source ≡ false
    pub event : eqb (transition p x).event 0 ≡ false

  pub sane : (x : ℕ) → x < transition_count p → Sane x
  unfolding bad_transition mover is_state_of
  sane x l =
      let s = (transition p x).source in
      let d = (transition p x).destination in
      let A = leb (state_count p) s in
      let B = leb (state_count p) d in
      let C = not (eqb (owner p s) (owner p d)) in
      let D = is_final p s in
      let E = eqb (transition p x).event 0 in
      let q4 = or_fails (A || B || C || D) E (a.transitions x l) in
      let q3 = or_fails (A || B || C) D q4.0 in
      let q2 = or_fails (A || B) C q3.0 in
      let q1 = or_fails A B q2.0 in
      let e : owner p s ≡ owner p d = eqb-true (owner p s) (owner p d) (not-false _ q2.1) in
      let m : d < state_count p = leb-false (state_count p) d q1.1 in
      record {
        source = leb-false (state_count p) s q1.0;
        destination = rw (borrow.Author.Tests.lt-ltb d (state_count p) m) (borrow.Author.Tests.eq-eqb (owner p d) (owner p s) (sym e));
        going = q3.1;
        event = q4.1;
      }

  deviation_facts : (x d : ℕ) → x < transition_count p → optional (transition p x).deviation ≡ some d
      → (is_state_of p (mover p x) d ≡ true) × (is_final p d ≡ false) × (is_root p (mover p x) ≡ true)
  unfolding bad_deviation
  deviation_facts x d l h =
      let (e, n) = optional_some (transition p x).deviation d h in
      let A = not (is_state_of p (mover p x) d) in
      let B = is_final p d in
      let C = not (is_root p (mover p x)) in
      let D = eqb (transition p x).code 0 in
      let r : (A || B || C || D) ≡ false = rw (n, e) at (a.deviations x l) in
      let q3 = or_fails (A || B || C) D r in
      let q2 = or_fails (A || B) C q3.0 in
      let q1 = or_fails A B q2.0 in
      (not-false _ q1.0, q1.1, not-false _ q2.1)

  repeated : (x y : ℕ) → x < y → (transition p x).source ≡ (transition p y).source → (transition p x).event ≡ (transition p y).event
      → repeats_event p y ≡ true
  unfolding repeats_event
  repeated x y l s e =
      some_at y (λ z. eqb (transition p z).source (transition p y).source && eqb (transition p z).event (transition p y).event) x l
      (and_both (eqb (transition p x).source (transition p y).source) (eqb (transition p x).event (transition p y).event)
      (borrow.Author.Tests.eq-eqb _ _ s) (borrow.Author.Tests.eq-eqb _ _ e))

  deterministic : (x y : ℕ) → x < transition_count p → y < transition_count p → (transition p x).source ≡ (transition p y).source
      → (transition p x).event ≡ (transition p y).event → x ≡ y
  deterministic x y b c s e =
      ⊎_elim (λ l. clash (repeated x y (ltb-true x y l) s e) (a.events y c))
      (λ l.
      ⊎_elim (λ m. clash (repeated y x (ltb-true y x m) (sym s) (sym e)) (a.events x b))
      (λ m. let i = ltb-false x y l in let j = ltb-false y x m in omega arith) (look (ltb y x)))
      (look (ltb x y))

  pub accepted_facts : Accepted p
  unfolding no_track
  accepted_facts =
      record {
        some_track = let f : track_count p ≡ 0 → ⊥ = eqb-false (track_count p) 0 a.some_track in omega arith;
        hosted = hosted;
        host_state = λ t h e. (host_facts t h e).0;
        lower = λ t h e. (host_facts t h e).1;
        host_open = host_open;
        first_own = λ t l. (first_facts t l).0;
        first_open = λ t l. (first_facts t l).1;
        owned = owned;
        source_state = λ x l. (sane x l).source;
        destination_own = λ x l. (sane x l).destination;
        source_open = λ x l. (sane x l).going;
        deviation_own = λ x d l h. (deviation_facts x d l h).0;
        deviation_open = λ x d l h. (deviation_facts x d l h).1;
        deviation_root = λ x d l h. (deviation_facts x d l h).2;
        deterministic = deterministic;
        unhosting = unhosting;
        windows = fit_windows p a.windows;
        grants = fit_grants p a.grants;
      }

-- a plan that is read is accepted
pub accepts : (bs : List ℕ) (c : Counts) → read_plan bs ≡ accepted c → Accepted (plan_of bs c)
accepts bs c h = accepted_facts (plan_of bs c) (passed_all (plan_of bs c) (read_passed bs c h))

-- the transition that a state has for an event
pub transition_for_lem : (p : Plan) (s e x : ℕ) → transition_for p s e ≡ some x
    → (x < transition_count p) × ((transition p x).source ≡ s) × ((transition p x).event ≡ e)
unfolding transition_for
transition_for_lem p s e x h =
    let (l, q) = first_found (transition_count p) (λ x. eqb (transition p x).source s && eqb (transition p x).event e) x h in
    let (a, b) = and_holds (eqb (transition p x).source s) (eqb (transition p x).event e) q in
    (l, eqb-true _ _ a, eqb-true _ _ b)
