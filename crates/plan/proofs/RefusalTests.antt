-- The tests of refusals 9 to 14, part by part, in the order in which the code looks at a record's fields. Assumes nothing.
use Rattle.std.proofs.Common.{◌≡◌, refl, sym, ◌∙◌, Bool, true, false, not, ◌&&◌, ◌||◌, List, ℕ, ◌<◌, ◌≤◌, arith, eqb, ltb, leb, ltb-true, ltb-false, leb-false, lt-ltb, le-ltb, le-leb, eq-eqb, ne_eqb}
use Rattle.std.proofs.Math.Bool.{or-false, and-true, and-false}
use Rattle.std.proofs.Math.Option.{Option, none, some}
use borrow.Author.Tests.{lt-leb}
use Rattle.rules.specs.declared.Counts.{Counts}
use Rattle.rules.specs.Fold.{some_below}
use Rattle.rules.specs.Plan.{Plan, plan_of, state_count, track_count, no_state, host_word, state, owner, replacement, transition, mover, is_root, is_state_of, is_final, is_hosting, first, first_state}
use Rattle.rules.specs.Acceptance.{bad_state, bad_host, bad_first, bad_hosting, bad_transition, bad_deviation}
use Rattle.rules.proofs.Tests.{and_holds, or_fails}
use Rattle.rules.proofs.Folds.{first_found, some_not}
use Rattle.plan.proofs.FieldLaws.{track_count_lem, state_count_lem}
use Rattle.plan.proofs.Hosting.{host_none, host_some}

pub not_ltb : (a b : ℕ) → not (ltb a b) ≡ leb b a
not_ltb a b = go (ltb a b) refl
  where
    go : (e : Bool) → ltb a b ≡ e → not (ltb a b) ≡ leb b a
    go true e = rw (e, lt-leb b a (ltb-true a b e))
    go false e = rw (e, le-leb b a (ltb-false a b e))

module _ (p : Plan) where
  -- 9
  pub state_lost : (s : ℕ) → track_count p ≤ owner p s → bad_state p s ≡ true
  unfolding bad_state
  state_lost s l = rw (le-leb (track_count p) (owner p s) l)

  pub state_owned : (s : ℕ) → owner p s < track_count p → bad_state p s ≡ ltb 1 (state p s).final
  unfolding bad_state
  state_owned s l = rw (lt-leb (track_count p) (owner p s) l)

  -- 10
  module _ (t h : ℕ) (e : h ≡ host_word p t) where
    pub host_root : h ≡ no_state → bad_host p t ≡ false
    unfolding bad_host is_root
    host_root n = rw (host_none p t (sym e ∙ n), is_root)

    module _ (n : h ≡ no_state → ⊥) where
      hosted : bad_host p t ≡ not (ltb h (state_count p) && ltb (owner p h) t)
      unfolding bad_host is_root
      hosted = rw (host_some p t (λ q. n (e ∙ q)), is_root, e)

      pub host_lost : state_count p ≤ h → bad_host p t ≡ true
      host_lost l = hosted ∙ rw (le-ltb h (state_count p) l)

      pub host_track_lem : h < state_count p → bad_host p t ≡ leb t (owner p h)
      host_track_lem l = hosted ∙ rw (lt-ltb h (state_count p) l) (not_ltb (owner p h) t)

  -- 11
  module _ (t f : ℕ) (e : f ≡ first_state p t) where
    none_first : first p t ≡ none → f ≡ no_state
    unfolding first_state
    none_first o = e ∙ rw (o, first_state)

    some_first : (s : ℕ) → first p t ≡ some s → (f ≡ s) × (s < state_count p)
    unfolding first_state first
    some_first s o = (e ∙ rw (o, first_state), (first_found (state_count p) (is_state_of p t) s o).0)

    pub first_lost : state_count p ≤ f → bad_first p t ≡ true
    unfolding bad_first
    first_lost l = go (first p t) refl
      where
        go : (o : Option ℕ) → first p t ≡ o → bad_first p t ≡ true
        go none q = rw (q, bad_first)
        go (some s) q = let (g, m) = some_first s q in absurd (omega arith)

    pub first_here : f < state_count p → state_count p < no_state → bad_first p t ≡ is_final p f
    unfolding bad_first
    first_here l m = go (first p t) refl
      where
        go : (o : Option ℕ) → first p t ≡ o → bad_first p t ≡ is_final p f
        go none q = let g = none_first q in absurd (omega arith)
        go (some s) q = rw (q, bad_first, (some_first s q).0)

  -- 12
  pub hosting_here : (s : ℕ) → is_hosting p s ≡ true → bad_hosting p s ≡ is_final p s
  unfolding bad_hosting
  hosting_here s h = rw h (rw (and-true (is_final p s)) (or-false (is_final p s)))

  pub hosting_none : (s : ℕ) → is_hosting p s ≡ false → bad_hosting p s ≡ not (eqb (replacement p s) 0)
  unfolding bad_hosting
  hosting_none s h = rw h (rw (and-false (is_final p s)))

  -- 13
  module _ (x s d : ℕ) (es : s ≡ (transition p x).source) (ed : d ≡ (transition p x).destination) where
    faults : bad_transition p x
        ≡ (leb (state_count p) s || leb (state_count p) d || not (eqb (owner p s) (owner p d)) || is_final p s || eqb (transition p x).event 0)
    unfolding bad_transition
    faults = rw (es, ed)

    pub source_lost : state_count p ≤ s → bad_transition p x ≡ true
    source_lost l = faults ∙ rw (le-leb (state_count p) s l)

    pub destination_lost : s < state_count p → state_count p ≤ d → bad_transition p x ≡ true
    destination_lost l m = faults ∙ rw (lt-leb (state_count p) s l, le-leb (state_count p) d m)

    module _ (l : s < state_count p) (m : d < state_count p) where
      pub two_tracks : (owner p s ≡ owner p d → ⊥) → bad_transition p x ≡ true
      two_tracks n =
          faults ∙ rw (lt-leb (state_count p) s l, lt-leb (state_count p) d m, ne_eqb (owner p s) (owner p d) n)

      module _ (o : owner p s ≡ owner p d) where
        pub from_final : is_final p s ≡ true → bad_transition p x ≡ true
        from_final f =
            faults ∙ rw (lt-leb (state_count p) s l, lt-leb (state_count p) d m, eq-eqb (owner p s) (owner p d) o, f)

        pub by_event : is_final p s ≡ false → bad_transition p x ≡ eqb (transition p x).event 0
        by_event f =
            faults ∙ rw (lt-leb (state_count p) s l, lt-leb (state_count p) d m, eq-eqb (owner p s) (owner p d) o, f)

  -- 14
  module _ (x t d : ℕ) (et : t ≡ mover p x) (ed : d ≡ (transition p x).deviation) where
    wrongs : bad_deviation p x
        ≡ (not (eqb d no_state) && (not (is_state_of p t d) || is_final p d || not (is_root p t) || eqb (transition p x).code 0))
    unfolding bad_deviation
    wrongs = rw (et, ed)

    pub no_deviation : d ≡ no_state → bad_deviation p x ≡ false
    no_deviation h = wrongs ∙ rw (eq-eqb d no_state h)

    module _ (n : d ≡ no_state → ⊥) where
      pub deviation_lost : is_state_of p t d ≡ false → bad_deviation p x ≡ true
      deviation_lost h = wrongs ∙ rw (ne_eqb d no_state n, h)

      module _ (o : is_state_of p t d ≡ true) where
        pub deviation_final : is_final p d ≡ true → bad_deviation p x ≡ true
        deviation_final h = wrongs ∙ rw (ne_eqb d no_state n, o, h)

        module _ (f : is_final p d ≡ false) where
          pub deviation_hosted : is_root p t ≡ false → bad_deviation p x ≡ true
          deviation_hosted h = wrongs ∙ rw (ne_eqb d no_state n, o, f, h)

          pub deviation_code : is_root p t ≡ true → bad_deviation p x ≡ eqb (transition p x).code 0
          deviation_code h = wrongs ∙ rw (ne_eqb d no_state n, o, f, h)

  pub state_within : (t s : ℕ) → is_state_of p t s ≡ true → s < state_count p
  unfolding is_state_of
  state_within t s h = ltb-true s (state_count p) (and_holds (ltb s (state_count p)) (eqb (owner p s) t) h).0

  -- where 9 and 13 pass, a transition's source is a state, and its track is a track
  pub source_passed : (x : ℕ) → bad_transition p x ≡ false → (transition p x).source < state_count p
  unfolding bad_transition
  source_passed x h =
      let s = (transition p x).source in
      let d = (transition p x).destination in
      let A = leb (state_count p) s in
      let B = leb (state_count p) d in
      let C = not (eqb (owner p s) (owner p d)) in
      let D = is_final p s in
      let q = (or_fails (A || B || C || D) (eqb (transition p x).event 0) h).0 in
      leb-false (state_count p) s (or_fails A B (or_fails (A || B) C (or_fails (A || B || C) D q).0).0).0

  pub owner_passed : (s : ℕ) → bad_state p s ≡ false → owner p s < track_count p
  unfolding bad_state
  owner_passed s h = leb-false (track_count p) (owner p s) (or_fails (leb (track_count p) (owner p s)) (ltb 1 (state p s).final) h).0

pub source_within : (bs : List ℕ) (c : Counts) → some_below c.transitions (bad_transition (plan_of bs c)) ≡ false → (x : ℕ)
    → x < c.transitions → (transition (plan_of bs c) x).source < c.states
source_within bs c k x l =
    rw state_count_lem at (source_passed (plan_of bs c) x (some_not c.transitions (bad_transition (plan_of bs c)) k x l))

pub mover_passed : (bs : List ℕ) (c : Counts) → some_below c.states (bad_state (plan_of bs c)) ≡ false
    → some_below c.transitions (bad_transition (plan_of bs c)) ≡ false → (x : ℕ) → x < c.transitions
    → ((transition (plan_of bs c) x).source < c.states) × (mover (plan_of bs c) x < c.tracks)
unfolding mover
mover_passed bs c h k x l =
    let p = plan_of bs c in
    let a = source_within bs c k x l in
    let b = rw track_count_lem at (owner_passed p (transition p x).source (some_not c.states (bad_state p) h _ a)) in
    (a, b)
