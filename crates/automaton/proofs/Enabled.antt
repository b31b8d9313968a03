-- Which steps the view of a nested ledger allows: SUC exactly at the tracks that move, COMP exactly at those that may be fired and of their
-- newest code alone, FAIL exactly at the forward tracks without an open scope. By the rules one after the other: whatever a basic
-- configuration within the view is, its track is so on the ledger. Assumes nothing.
use mathlib.Core.Path.{◌≡◌, refl, sym, ap, ◌∙◌, subst}
use mathlib.Core.Logic.{◌↔◌, inl, inr}
use mathlib.Core.Bool.{Bool, true, false, cond, not}
use mathlib.Core.List.{List, [], ◌∷◌, ◌++◌}
use mathlib.Core.Option.{Option, none, some}
use Prim.{Unit, tt}
use Prim.Native.Nat.{ℕ, zero, suc, ◌+◌, ◌<◌}
use native.Mathlib.Omega.{arith}
use lib.Dec.{eqb}
use borrow.Author.Tests.{eqb-true, eq-eqb, ne_eqb, lt-ltb, not-true}
use Rattle.rules.specs.declared.Mode.{Mode}
use Rattle.rules.specs.declared.Mode.TheVariants.{Asleep, Forward, Undoing}
use Rattle.rules.specs.Names.{Day}
use Rattle.rules.specs.declared.Terms.{Terms}
use Rattle.rules.specs.Fold.{every_below, first_refusal}
use Rattle.rules.specs.Plan.{Plan, track_count, host, transition_count, transition, may_take, taken_on}
use Rattle.rules.specs.Ledger.{Entry, Ledger, is_awake, is_forward, is_undoing, is_empty}
use Rattle.rules.specs.Scope.{has_open_scope, is_over}
use Rattle.rules.specs.Rights.{move_right, signal_right, is_permitted}
use Rattle.rules.specs.Event.{EventArguments, is_move, may_move, move, moves, is_full}
use Rattle.rules.specs.Fire.{newest, may_fire}
use Rattle.rules.specs.Call.{FireArguments, Call, event, signal, fire, bad_day, call_refusals, call_refusal}
use Rattle.rules.proofs.Tests.{look, look_option, clash, refuted}
use Rattle.rules.proofs.Folds.{every_at}
use Rattle.rules.proofs.Acceptance.{Passed, Accepted, accepted_facts, sane}
use Rattle.rules.proofs.Abandoning.{hosts_higher}
use Rattle.rules.proofs.Modes.{forward_awake}
use Rattle.rules.proofs.RightsLaws.{permitted_somewhere}
use Rattle.theory.proofs.Nesting.{Awake, Nested}
use Rattle.theory.proofs.Entries.{Good}
use Rattle.automaton.specs.Listing.{listed_from, listed}
use Rattle.automaton.specs.Configuration.{forward, backward, Comp, Stack, NConf, Basic, Nest, Conf, end, next, Vect, is_forwards, push_comp}
use Rattle.automaton.specs.Semantics.{FailReading, basic_alone, nested_too, Act, suc_at, fail_at, comp_at, dev_at, nestsuc_at, nestfail_at, nestcomp_at, Step, SUC, FAIL, FAILNEST, COMP, DEV, NESTSUC, NESTFAIL, NESTCOMP, NEST, VStep, VECT}
use Rattle.automaton.specs.View.{stack_of, direction_of, facing, is_within, basic, nested, shown, view_of, is_on_top, view, is_going}
use Rattle.restoration.proofs.Theorems01.{move_takes, move_permitted, mover_awake, fire_accepted, Sound, Over, Kept}
use Rattle.restoration.proofs.Allowed.{fire_allowed}
use Rattle.restoration.proofs.Rights.{fire_permitted}
use Rattle.automaton.specs.Enabled.{Allows, StepFor}
use Rattle.automaton.proofs.Settled.{view_settled}
use Rattle.automaton.proofs.Frames.{down, frame, frames, instead_some, within_parts, top_parts, shown_free, shown_busy, view_frame, view_frames, view_law, frame_law, replaced}
use Rattle.automaton.proofs.MovingSteps.{takes_it, moves_some, on_event, takes, arrival}
use Rattle.automaton.proofs.TurningSteps.{going_forward, going_of, fails}
use Rattle.automaton.proofs.FiringSteps.{comp_step}
use Rattle.automaton.proofs.CallSteps.{over_view}

way_forward : (m : Mode) → forward ≡ direction_of (is_forward m) → is_forward m ≡ true
unfolding direction_of is_forward is_forwards
way_forward Asleep h = ap is_forwards (sym h)
way_forward Forward h = refl
way_forward Undoing h = ap is_forwards (sym h)

way_backward : (m : Mode) → is_awake m ≡ true → backward ≡ direction_of (is_forward m) → is_undoing m ≡ true
unfolding direction_of is_forward is_forwards is_undoing is_awake
way_backward Asleep a h = a
way_backward Forward a h = ap is_forwards h
way_backward Undoing a h = refl

facing_going : (p : Plan) (l : Ledger) (ρ : FailReading) (t : ℕ) → ρ ≡ nested_too → forward ≡ facing ρ (l t).mode → is_going p ρ l t ≡ true
unfolding facing is_going
facing_going p l basic_alone t w h = let z : ◌≡◌ {A = ℕ} 0 1 = cc in absurd (omega arith)
facing_going p l nested_too t w h = way_forward (l t).mode h

-- a compensation on top is the newest entry's
top_newest : (es : List Entry) (c : ℕ) (S : Stack) → Comp c ∷ S ≡ stack_of es → (is_empty es ≡ false) × (c ≡ (newest es).code)
unfolding stack_of push_comp is_empty newest
top_newest [] c S h = let z : ◌≡◌ {A = ℕ} 0 1 = cc in absurd (omega arith)
top_newest (e ∷ es) c S h = (refl, cc)

module _ (p : Plan) (ρ : FailReading) (l : Ledger) where
  -- as the ledger has it: each basic configuration is its track's, awake and without an open scope, and each host has its track's direction
  mutual
    Shows : NConf → Type 0
    Shows (Basic A q r S) = Awake l A × (has_open_scope p l A ≡ false) × (q ≡ (l A).state) × (r ≡ direction_of (is_forward (l A).mode)) × (S ≡ stack_of (l A).held)
    Shows (Nest A q r S c) = (r ≡ facing ρ (l A).mode) × ShowsAll c

    ShowsAll : Conf → Type 0
    ShowsAll end = Unit {0}
    ShowsAll (next n c) = Shows n × ShowsAll c

  -- what the ledger allows
  Allowed : Act → Type 0
  Allowed (suc_at A i) = moves p l i A ≡ true
  Allowed (fail_at A) = is_going p ρ l A ≡ true
  Allowed (comp_at A c) = (may_fire p l A ≡ true) × (c ≡ (newest (l A).held).code)
  Allowed (dev_at A d) = Unit {0}
  Allowed (nestsuc_at A) = Unit {0}
  Allowed (nestfail_at A) = Unit {0}
  Allowed (nestcomp_at A) = Unit {0}

  member_shows : (α β : List NConf) (n : NConf) → ShowsAll (Vect (α ++ (n ∷ β))) → Shows n
  unfolding ShowsAll Vect
  member_shows [] β n h = h.0
  member_shows (x ∷ α) β n h = member_shows α β n h.1

  moves_of : Accepted p → (A : ℕ) (i : EventArguments) (x : ℕ) → is_forward (l A).mode ≡ true → has_open_scope p l A ≡ false → x < transition_count p
      → (transition p x).source ≡ (l A).state → (transition p x).event ≡ i.event → may_take p i.day x ≡ true → is_permitted p move_right i.society A ≡ true → moves p l i A ≡ true
  unfolding moves move may_move is_move taken_on
  moves_of ok A i x f b c s e m y = rw (y, f, b, takes_it p ok i.event (l A).state x c s e, taken_on, m, is_move)

  step_allowed : (ok : Accepted p) (n : Nested p l) {c d : Conf} {a : Act} → VStep p ρ c a d → ShowsAll c → Allowed a
  unfolding Shows ShowsAll Allowed may_fire
  step_allowed ok n s =
      elim s as (λ n a m x. Shows n → Allowed a) (λ c a d x. ShowsAll c → Allowed a) [
        | SUC A q i x S b e f g m y ↦
            λ h. let (w, free, st, r, hd) = h in moves_of ok A i x (way_forward (l A).mode r) free b (f ∙ st) g m y
        | FAIL A q S ↦ λ h. let (w, free, st, r, hd) = h in going_of p l ρ A (way_forward (l A).mode r) free
        | FAILNEST A q S c w ↦ λ h. facing_going p l ρ A w h.0
        | COMP A q c S ↦
            λ h.
            let (w, free, st, r, hd) = h in
            let (e, k) = top_newest (l A).held c S hd in
            (rw (lt-ltb A (track_count p) (n.below A w), way_backward (l A).mode w r, e, free), k)
        | DEV A q d S ↦ λ h. tt
        | NESTSUC A q S c t ↦ λ h. tt
        | NESTFAIL A q S c t ↦ λ h. tt
        | NESTCOMP A q S c t ↦ λ h. tt
        | NEST A q r S (s → ih) ↦ λ h. ih h.1
        | VECT α β {n = n} (s → ih) ↦ λ h. ih (member_shows α β n h)
      ]

  shows_listed : (n i : ℕ) (f : ℕ → Bool) (g : ℕ → NConf) → ((k : ℕ) → k < i + n → f k ≡ true → Shows (g k)) → ShowsAll (Vect (listed_from n i f g))
  unfolding listed_from Vect ShowsAll
  shows_listed zero i f g h = tt
  shows_listed (suc n) i f g h = go (f i) refl (shows_listed n (suc i) f g (λ k b. h k (omega arith)))
    where
      go : (x : Bool) → f i ≡ x → ShowsAll (Vect (listed_from n (suc i) f g)) → ShowsAll (Vect (cond x (g i ∷ listed_from n (suc i) f g) (listed_from n (suc i) f g)))
      go true e r = (h i (omega arith) e, r)
      go false e r = r

  module _ (ok : Accepted p) (n : Nested p l) where
    basic_shows : (t : ℕ) → Awake l t → has_open_scope p l t ≡ false → Shows (basic p l t)
    unfolding basic Shows
    basic_shows t a f = (a, f, refl, refl, refl)

    nested_shows : (t : ℕ) (c : Conf) → ShowsAll c → Shows (nested p ρ l t c)
    unfolding nested Shows
    nested_shows t c h = (refl, h)

    track_shows : (t : ℕ) → t < track_count p → Awake l t → Shows (view_of p ρ l t)
    unfolding listed
    track_shows =
        down (track_count p) (λ t. Awake l t → Shows (view_of p ρ l t))
        (λ t b ih a.
        subst Shows (sym (view_law p ρ l ok t b))
        (elim (look (has_open_scope p l t)) [
          | inr f ↦ subst Shows (sym (shown_free p ρ l t (view_of p ρ l) f)) (basic_shows t a f)
          | inl f ↦
              subst Shows (sym (shown_busy p ρ l t (view_of p ρ l) f))
              (nested_shows t _
              (shows_listed (track_count p) 0 (is_within p l t) (view_of p ρ l)
              (λ k c y. let (i, w) = within_parts p l t k y in ih k (omega arith) (hosts_higher p ok t k i) w)))
        ]))

    view_shows : ShowsAll (view p ρ l)
    unfolding view listed
    view_shows =
        shows_listed (track_count p) 0 (is_on_top p l) (view_of p ρ l) (λ k c y. track_shows k (omega arith) (top_parts p l k y).1)

    -- a step of one track's configuration is a step of the view
    put : ℕ → NConf → ℕ → Option NConf
    put t c u = cond (eqb u t) (some c) none

    put_here : (t : ℕ) (c : NConf) → put t c t ≡ some c
    unfolding put
    put_here t c = rw (eq-eqb t t refl)

    put_other : (t : ℕ) (c : NConf) (u : ℕ) → (u ≡ t → ⊥) → put t c u ≡ none
    unfolding put
    put_other t c u d = rw (ne_eqb u t d)

    track_step : (t : ℕ) (c : NConf) (a : Act) → Awake l t → Step p ρ (view_of p ρ l t) a c → (d : Conf) × VStep p ρ (view p ρ l) a d
    track_step t c a w s =
        let q : frame p ρ l (put t c) t ≡ c =
        frame_law p ρ l ok (put t c) t (n.below t w) ∙ instead_some (put t c t) (shown p ρ l t (frame p ρ l (put t c))) c (put_here t c) in (
          frames p ρ l (put t c),
          subst (λ z. VStep p ρ z a (frames p ρ l (put t c))) (sym (view_frames p ρ l))
              (replaced p ρ l ok n (λ u. none) (put t c) t (λ u d. sym (put_other t c u d)) (λ u x. refl) a w
              (subst (λ z. Step p ρ z a (frame p ρ l (put t c) t)) (view_frame p ρ l t)
              (subst (λ z. Step p ρ (view_of p ρ l t) a z) (sym q) s))),
        )

    -- SUC at an automaton exactly if the event moves its track
    pub suc_enabled : (t : ℕ) (e : EventArguments) → ((d : Conf) × VStep p ρ (view p ρ l) (suc_at t e) d) ↔ (moves p l e t ≡ true)
    suc_enabled t e = (λ s. suc_only s.0 s.1, λ h. track_step t (arrival p l e t) (suc_at t e) (moving_awake h) (takes p l e ρ ok n t h))
      where
        suc_only : (d : Conf) → VStep p ρ (view p ρ l) (suc_at t e) d → moves p l e t ≡ true
        suc_only d s = unfold Allowed in step_allowed ok n s view_shows

        moving_awake : moves p l e t ≡ true → Awake l t
        moving_awake h = let (x, q) = moves_some p l e t h in mover_awake p l e t x q

    -- FAIL exactly at the tracks that it turns
    pub fail_enabled : (t : ℕ) → ((d : Conf) × VStep p ρ (view p ρ l) (fail_at t) d) ↔ (is_going p ρ l t ≡ true)
    fail_enabled t = (λ s. fail_only s.0 s.1, λ h. let (c, v) = fails p ρ ok l n t h in track_step t c (fail_at t) (going_awake h) v)
      where
        fail_only : (d : Conf) → VStep p ρ (view p ρ l) (fail_at t) d → is_going p ρ l t ≡ true
        fail_only d s = unfold Allowed in step_allowed ok n s view_shows

        going_awake : is_going p ρ l t ≡ true → Awake l t
        going_awake h = forward_awake (l t).mode (going_forward p l ρ t h)

    -- COMP exactly at the tracks that may be fired, and of the newest code alone
    pub comp_newest : (t c : ℕ) (d : Conf) → VStep p ρ (view p ρ l) (comp_at t c) d → (may_fire p l t ≡ true) × (c ≡ (newest (l t).held).code)
    unfolding Allowed
    comp_newest t c d s = step_allowed ok n s view_shows

    comp_enabled : ((u : ℕ) → Good p u (l u).held) → (t : ℕ) → ((c : ℕ) × (d : Conf) × VStep p ρ (view p ρ l) (comp_at t c) d) ↔ (may_fire p l t ≡ true)
    comp_enabled g t = (λ s. (comp_newest t s.0 s.1 s.2).0, λ h. (_, _, comp_step p ρ ok l n t (g t) h))

-- a sound ledger is not over: track 0 is a root
module _ (p : Plan) (ok : Accepted p) (terms : Terms) (l : Ledger) (s : Sound terms p l) where
  not_over_lem : is_over p l ≡ false
  unfolding is_over
  not_over_lem =
      refuted (every_below (track_count p) (λ t. not (is_awake (l t).mode)))
      (λ h.
      elim (look_option (host p 0)) [
        | inr q ↦ let c = ok.lower 0 q.0 q.1 in omega arith
        | inl e ↦ clash (s.roots 0 ok.some_track e) (not-true (is_awake (l 0).mode) (every_at (track_count p) (λ t. not (is_awake (l t).mode)) h 0 ok.some_track))
      ])

module _ (p : Plan) (ρ : FailReading) (ok : Accepted p) (terms : Terms) (l : Ledger) (s : Sound terms p l) where
  abbrev n' : Nested p l
  n' = s.formed.nested

  -- of every sound ledger
  pub allows : Allows p ρ l
  allows =
      record {
        suc = λ t e. suc_enabled p ρ l ok n' t e;
        fail = λ t. fail_enabled p ρ l ok n' t;
        comp = λ t. comp_enabled p ρ l ok n' s.formed.good t;
        code = λ t c d v. (comp_newest p ρ l ok n' t c d v).1;
        silent = view_settled p ρ ok l n' s.closing s.abandoning;
      }

-- Refusals 19, 20, 22 and 28: no step that the call asks for applies. 21 and 26 alone refuse one that would.
module _ (p : Plan) (passed : Passed p) (ρ : FailReading) where
  ok : Accepted p
  ok = accepted_facts p passed

  -- no transition is on event 0 (refusal 13)
  zero_none : (l : Ledger) → Nested p l → (t : ℕ) (a : EventArguments) → a.event ≡ 0 → (d : Conf) → VStep p ρ (view p ρ l) (suc_at t a) d → ⊥
  zero_none l n t a z d v =
      let (x, q) = moves_some p l a t ((suc_enabled p ρ l ok n t a).0 (d, v)) in
      clash (eq-eqb (transition p x).event 0 (on_event p l a t x q ∙ z)) (sane p passed x (move_takes p l a t x q).real).event

  -- an over ledger shows the empty vector, to which no rule applies
  over_none : (l : Ledger) → Over l → (a : Act) (d : Conf) → VStep p ρ (view p ρ l) a d → ⊥
  unfolding Vect
  over_none l o a d v = go (over_view p ρ ok l o) v
    where
      filled : (α : List NConf) (n : NConf) (β : List NConf) → Vect (α ++ (n ∷ β)) ≡ end → ⊥
      filled [] n β e = let z : ◌≡◌ {A = ℕ} 0 1 = cc in absurd (omega arith)
      filled (x ∷ α) n β e = let z : ◌≡◌ {A = ℕ} 0 1 = cc in absurd (omega arith)

      go : {c d : Conf} {a : Act} → c ≡ end → VStep p ρ c a d → ⊥
      go e (VECT α β {n = n} s) = filled α n β e

  sound_none : (terms : Terms) (day : Day) (l : Ledger) → Sound terms p l → (c : Call) (r : ℕ) → call_refusal terms p day l c ≡ suc r
      → (suc r ≡ 21 → ⊥) → (suc r ≡ 26 → ⊥) → StepFor p ρ c (view p ρ l) → ⊥
  unfolding StepFor call_refusal call_refusals first_refusal
  sound_none terms day l s (event a) r e f g v =
      elim (look (eqb a.event 0)) [
        | inl z ↦ let (A, d, w) = v in zero_none l s.formed.nested A a (eqb-true a.event 0 z) d w
        | inr z ↦
            let (A, d, w) = v in
            let (x, q) = moves_some p l a A ((suc_enabled p ρ l ok s.formed.nested A a).0 (d, w)) in
            let y = permitted_somewhere p move_right a.society A (move_permitted p l a A x q) in
            rest (bad_day day a.day) (is_full p terms l a) (rw (z, not_over_lem p ok terms l s, y) at e)
      ]
    where
      rest : (b c : Bool) → ◌≡◌ {A = ℕ} (cond b 26 (cond c 21 0)) (suc r) → ⊥
      rest true c e = g (sym e)
      rest false true e = f (sym e)
      rest false false e = omega arith
  sound_none terms day l s (signal a) r e f g v =
      let y = permitted_somewhere p signal_right a.society v.0 v.1 in let q : 0 ≡ suc r = rw (not_over_lem p ok terms l s, y) at e in omega arith
  sound_none terms day l s (fire a) r e f g v =
      let (y, k, d, w) = v in
      let may = ((allows p ρ ok terms l s).comp a.track).0 (k, d, w) in
      let q : 0 ≡ suc r = sym (fire_allowed terms p day l a may y) ∙ e in omega arith

  -- of every sound ledger, over ones too
  pub refused_none : (terms : Terms) (day : Day) (l : Ledger) → Kept terms p l → (c : Call) (r : ℕ) → call_refusal terms p day l c ≡ suc r
      → (suc r ≡ 21 → ⊥) → (suc r ≡ 26 → ⊥) → StepFor p ρ c (view p ρ l) → ⊥
  unfolding StepFor
  refused_none terms day l (inr s) c r e f g v = sound_none terms day l s c r e f g v
  refused_none terms day l (inl o) (event a) r e f g v = let (A, d, w) = v in over_none l o (suc_at A a) d w
  refused_none terms day l (inl o) (signal a) r e f g v = let (A, y, d, w) = v in over_none l o (fail_at A) d w
  refused_none terms day l (inl o) (fire a) r e f g v = let (y, k, d, w) = v in over_none l o (comp_at a.track k) d w

  -- and a firing is accepted wherever its COMP applies
  pub fire_accepted_if : (terms : Terms) (day : Day) (l : Ledger) → Sound terms p l → (a : FireArguments)
      → StepFor p ρ (fire a) (view p ρ l) ↔ (call_refusal terms p day l (fire a) ≡ 0)
  unfolding StepFor
  fire_accepted_if terms day l s a = (
    λ v. let (y, k, d, w) = v in fire_allowed terms p day l a (((allows p ρ ok terms l s).comp a.track).0 (k, d, w)) y,
    λ h. let (k, d, w) = ((allows p ρ ok terms l s).comp a.track).1 (fire_accepted terms p day l a h).1 in (fire_permitted terms p day l a h, k, d, w),
  )
