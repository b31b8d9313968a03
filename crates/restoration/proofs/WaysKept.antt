-- Every call keeps each awake track on its way, where no transition has a deviation. A begin starts the way, a move makes it longer, and a closing fills
-- the room that was left for the replacement. All else leaves a track in its state with no more than it held: turning, abandoning and finish, and a
-- firing too, whose entry has no deviation. Assumes nothing.
use mathlib.Core.Path.{◌≡◌, sym, ap, ◌∙◌, subst}
use mathlib.Core.Logic.{inl, inr}
use mathlib.Core.Bool.{true, false, not}
use mathlib.Core.Option.{none, some}
use Prim.Native.Nat.{ℕ, ◌<◌, ◌≤◌}
use native.Mathlib.Omega.{arith}
use lib.ListN.{length}
use lib.Dec.{eqb, ltb}
use borrow.Author.Tests.{eqb-true, eqb-false, eq-eqb, lt-ltb, not-false}
use Rattle.rules.specs.Names.{Day}
use Rattle.rules.specs.declared.Terms.{Terms}
use Rattle.rules.specs.Plan.{Plan, track_count, transition_count, no_state, transition, replacement, host, owner, is_in, is_hosting}
use Rattle.rules.specs.Ledger.{Configuration, Ledger, is_awake}
use Rattle.rules.specs.Scope.{is_open, is_over}
use Rattle.rules.specs.Opening.{wakes, begun}
use Rattle.rules.specs.Event.{EventArguments, move, moved, is_closing, closes_scope, closed}
use Rattle.rules.specs.Signal.{turned, abandoned}
use Rattle.rules.specs.Fire.{may_fire, removed, fired}
use Rattle.rules.specs.Call.{SignalArguments, Call, event, signal, fire, call_refusal, next}
use Rattle.rules.specs.FiringsDue.{is_plain}
use Rattle.rules.specs.Largest.{leaves, has_deviation}
use Rattle.rules.proofs.Tests.{look, look_option, clash, none-some, refuted, and_both}
use Rattle.rules.proofs.Folds.{some_at, some_not}
use Rattle.rules.proofs.Acceptance.{Accepted}
use Rattle.rules.proofs.Scopes.{host_in, open_at, open_find}
use Rattle.rules.proofs.Opening.{enter_to}
use Rattle.rules.proofs.Closing.{closed_host, closed_replaced, closed_kept}
use Rattle.rules.proofs.Abandoning.{awake_kept, undoing_awake}
use Rattle.rules.proofs.Ready.{may_fire_lem}
use Rattle.theory.proofs.Nesting.{Awake, Nested, state_of}
use Rattle.theory.proofs.EnteringNested.{Fate, enters, wakens, stays, fate, woken_host, woken_asleep}
use Rattle.theory.proofs.Entries.{older_length}
use Rattle.theory.proofs.FiringNested.{removed_state, removed_awake, removed_here, removed_other}
use Rattle.theory.proofs.MovingNested as moving
use Rattle.theory.proofs.ClosingNested.{closing_open, closes_known}
use Rattle.theory.proofs.SoundBegin.{begun_fresh}
use Rattle.theory.proofs.SoundKept.{kept_sound}
use Rattle.restoration.proofs.Document01.{laws01, move_takes}
use Rattle.restoration.proofs.Theorems01.{Sound, Kept, sleeping_asleep, to_none, to_destination, to_some, by_some, installed_held, installed_state, recorded, goes, moved_is, recorded_awake, mover_awake, recorded_nested, goes_free, moved_still, closed_awake, turned_awake, turned_state, turned_held, fire_accepted, work, next_cases, next_refused, over_refused}
use Rattle.restoration.proofs.Plain.{plain_removed, fired_plain}
use Rattle.restoration.proofs.Ways.{Way, way_fresh, way_shut, way_fewer, way_longer, way_replaced, Ways}

-- a plan without deviations
pub no_deviation : (p : Plan) → has_deviation p ≡ false → (x : ℕ) → x < transition_count p → (transition p x).deviation ≡ no_state
unfolding has_deviation
no_deviation p h x b =
    eqb-true (transition p x).deviation no_state
    (not-false _ (some_not (transition_count p) (λ x. not (eqb (transition p x).deviation no_state)) h x b))

-- Where no awake track has woken, changed its state or got an entry, every one is still on its way.
record Fewer (l m : Ledger) (t : ℕ) : Type 0 where
  awake : Awake l t
  state : (m t).state ≡ (l t).state
  held : length (m t).held ≤ length (l t).held
  plain : is_plain (l t).held ≡ true → is_plain (m t).held ≡ true

module _ (p : Plan) (l m : Ledger) (fewer : (t : ℕ) → Awake m t → Fewer l m t) where
  fewer_open : (s : ℕ) → is_open p m s ≡ true → is_open p l s ≡ true
  fewer_open s o = let (u, b, e, a) = open_find p m s o in open_at p l s u b e (fewer u a).awake

  ways_fewer : Ways p l → Ways p m
  ways_fewer w t a =
      let f = fewer t a in
      let y = w t f.awake in
      way_shut p t (is_open p l (l t).state) (is_open p m (m t).state) (m t) (λ o. fewer_open (l t).state (ap (is_open p m) (sym f.state) ∙ o))
      (way_fewer p t (is_open p l (l t).state) (l t) (m t) f.state f.held (f.plain y.plain) y)

module _ (p : Plan) (ok : Accepted p) (l : Ledger) where
  -- a signal
  pub ways_signalled : (a : SignalArguments) → Ways p l → Ways p (abandoned p (turned p a.society l))
  ways_signalled a =
      let T = turned p a.society l in
      ways_fewer p l (abandoned p T)
      (λ t w.
      let q = (awake_kept p ok T t w).1 in
      let h : (abandoned p T t).held ≡ (l t).held = ap (λ (c : Configuration). c.held) q ∙ turned_held p ok a l t in
      record {
        awake = sym (turned_awake p ok a l t) ∙ ap (λ (c : Configuration). is_awake c.mode) (sym q) ∙ w;
        state = ap (λ (c : Configuration). c.state) q ∙ turned_state p ok a l t;
        held = rw h (omega arith);
        plain = λ i. rw h i;
      })

  -- a firing
  pub ways_fired : (t : ℕ) → may_fire p l t ≡ true → Ways p l → Ways p (abandoned p (fired p l t))
  ways_fired t may w =
      let up = undoing_awake (l t).mode (may_fire_lem p l t may).1 in
      let is = fired_plain p l t ok (w t up).plain in
      ways_fewer p l (abandoned p (fired p l t))
      (λ u a.
      let q = (awake_kept p ok (fired p l t) u a).1 ∙ ap (λ (m : Ledger). m u) is in
      record {
        awake = sym (removed_awake p l t u) ∙ ap (λ (c : Configuration). is_awake c.mode) (sym q) ∙ a;
        state = ap (λ (c : Configuration). c.state) q ∙ removed_state p l t u;
        held = rw q (removed_fewer u);
        plain = λ i. rw q (plain_removed p l t u i);
      })
      w
    where
      removed_fewer : (u : ℕ) → length (removed l t u).held ≤ length (l u).held
      removed_fewer u =
          elim (look (eqb u t)) [
            | inl e ↦ rw (removed_here p l t u e) (older_length (l u).held)
            | inr e ↦ rw (removed_other p l t u e) (omega arith)
          ]

-- The moves of an event.
module _ (p : Plan) (ok : Accepted p) (quiet : has_deviation p ≡ false) (l : Ledger) (n : Nested p l) (a : EventArguments) where
  abbrev M : Ledger
  M = moved p l a

  -- the scope of a state that its track stays in does not open
  not_opened : (t : ℕ) → Awake l t → move p l a t ≡ none → is_open p M (l t).state ≡ true → is_open p l (l t).state ≡ true
  not_opened t w still o =
      let (u, b, e, v) = open_find p M (l t).state o in
      open_at p l (l t).state u b e (go u e v (fate p ok (recorded p l a) (goes p l a) u))
    where
      own : owner p (l t).state ≡ t
      own = (state_of p t (l t).state (n.own t w)).1

      go : (u : ℕ) → host p u ≡ some (l t).state → Awake M u → Fate p ok (recorded p l a) (goes p l a) u → Awake l u
      go u e v (enters s f q) = let (x, g, d) = to_some p (move p l a u) s f in mover_awake p l a u x g
      go u e v (stays f k q) =
          sym (recorded_awake p l a u) ∙ ap (λ (c : Configuration). is_awake c.mode) (sym (ap (λ (m : Ledger). m u) (moved_is p l a) ∙ q)) ∙ v
      go u e v (wakens f k q) =
          let (h, e', r) = woken_host p ok (recorded p l a) (goes p l a) u k in
          let same : h ≡ (l t).state = cc in
          let own' : owner p h ≡ t = ap (owner p) same ∙ own in
          elim r [
            | inl i ↦ none-some (to_none p (move p l a t) still) (ap (goes p l a) (sym own') ∙ i)
            | inr i ↦
                clash (recorded_awake p l a t ∙ w)
                (woken_asleep p ok (recorded p l a) (goes p l a) (recorded_nested p l a ok n) (goes_free p l a ok n) t
                (subst (λ y. wakes p (goes p l a) y ≡ true) own' i.1))
          ]

  -- who moves goes on by the transition that it takes
  way_moved : (t x : ℕ) → move p l a t ≡ some x → Way p t (is_open p l (l t).state) (l t) → Way p t (is_open p M (M t).state) (M t)
  unfolding leaves
  way_moved t x g y =
      let k = move_takes p l a t x g in
      let q =
      ap (λ (m : Ledger). m t) (moved_is p l a)
      ∙ enter_to p ok (goes p l a) (recorded p l a) t (transition p x).destination (to_destination p (move p l a t) x g) in
      way_longer p t x (is_open p l (l t).state) (is_open p M (M t).state) (l t) (M t)
      (and_both (ltb x (transition_count p)) (eqb (transition p x).source (l t).state) (lt-ltb x (transition_count p) k.real)
      (eq-eqb (transition p x).source (l t).state k.from))
      (no_deviation p quiet x k.real) (ap (λ (c : Configuration). c.state) q)
      (ap (λ (c : Configuration). c.held) q ∙ by_some p (move p l a t) (l t) x g) y

  pub ways_moved : Ways p l → Ways p M
  ways_moved w t v =
      elim (look (is_awake (l t).mode)) [
        | inr z ↦ subst (Way p t (is_open p M (M t).state)) (sym (moving.moved_new laws01 p l a ok n t z v)) (way_fresh p t (is_open p M (M t).state))
        | inl z ↦
            elim (look_option (move p l a t)) [
              | inr g ↦ way_moved t g.0 g.1 (w t z)
              | inl g ↦
                  let q = moved_still p l a ok n t z g in
                  subst (λ (c : Configuration). Way p t (is_open p M c.state) c) (sym q)
                  (way_shut p t (is_open p l (l t).state) (is_open p M (l t).state) (l t) (not_opened t z g) (w t z))
            ]
      ]

-- Its closings.
module _ (p : Plan) (l : Ledger) where
  abbrev C : Ledger
  C = closed p l

  none_opened : (s : ℕ) → is_open p C s ≡ true → is_open p l s ≡ true
  none_opened s o = let (u, b, e, a) = open_find p C s o in open_at p l s u b e (closed_awake p l u a).1

  -- a scope that closes is not open afterwards
  shut : (s : ℕ) → is_closing p l s ≡ true → is_open p C s ≡ false
  shut s c =
      refuted (is_open p C s)
      (λ o. let (u, b, e, a) = open_find p C s o in clash (closed_host p l u s e ∙ c) (closed_awake p l u a).0)

  hosting : (s : ℕ) → is_open p l s ≡ true → is_hosting p s ≡ true
  unfolding is_hosting
  hosting s o = let (u, b, e, a) = open_find p l s o in some_at (track_count p) (is_in p s) u b (host_in p s u e)

  pub ways_closed : Ways p l → Ways p C
  ways_closed w t v =
      let (c, a) = closed_awake p l t v in
      elim (look (closes_scope p l t)) [
        | inl d ↦
            let k = (closes_known p l t d).1 in
            let o = closing_open p l (l t).state k in
            let q = closed_replaced p l t c d in
            let st : (C t).state ≡ (l t).state =
            ap (λ (x : Configuration). x.state) q ∙ installed_state (replacement p (l t).state) no_state (l t) in
            subst (λ b. Way p t b (C t)) (sym (ap (is_open p C) st ∙ shut (l t).state k))
            (way_replaced p t (l t) (C t) (hosting (l t).state o) st
            (ap (λ (x : Configuration). x.held) q ∙ installed_held (replacement p (l t).state) no_state (l t))
            (subst (λ b. Way p t b (l t)) o (w t a)))
        | inr d ↦
            let q = closed_kept p l t c d in
            subst (λ (x : Configuration). Way p t (is_open p C x.state) x) (sym q)
            (way_shut p t (is_open p l (l t).state) (is_open p C (l t).state) (l t) (none_opened (l t).state) (w t a))
      ]

module _ (terms : Terms) (p : Plan) (ok : Accepted p) (quiet : has_deviation p ≡ false) where
  -- a begin starts every way
  pub ways_begun : Ways p (begun p)
  ways_begun t a =
      subst (Way p t (is_open p (begun p) (begun p t).state)) (sym (begun_fresh terms p ok t a)) (way_fresh p t (is_open p (begun p) (begun p t).state))

  ways_worked : (d : Day) (l : Ledger) → Sound terms p l → Ways p l → (c : Call) → call_refusal terms p d l c ≡ 0 → Ways p (work p l c)
  ways_worked d l s w (event a) z = ways_closed p (moved p l a) (ways_moved p ok quiet l s.formed.nested a w)
  ways_worked d l s w (signal a) z = ways_signalled p ok l a w
  ways_worked d l s w (fire a) z = ways_fired p ok l a.track (fire_accepted terms p d l a z).1 w

  -- and any call, refused or not, keeps them
  pub ways_next : (d : Day) (l : Ledger) → Kept terms p l → Ways p l → (c : Call) → Ways p (next terms p d l c)
  ways_next d l k w c =
      elim (look (eqb (call_refusal terms p d l c) 0)) [
        | inr z ↦ subst (Ways p) (sym (next_refused terms p d l c (eqb-false (call_refusal terms p d l c) 0 z))) w
        | inl z ↦
            let y = eqb-true (call_refusal terms p d l c) 0 z in
            let s = kept_sound terms p l k (refuted (is_over p l) (λ o. over_refused terms p d l o c y)) in
            elim (next_cases terms p ok d l c y) [
              | inl q ↦ subst (Ways p) (sym q) (ways_worked d l s w c y)
              | inr o ↦ λ t a. clash a (ap (λ (x : Configuration). is_awake x.mode) (o t) ∙ sleeping_asleep)
            ]
      ]
