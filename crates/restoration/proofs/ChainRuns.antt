-- Finished runs are those at the caller's own limit: on plan N nine moves are a finished run at 32, and at 8 there is none, since the ninth is
-- refused as 21. Assumes nothing.
use mathlib.Core.Path.{◌≡◌, refl, sym, ap, ◌∙◌, subst}
use mathlib.Core.Logic.{inl, inr}
use mathlib.Core.Bool.{Bool, true, false, not, ◌&&◌}
use mathlib.Core.List.{List, [], ◌∷◌}
use mathlib.Core.Option.{some}
use Prim.Native.Nat.{ℕ, zero, suc, ◌+◌, ◌<◌, ◌≤◌}
use native.Mathlib.Omega.{arith}
use lib.IntN.{pos}
use lib.ListN.{length}
use lib.Dec.{eqb}
use borrow.Author.Tests.{eqb-true, eqb-false, not-true}
use Rattle.rules.specs.Names.{Day}
use Rattle.rules.specs.declared.Terms.{Terms}
use Rattle.rules.specs.Setting.{main_terms, reading_room_terms}
use Rattle.rules.specs.Plan.{transition_count, transition, host, mover, first_state, is_final}
use Rattle.rules.specs.Acceptance.{accepted, read_plan}
use Rattle.rules.specs.Ledger.{Entry, Configuration, Ledger, is_awake, is_forward, is_undoing}
use Rattle.rules.specs.Scope.{is_over}
use Rattle.rules.specs.Opening.{fresh, begun}
use Rattle.rules.specs.Event.{EventArguments, install, move, moved, is_closed, closes_scope}
use Rattle.rules.specs.Event as rule-event
use Rattle.rules.specs.Signal.{turned, abandoned}
use Rattle.rules.specs.Fire.{may_fire, fired}
use Rattle.rules.specs.Call.{Answer, refusal, done, SignalArguments, Call, event, signal, fire, call_refusal, next}
use Rattle.rules.specs.FinishedRun.{Reached, start, then, Finished, by_call, over_event, closed}
use Rattle.rules.specs.ReferenceRun.{answers_after}
use Rattle.rules.proofs.Tests.{look, look_option, clash, none-some, refuted, and_holds}
use Rattle.rules.proofs.Folds.{every_at}
use Rattle.rules.proofs.Modes.{forward_awake, undoing_forward}
use Rattle.rules.proofs.Acceptance.{Accepted, accepts}
use Rattle.rules.proofs.Scopes.{open_find}
use Rattle.rules.proofs.Opening.{enter_to}
use Rattle.rules.proofs.Closing.{closing_final, closed_kept, closed_alike}
use Rattle.rules.proofs.Abandoning.{awake_kept, undoing_awake}
use Rattle.rules.proofs.Ready.{may_fire_lem}
use Rattle.starred.specs.SamplePlan.{lent_for}
use Rattle.starred.specs.Computing.{computing}
use Rattle.theory.proofs.MovingNested.{moved_new}
use Rattle.theory.proofs.FiringNested.{removed_mode, removed_other, deviates_hosted, fired_still, fired_new}
use Rattle.theory.proofs.ClosingNested.{closing_open, closes_known}
use Rattle.theory.proofs.SoundEvent.{moved_formed}
use Rattle.theory.proofs.SoundKept.{kept_sound}
use Rattle.restoration.specs.SampleChain.{plan_n, counts_n, N, nine}
use Rattle.restoration.proofs.Document01.{laws01, move_takes}
use Rattle.restoration.proofs.Theorems01.{Sound, Kept, sleeping_asleep, to_destination, by_some, recorded, goes, moved_is, moved_still, closed_awake, signal_forward, event_accepted, fire_accepted, work, next_cases, next_refused, over_refused, reached_kept, running_reached}

pub reads-N : read_plan plan_n ≡ accepted counts_n
unfolding computing plan_n
reads-N = refl

ok-N : Accepted N
ok-N = accepts plan_n counts_n reads-N

-- What N holds.
pub hosts-N : (t s : ℕ) → host N t ≡ some s → s ≡ 1
unfolding computing plan_n
hosts-N zero s e = none-some refl e
hosts-N (suc zero) s e = sym (cc)
hosts-N (suc (suc t)) s e = none-some refl e

hosted : host N 1 ≡ some 1
unfolding computing plan_n
hosted = refl

-- the moves of the hosted track: each leads to the next state, with code 51
pub record Onward (x : ℕ) : Type 0 where
  pub source : (transition N x).source ≡ suc x
  pub destination : (transition N x).destination ≡ suc (suc x)
  pub code : (transition N x).code ≡ 51
  pub mover : mover N x ≡ 1

is_onward : ℕ → Bool
is_onward x =
    eqb (transition N x).source (suc x) && eqb (transition N x).destination (suc (suc x)) && eqb (transition N x).code 51 && eqb (mover N x) 1

onward : (n : ℕ) → n < 9 → Onward (suc (suc n))
unfolding computing plan_n is_onward
onward n l =
    let x = suc (suc n) in
    let (u, m) = and_holds _ (eqb (mover N x) 1) (every_at 9 (λ n. is_onward (suc (suc n))) refl n l) in
    let (v, c) = and_holds _ (eqb (transition N x).code 51) u in
    let (s, d) = and_holds (eqb (transition N x).source (suc x)) (eqb (transition N x).destination (suc (suc x))) v in
    record { source = eqb-true _ _ s; destination = eqb-true _ _ d; code = eqb-true _ _ c; mover = eqb-true _ _ m }

-- the root's two transitions, and the moves of the hosted track
pub moves : (C : ℕ → Type 0) → C 0 → C 1 → ((n : ℕ) → Onward (suc (suc n)) → C (suc (suc n))) → (x : ℕ) → x < transition_count N → C x
unfolding computing plan_n
moves C a b f zero l = a
moves C a b f (suc zero) l = b
moves C a b f (suc (suc n)) l = f n (onward n (omega arith))

starts : first_state N 1 ≡ 3
unfolding computing plan_n
starts = refl

unended : (n : ℕ) → n ≤ 8 → is_final N (3 + n) ≡ false
unfolding computing plan_n
unended n l = not-true (is_final N (3 + n)) (every_at 9 (λ n. not (is_final N (3 + n))) refl n (omega arith))

-- Where the hosted track is forward, it stands as many states from its first as it holds entries.
abbrev Stands : Configuration → Type 0
Stands c = is_forward c.mode ≡ true → c.state ≡ 3 + length c.held

fresh_stands : Stands (fresh N 1)
unfolding fresh
fresh_stands f = starts

-- a transition of its state leads it one on, and gives it one entry
along : (n : ℕ) (x : ℕ) → x < transition_count N → (transition N x).source ≡ 3 + n → Onward x
unfolding computing plan_n
along n =
    moves (λ x. (transition N x).source ≡ 3 + n → Onward x) (λ e. absurd (omega arith)) (λ e. absurd (omega arith)) (λ m o e. o)

length-install_lem : (c d : ℕ) (es : List Entry) → c ≡ 51 → length (install c d es) ≡ suc (length es)
unfolding install
length-install_lem c d es h = rw (h, install)

module _ (terms : Terms) (l : Ledger) (s : Sound terms N l) (k : Stands (l 1)) where
  -- the moves of an event
  moved_stands : (a : EventArguments) → Stands (moved N l a 1)
  moved_stands a f =
      let M = moved N l a in
      let n = s.formed.nested in
      elim (look (is_awake (l 1).mode)) [
        | inr z ↦ subst Stands (sym (moved_new laws01 N l a ok-N n 1 z (forward_awake (M 1).mode f))) fresh_stands f
        | inl z ↦
            elim (look_option (move N l a 1)) [
              | inl g ↦ subst Stands (sym (moved_still N l a ok-N n 1 z g)) k f
              | inr g ↦
                  let (x, h) = g in
                  let m = move_takes N l a 1 x h in
                  let at = k m.forward in
                  let o = along (length (l 1).held) x m.real (m.from ∙ at) in
                  let q =
                  ap (λ (m : Ledger). m 1) (moved_is N l a)
                  ∙ enter_to N ok-N (goes N l a) (recorded N l a) 1 (transition N x).destination (to_destination N (move N l a 1) x h) in
                  let to : (M 1).state ≡ suc (suc x) = ap (λ (c : Configuration). c.state) q ∙ o.destination in
                  let from : suc x ≡ 3 + length (l 1).held = sym o.source ∙ m.from ∙ at in
                  let held : length (M 1).held ≡ suc (length (l 1).held) =
                  ap (λ (c : Configuration). length c.held) q
                  ∙ ap length (by_some N (move N l a 1) (l 1) x h)
                  ∙ length-install_lem (transition N x).code (transition N x).deviation (l 1).held o.code in
                  omega (arith, to, from, held)
            ]
      ]

  -- its closings: the hosted track hosts none itself
  closed_stands : (a : EventArguments) → Stands (rule-event.closed N (moved N l a) 1)
  closed_stands a f =
      let M = moved N l a in
      let (c, w) = closed_awake N M 1 (forward_awake (rule-event.closed N M 1).mode f) in
      elim (look (closes_scope N M 1)) [
        | inr d ↦ subst Stands (sym (closed_kept N M 1 c d)) (moved_stands a) f
        | inl d ↦ absurd (hostless M c d f (moved_stands a))
      ]
    where
      hostless : (M : Ledger) → is_closed N M 1 ≡ false → closes_scope N M 1 ≡ true → is_forward (rule-event.closed N M 1).mode ≡ true → Stands (M 1) → ⊥
      hostless M c d f h =
          let (u, b, e, w) = open_find N M (M 1).state (closing_open N M (M 1).state (closes_known N M 1 d).1) in
          let one = hosts-N u (M 1).state e in
          let at = h (ap is_forward (sym (closed_alike N M 1 c).0) ∙ f) in
          omega (arith, one, at)

  -- a signal leaves what is forward after it, and a firing what was awake, or it wakes it
  signal_stands : (a : SignalArguments) → Stands (abandoned N (turned N a.society l) 1)
  signal_stands a f = subst Stands (sym (signal_forward N ok-N a l 1 f).1) k f

  fire_stands : (t : ℕ) → may_fire N l t ≡ true → Stands (abandoned N (fired N l t) 1)
  fire_stands t may f =
      let q = (awake_kept N ok-N (fired N l t) 1 (forward_awake (abandoned N (fired N l t) 1).mode f)).1 in
      let (b, u, i, free) = may_fire_lem N l t may in
      let w = undoing_awake (l t).mode u in
      let n = s.formed.nested in
      let g = s.formed.good t in
      let f' : is_forward (fired N l t 1).mode ≡ true = ap (λ (c : Configuration). is_forward c.mode) (sym q) ∙ f in
      elim (look (is_awake (l 1).mode)) [
        | inr z ↦ subst Stands (sym (q ∙ fired_new N l t ok-N n g free w 1 z (forward_awake (fired N l t 1).mode f'))) fresh_stands f
        | inl z ↦
            let r = fired_still N l t ok-N n g free w 1 z (deviates_hosted N l t ok-N n g free w 1 1 hosted) in
            let was : is_forward (l 1).mode ≡ true =
            ap is_forward (sym (ap (λ (c : Configuration). c.mode) r ∙ removed_mode N l t 1)) ∙ f' in
            elim (look (eqb 1 t)) [
              | inl y ↦ clash was (undoing_forward (l 1).mode (subst (λ t. is_undoing (l t).mode ≡ true) (sym (eqb-true 1 t y)) u))
              | inr y ↦ subst Stands (sym (q ∙ r ∙ removed_other N l t 1 y)) k f
            ]
      ]

  work_stands : (d : Day) (c : Call) → call_refusal terms N d l c ≡ 0 → Stands (work N l c 1)
  work_stands d (event a) z = closed_stands a
  work_stands d (signal a) z = signal_stands a
  work_stands d (fire a) z = fire_stands a.track (fire_accepted terms N d l a z).1

-- So it is along every list of calls.
module _ (terms : Terms) where
  next_stands : (d : Day) (l : Ledger) → Kept terms N l → Stands (l 1) → (c : Call) → Stands (next terms N d l c 1)
  next_stands d l k h c =
      elim (look (eqb (call_refusal terms N d l c) 0)) [
        | inr z ↦ subst (λ m. Stands (m 1)) (sym (next_refused terms N d l c (eqb-false (call_refusal terms N d l c) 0 z))) h
        | inl z ↦
            let y = eqb-true (call_refusal terms N d l c) 0 z in
            let s = kept_sound terms N l k (refuted (is_over N l) (λ o. over_refused terms N d l o c y)) in
            elim (next_cases terms N ok-N d l c y) [
              | inl q ↦ subst (λ m. Stands (m 1)) (sym q) (work_stands terms l s h d c y)
              | inr o ↦
                  λ f.
                  clash (forward_awake (next terms N d l c 1).mode f)
                  (ap (λ (x : Configuration). is_awake x.mode) (o 1) ∙ sleeping_asleep)
            ]
      ]

  begun_stands : Stands (begun N 1)
  unfolding computing plan_n
  begun_stands f = clash f refl

  stands : {d : Day} {l : Ledger} → Reached N terms d l → Stands (l 1)
  stands start = begun_stands
  stands (then {d = d} {l = l} r c) = next_stands d l (reached_kept terms N ok-N r) (stands r) c

eight : reading_room_terms.limit ≡ 8
unfolding computing
eight = refl

-- At 8 no run of the scope is finished: the track would be forward in state 12 with nine entries.
pub none_finished : (w : List ℕ) → Finished N reading_room_terms 1 w → ⊥
none_finished _ (closed {d = d} {l = l} r a z c) =
    let reached = running_reached reading_room_terms N ok-N r in
    let s = kept_sound reading_room_terms N l (reached_kept reading_room_terms N ok-N reached) (event_accepted reading_room_terms N d l a z).0 in
    let M = moved N l a in
    let (f, final) = closing_final N M 1 1 c (ok-N.hosted 1 1 hosted) hosted in
    let at = moved_stands reading_room_terms l s (stands reading_room_terms reached) a f in
    let few = (moved_formed laws01 reading_room_terms N ok-N l s.formed a (laws01.event_accepted reading_room_terms N d l a z).1).few 1 in
    clash (subst (λ q. is_final N q ≡ true) at final) (unended (length (M 1).held) (omega (arith, few, eight)))

-- At 32 the nine moves finish it.
abbrev pub e : ℕ → EventArguments
e n = record { event = n; day = pos 0; society = 1 }

pub nine_finish : Finished N main_terms 1 nine
unfolding computing plan_n
nine_finish =
    closed
    (over_event
    (over_event
    (over_event
    (over_event
    (over_event
    (over_event (over_event (over_event (by_call start (event (e 10)) refl refl) (e 11) refl refl) (e 11) refl refl) (e 11) refl refl) (e 11) refl refl)
    (e 11) refl refl)
    (e 11) refl refl)
    (e 11) refl refl)
    (e 11) refl refl)
    (e 11) refl refl

-- and at 8 the ninth is refused
abbrev pub forth : List Call
forth =
    event (e 10)
    ∷ event (e 11) ∷ event (e 11) ∷ event (e 11) ∷ event (e 11) ∷ event (e 11) ∷ event (e 11) ∷ event (e 11) ∷ event (e 11) ∷ event (e 11) ∷ []

abbrev moved_one : Answer
moved_one = done (1 ∷ 0 ∷ [])

pub ninth_refused : answers_after reading_room_terms plan_n (lent_for 2) forth
    ≡ moved_one ∷ moved_one ∷ moved_one ∷ moved_one ∷ moved_one ∷ moved_one ∷ moved_one ∷ moved_one ∷ moved_one ∷ refusal 21 ∷ []
unfolding computing plan_n
ninth_refused = refl
