-- The theory's theorems for document 01, about the rules' own functions: what is taken, recorded, closed, turned and kept there. Each is the
-- theorem of that name at the instance. Assumes nothing.
use mathlib.Core.Path.{◌≡◌, refl, sym, ap, ◌∙◌, subst, fun_ext}
use mathlib.Core.Logic.{◌⊎◌, inl, inr}
use mathlib.Core.Bool.{true, false, ◌&&◌}
use mathlib.Core.List.{List, [], ◌∷◌, ◌++◌}
use mathlib.Core.Option.{Option, none, some}
use Prim.Native.Nat.{ℕ, ◌<◌}
use lib.IntN.{pos}
use Rattle.rules.specs.Names.{Day}
use Rattle.rules.specs.declared.Terms.{Terms}
use Rattle.rules.specs.Plan.{Plan, track_count, transition_count, transition, host, mover, is_state_of, is_final, is_inside}
use Rattle.rules.specs.Rights.{signal_right, is_permitted}
use Rattle.rules.specs.Ledger.{Configuration, Ledger, is_awake, is_forward, is_undoing, is_empty}
use Rattle.rules.specs.Scope.{has_open_scope, is_over}
use Rattle.rules.specs.Opening.{enter}
use Rattle.rules.specs.Event.{EventArguments, install, installed, destination_of, installed_by, move, moved, is_closing, is_closed, closed}
use Rattle.rules.specs.Finish.{is_finishing}
use Rattle.rules.specs.Signal.{turned_track, turned, is_abandoning, abandoned}
use Rattle.rules.specs.Fire.{may_fire, fired}
use Rattle.rules.specs.Call.{SignalArguments, Call, event, signal, fire, call_refusal, next}
use Rattle.rules.specs.Books.{act}
use Rattle.rules.specs.FinishedRun.{Reached, start, then, Running, by_begin, by_call, over_event, over_signal, over_fire, Finished}
use Rattle.rules.proofs.Tests.{look, clash, refuted}
use Rattle.rules.proofs.Modes.{forward_awake}
use Rattle.rules.proofs.Acceptance.{Accepted}
use Rattle.rules.proofs.Closing.{closed_done}
use Rattle.rules.proofs.Abandoning.{awake_kept, abandoned_done, abandoned_steady}
use Rattle.rules.proofs.Finishing.{none_ended}
use Rattle.rules.proofs.Ready as fireable
use Rattle.theory.specs.Seams as seam
use Rattle.theory.proofs.Nesting.{Awake, Nested}
use Rattle.theory.proofs.EnteringNested.{Enterable}
use Rattle.theory.proofs.SoundParts as theory
use Rattle.theory.proofs.SoundParts.{Formed, RootsAwake}
use Rattle.theory.proofs.Settling as settling
use Rattle.theory.proofs.Turning as turning
use Rattle.theory.proofs.MovingNested as moving
use Rattle.theory.proofs.ClosingNested as closing
use Rattle.theory.proofs.SignalNested as leaving
use Rattle.theory.proofs.Forming.{abandoned_formed}
use Rattle.theory.proofs.SoundEvent as sound-event
use Rattle.theory.proofs.SoundRetraction as sound-retraction
use Rattle.theory.proofs.SoundKept as kept
use Rattle.theory.proofs.Histories as histories
use Rattle.theory.proofs.Effects as effects
use Rattle.theory.proofs.Effects.{Effect}
use Rattle.restoration.proofs.Runs01.{same_act, from_reached, from_finished}
use Rattle.restoration.proofs.Document01.{document01, as_theory, there_and_back, same_by, turned_is, laws01, unfinished01}
pub use Rattle.theory.proofs.SoundParts.{Over, sleeping_asleep, sleeping_held}
pub use Rattle.theory.proofs.MovingNested.{to_none, to_destination, to_some, has_code_lem}
pub use Rattle.theory.proofs.SoundKept.{over_is}
pub use Rattle.restoration.proofs.Document01.{move_takes, move_for, move_day, move_permitted, next_accepted, next_refused, day_accepted, day_refused, event_accepted, event_day, signal_accepted, fire_accepted}

-- sound, and sound or over
abbrev pub Sound : Terms → Plan → Ledger → Type 0
Sound = theory.Sound document01

abbrev pub Kept : Terms → Plan → Ledger → Type 0
Kept = kept.Kept document01

-- what sleeps holds nothing
pub asleep_nothing : (terms : Terms) (p : Plan) (l : Ledger) → Kept terms p l → (t : ℕ) → is_awake (l t).mode ≡ false → (l t).held ≡ []
asleep_nothing terms p l (inl o) t a = ap (λ c. c.held) (o t) ∙ sleeping_held
asleep_nothing terms p l (inr s) t a = ap (λ c. c.held) (s.formed.nested.blank t a) ∙ sleeping_held

-- Changes one after the other.
pub act_append : {B : Type 0} (f : ℕ → B → B) (w v : List ℕ) (b : B) → act f (w ++ v) b ≡ act f v (act f w b)
unfolding act
act_append f [] v b = refl
act_append f (x ∷ w) v b = act_append f w v (f x b)

-- Installing.
pub installed_mode : (c d : ℕ) (k : Configuration) → (installed c d k).mode ≡ k.mode
unfolding installed
installed_mode c d k = refl

pub installed_state : (c d : ℕ) (k : Configuration) → (installed c d k).state ≡ k.state
unfolding installed
installed_state c d k = refl

pub installed_held : (c d : ℕ) (k : Configuration) → (installed c d k).held ≡ install c d k.held
unfolding installed
installed_held c d k = refl

module _ (p : Plan) where
  pub by_none : (o : Option ℕ) (k : Configuration) → o ≡ none → installed_by p o k ≡ k
  unfolding installed_by
  by_none o k h = rw (h, installed_by)

  pub by_some : (o : Option ℕ) (k : Configuration) (x : ℕ) → o ≡ some x
      → (installed_by p o k).held ≡ install (transition p x).code (transition p x).deviation k.held
  unfolding installed_by installed
  by_some o k x h = rw (h, installed_by)

-- Moves.
module _ (p : Plan) (l : Ledger) (a : EventArguments) where
  abbrev pub recorded : Ledger
  recorded t = installed_by p (move p l a t) (l t)

  abbrev pub goes : ℕ → Option ℕ
  goes t = destination_of p (move p l a t)

  same_recorded : recorded ≡ seam.recorded document01 p l a
  same_recorded = fun_ext (λ t. same_by a p (move p l a t) (l t))

  pub moved_is : moved p l a ≡ enter p goes recorded
  moved_is = moving.moved_is laws01 p l a ∙ ap (enter p goes) (sym same_recorded)

  pub recorded_awake : (t : ℕ) → is_awake (recorded t).mode ≡ is_awake (l t).mode
  recorded_awake t = ap (λ (m : Ledger). is_awake (m t).mode) same_recorded ∙ moving.recorded_awake laws01 p l a t

  pub mover_awake : (t x : ℕ) → move p l a t ≡ some x → Awake l t
  mover_awake = moving.mover_awake laws01 p l a

  module _ (ok : Accepted p) (n : Nested p l) where
    pub mover_is : (t x : ℕ) → move p l a t ≡ some x → mover p x ≡ t
    mover_is = moving.mover_is laws01 p l a ok n

    pub recorded_nested : Nested p recorded
    recorded_nested = subst (Nested p) (sym same_recorded) (moving.recorded_nested laws01 p l a ok n)

    pub goes_free : Enterable p recorded goes
    goes_free = subst (λ m. Enterable p m goes) (sym same_recorded) (moving.goes_free laws01 p l a ok n)

    pub moved_nested : Nested p (moved p l a)
    moved_nested = moving.moved_nested laws01 p l a ok n

    pub moved_still : (t : ℕ) → Awake l t → move p l a t ≡ none → moved p l a t ≡ l t
    moved_still = moving.moved_still laws01 p l a ok n

    pub moved_busy : (t : ℕ) → Awake l t → has_open_scope p l t ≡ true → moved p l a t ≡ l t
    moved_busy = moving.moved_busy laws01 p l a ok n

-- Closing: the event does not matter.
module _ (p : Plan) (l : Ledger) where
  abbrev any : EventArguments
  any = record { event = 0; day = pos 0; society = 0 }

  pub closed_awake : (t : ℕ) → Awake (closed p l) t → (is_closed p l t ≡ false) × Awake l t
  closed_awake = closing.closed_awake laws01 p l any

module _ (p : Plan) (ok : Accepted p) (l : Ledger) (n : Nested p l) where
  pub closed_nested : Nested p (closed p l)
  closed_nested = closing.closed_nested laws01 p ok l n (any p l)

-- A signal turns the forward tracks for which its society has the right.
module _ (p : Plan) (ok : Accepted p) (a : SignalArguments) (l : Ledger) where
  abbrev T : Ledger
  T = turned p a.society l

  same_turned : turned p a.society l ≡ seam.turned document01 p l a
  same_turned = turned_is p l a

  pub turned_awake : (t : ℕ) → is_awake (turned p a.society l t).mode ≡ is_awake (l t).mode
  turned_awake t = ap (λ (m : Ledger). is_awake (m t).mode) same_turned ∙ turning.turned_awake laws01 p l a t

  pub turned_state : (t : ℕ) → (turned p a.society l t).state ≡ (l t).state
  turned_state t = ap (λ (m : Ledger). (m t).state) same_turned ∙ turning.turned_state laws01 p l a t

  pub turned_held : (t : ℕ) → (turned p a.society l t).held ≡ (l t).held
  turned_held t = ap (λ (m : Ledger). (m t).held) same_turned ∙ turning.turned_held laws01 p l a t

  pub turned_forward : (t : ℕ) → is_permitted p signal_right a.society t ≡ true → is_forward (turned p a.society l t).mode ≡ false
  turned_forward t h = ap (λ (m : Ledger). is_forward (m t).mode) same_turned ∙ turning.turned_forward laws01 p l a t h

  -- the others stay
  pub turned_kept : (t : ℕ) → is_permitted p signal_right a.society t ≡ false → turned p a.society l t ≡ l t
  unfolding turned
  turned_kept t h = rw h

  -- and where it may turn no forward track, all do
  pub turned_same : ((t : ℕ) → is_permitted p signal_right a.society t ≡ true → is_forward (l t).mode ≡ false) → turned p a.society l ≡ l
  unfolding turned turned_track
  turned_same n =
      fun_ext (λ t. elim (look (is_permitted p signal_right a.society t)) [ inr y ↦ rw y | inl y ↦ rw (y, n t y) ])

  -- so what is forward after a signal is not the society's to turn, and is as it was
  pub signal_forward : (t : ℕ) → is_forward (abandoned p T t).mode ≡ true → (is_permitted p signal_right a.society t ≡ false) × (abandoned p T t ≡ l t)
  signal_forward t f =
      let q = (awake_kept p ok T t (forward_awake (abandoned p T t).mode f)).1 in
      let k = refuted (is_permitted p signal_right a.society t) (λ h. clash (ap (λ (c : Configuration). is_forward c.mode) (sym q) ∙ f) (turned_forward t h)) in
      (k, q ∙ turned_kept t k)

  -- one that turns every root does not finish: no root has ended after it
  pub signal_unended : ((t : ℕ) → t < track_count p → host p t ≡ none → is_permitted p signal_right a.society t ≡ true) → is_finishing p (abandoned p T) ≡ false
  signal_unended all =
      none_ended p (abandoned p T)
      (λ t b e.
      ap (λ x. x && is_final p (abandoned p T t).state)
      (refuted (is_forward (abandoned p T t).mode) (λ f. clash (all t b e) (signal_forward t f).0)))

module _ (p : Plan) (ok : Accepted p) (l : Ledger) (n : Nested p l) where
  pub turned_nested : (a : SignalArguments) → Nested p (turned p a.society l)
  turned_nested a = subst (Nested p) (sym (same_turned p ok a l)) (leaving.turned_nested laws01 p ok l n a)

-- Calls: who may be fired, what is over, what an accepted call does.
pub may_fire_lem : (terms : Terms) (p : Plan) (l : Ledger) (t : ℕ) → may_fire p l t ≡ true
    → (t < track_count p) × (is_undoing (l t).mode ≡ true) × (is_empty (l t).held ≡ false) × (has_open_scope p l t ≡ false)
may_fire_lem terms p l t h = fireable.may_fire_lem p l t h

pub over_refused : (terms : Terms) (p : Plan) (d : Day) (l : Ledger) → is_over p l ≡ true → (c : Call) → call_refusal terms p d l c ≡ 0 → ⊥
over_refused terms p d l o c =
    subst (λ e. call_refusal terms p d l e ≡ 0 → ⊥) (there_and_back c) (settling.over_refused laws01 terms p d l o (as_theory c))

module _ (terms : Terms) (p : Plan) (ok : Accepted p) (l : Ledger) (f : Formed terms p l) (a : EventArguments) where
  pub event_roots : RootsAwake p l → RootsAwake p (closed p (moved p l a))
  event_roots = sound-event.event_roots laws01 terms p ok l f a

  pub event_abandoning : ((s : ℕ) → is_abandoning p l s ≡ false) → (s : ℕ) → is_abandoning p (closed p (moved p l a)) s ≡ false
  event_abandoning = sound-event.event_abandoning laws01 terms p ok l f a

-- what a call does, finish apart
abbrev pub work : Plan → Ledger → Call → Ledger
work p l (event a) = closed p (moved p l a)
work p l (signal a) = abandoned p (turned p a.society l)
work p l (fire a) = abandoned p (fired p l a.track)

-- a ledger with nothing left to settle but finish
pub record Worked (p : Plan) (l : Ledger) : Type 0 where
  pub nested : Nested p l
  pub roots : RootsAwake p l
  pub closing : (s : ℕ) → is_closing p l s ≡ false
  pub abandoning : (s : ℕ) → is_abandoning p l s ≡ false

module _ (terms : Terms) (p : Plan) (ok : Accepted p) (l : Ledger) (s : Sound terms p l) where
  -- nothing is left to abandon
  pub steady : abandoned p l ≡ l
  steady = abandoned_steady p ok l (λ z t u e g a. s.formed.nested.whole u t z g e ∙ a) s.abandoning

  pub signal_sound : (a : SignalArguments) → is_finishing p (abandoned p (turned p a.society l)) ≡ false
      → Sound terms p (abandoned p (turned p a.society l))
  signal_sound a =
      subst (λ m. is_finishing p (abandoned p m) ≡ false → Sound terms p (abandoned p m)) (sym (same_turned p ok a l))
      (sound-retraction.signal_sound laws01 terms p ok l s a)

  pub fired_formed : (t : ℕ) → may_fire p l t ≡ true → Formed terms p (fired p l t)
  fired_formed = sound-retraction.fired_formed laws01 terms p ok l s

  pub fire_sound : (t : ℕ) → may_fire p l t ≡ true → is_finishing p (abandoned p (fired p l t)) ≡ false → Sound terms p (abandoned p (fired p l t))
  fire_sound = sound-retraction.fire_sound laws01 terms p ok l s

  -- what an accepted call leaves has nothing left to settle but finish
  pub worked : (d : Day) (c : Call) → call_refusal terms p d l c ≡ 0 → Worked p (work p l c)
  worked d (event a) h =
      let m = moved p l a in
      record {
        nested = closed_nested p ok m (moved_nested p l a ok s.formed.nested);
        roots = event_roots terms p ok l s.formed a s.roots;
        closing = closed_done p m;
        abandoning = event_abandoning terms p ok l s.formed a s.abandoning;
      }
  worked d (signal a) h =
      subst (λ m. Worked p (abandoned p m)) (sym (same_turned p ok a l))
      (record {
        nested = (abandoned_formed terms p ok _ (sound-retraction.signal_formed laws01 terms p ok l s a)).nested;
        roots = sound-retraction.signal_roots laws01 terms p ok l s a;
        closing = sound-retraction.signal_closing laws01 terms p ok l s a;
        abandoning = abandoned_done p ok _;
      })
  worked d (fire a) h =
      let t = a.track in
      let may = (fire_accepted terms p d l a h).1 in
      let X = fired p l t in
      record {
        nested = (abandoned_formed terms p ok X (fired_formed t may)).nested;
        roots = λ u b e.
            ap (λ (c : Configuration). is_awake c.mode) (sound-retraction.fired_root laws01 terms p ok l s t may u e)
            ∙ sound-retraction.fired_roots laws01 terms p ok l s t may u (s.roots u b e);
        closing = sound-retraction.fire_closing laws01 terms p ok l s t may;
        abandoning = abandoned_done p ok X;
      }

-- an accepted call leaves its work, or all asleep
pub next_cases : (terms : Terms) (p : Plan) (ok : Accepted p) (d : Day) (l : Ledger) (c : Call) → call_refusal terms p d l c ≡ 0
    → (next terms p d l c ≡ work p l c) ⊎ Over (next terms p d l c)
next_cases terms p ok d l (event a) h = settling.next_cases laws01 terms p d l (seam.event a) h
next_cases terms p ok d l (signal a) h =
    subst (λ m. (next terms p d l (signal a) ≡ abandoned p m) ⊎ Over (next terms p d l (signal a))) (sym (same_turned p ok a l))
    (settling.next_cases laws01 terms p d l (seam.signal a) h)
next_cases terms p ok d l (fire a) h = settling.next_cases laws01 terms p d l (seam.fire a) h

-- Runs: what lists of calls reach is sound or over, and a run stands on what one reaches.
module _ (terms : Terms) (p : Plan) (ok : Accepted p) where
  pub reached_kept : {d : Day} {l : Ledger} → Reached p terms d l → Kept terms p l
  reached_kept r = histories.reached_kept laws01 unfinished01 terms p ok (from_reached p terms r)

  pub running_reached : {s : ℕ} {d : Day} {l : Ledger} {w : List ℕ} → Running p terms s d l w → Reached p terms d l
  running_reached (by_begin o) = start
  running_reached (by_call r c f o) = then r c
  running_reached (over_event r a z o) = then (running_reached r) (event a)
  running_reached (over_signal r a z f o) = then (running_reached r) (signal a)
  running_reached (over_fire r a z o) = then (running_reached r) (fire a)

-- What the moves of one track in a finished run do, and that the run does nothing where none inside the scope does.
module _ (terms : Terms) (p : Plan) (ok : Accepted p) (s : ℕ) {B : Type 0} (v : ℕ → B → B) where
  pub finished_still : ((a : EventArguments) (x : ℕ) → x < transition_count p → is_inside p s (mover p x) ≡ true → (b : B) → v x b ≡ b)
      → {w : List ℕ} → Finished p terms s w → (b : B) → act v w b ≡ b
  finished_still h {w} f b = same_act v w b ∙ effects.finished_still laws01 unfinished01 terms p ok s v h (from_finished p terms f).1 b

module _ (terms : Terms) (p : Plan) (ok : Accepted p) (s t : ℕ) (e : host p t ≡ some s) {B : Type 0} (v φ : ℕ → B → B) where
  pub finished_effect : Effect document01 p t v φ → {w : List ℕ} → Finished p terms s w
      → (q : ℕ) × (is_state_of p t q ≡ true) × (is_final p q ≡ true) × ((b : B) → act v w b ≡ φ q b)
  finished_effect c {w} f =
      let (q, o, z, g) = effects.finished_effect laws01 unfinished01 terms p ok s t e v φ c (from_finished p terms f).1 in
      (q, o, z, λ b. same_act v w b ∙ g b)
