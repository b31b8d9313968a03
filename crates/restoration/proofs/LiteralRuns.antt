-- "no signal turning any of them meanwhile", literally: a forward scope's run went over no signal of a society that may turn its tracks. Such a
-- signal turns a forward scope, and nothing but a root ever goes forward again, so a scope that is forward was so all along. Assumes nothing.
use mathlib.Core.Path.{◌≡◌, refl, sym, ◌∙◌, subst}
use mathlib.Core.Bool.{true, false}
use mathlib.Core.List.{[], ◌++◌}
use Prim.Native.Nat.{ℕ}
use Rattle.rules.specs.Names.{Day}
use Rattle.rules.specs.declared.Terms.{Terms}
use Rattle.rules.specs.Day.{earliest_day}
use Rattle.rules.specs.Plan.{Plan, owner, is_inside}
use Rattle.rules.specs.Rights.{signal_right, is_permitted}
use Rattle.rules.specs.Ledger.{Ledger, is_forward}
use Rattle.rules.specs.Scope.{is_open}
use Rattle.rules.specs.Opening.{begun}
use Rattle.rules.specs.Event.{EventArguments, moved, is_closing}
use Rattle.rules.specs.Call.{SignalArguments, FireArguments, Call, event, signal, fire, call_refusal, next, next_day}
use Rattle.rules.specs.FinishedRun.{moves_of, Reached, Running, Finished}
use Rattle.rules.specs.FinishedRun as run
use Rattle.rules.proofs.Tests.{clash, refuted}
use Rattle.rules.proofs.Acceptance.{Accepted}
use Rattle.theory.specs.Seams as seam
use Rattle.theory.proofs.Composition.{Word}
use Rattle.theory.proofs.SoundParts.{Sound}
use Rattle.theory.proofs.Turning.{inside_alike}
use Rattle.theory.proofs.ForwardScopes.{closing_forward, event_forward, signal_forward, fire_forward}
use Rattle.theory.proofs.ScopeRuns as theorem
use Rattle.restoration.proofs.Document01.{document01, laws01, unfinished01}
use Rattle.restoration.proofs.Runs01.{from_running}

-- a run that went over no signal of a society that has the right over any of its tracks
pub data Unturned (p : Plan) (terms : Terms) (s : ℕ) : Day → Ledger → Word → Type 0 where
  by_begin : is_open p (begun p) s ≡ true → Unturned p terms s earliest_day (begun p) []
  by_call : {d : Day} {l : Ledger} → Reached p terms d l → (c : Call) → is_open p l s ≡ false → is_open p (next terms p d l c) s ≡ true
      → Unturned p terms s (next_day terms p d l c) (next terms p d l c) []
  over_event : {d : Day} {l : Ledger} {w : Word} → Unturned p terms s d l w → (a : EventArguments) → call_refusal terms p d l (event a) ≡ 0
      → is_open p (next terms p d l (event a)) s ≡ true
      → Unturned p terms s (next_day terms p d l (event a)) (next terms p d l (event a)) (w ++ moves_of p (is_inside p s) l a)
  over_signal : {d : Day} {l : Ledger} {w : Word} → Unturned p terms s d l w → (a : SignalArguments) → call_refusal terms p d l (signal a) ≡ 0
      → ((t : ℕ) → is_inside p s t ≡ true → is_permitted p signal_right a.society t ≡ false)
      → is_open p (next terms p d l (signal a)) s ≡ true → Unturned p terms s (next_day terms p d l (signal a)) (next terms p d l (signal a)) w
  over_fire : {d : Day} {l : Ledger} {w : Word} → Unturned p terms s d l w → (a : FireArguments) → call_refusal terms p d l (fire a) ≡ 0
      → is_open p (next terms p d l (fire a)) s ≡ true → Unturned p terms s (next_day terms p d l (fire a)) (next terms p d l (fire a)) w

module _ (terms : Terms) (p : Plan) (ok : Accepted p) (s : ℕ) where
  abbrev Forward : Ledger → Type 0
  Forward l = is_forward (l (owner p s)).mode ≡ true

  run_sound : {d : Day} {l : Ledger} {w : Word} → Running p terms s d l w → Sound document01 terms p l
  run_sound r = theorem.running_sound laws01 unfinished01 terms p ok (from_running p terms r)

  run_open : {d : Day} {l : Ledger} {w : Word} → Running p terms s d l w → is_open p l s ≡ true
  run_open r = theorem.running_open laws01 unfinished01 terms p ok (from_running p terms r)

  pub unturned : {d : Day} {l : Ledger} {w : Word} → Running p terms s d l w → is_forward (l (owner p s)).mode ≡ true → Unturned p terms s d l w
  unturned (run.by_begin o) f = by_begin o
  unturned (run.by_call r c n o) f = by_call r c n o
  unturned (run.over_event {d = d} {l = l} r a h o) f =
      let q = theorem.open_next laws01 unfinished01 terms p ok s d l (seam.event a) h o in
      over_event (unturned r (event_forward laws01 terms p ok l (run_sound r) s (run_open r) a (subst Forward q f))) a h o
  unturned (run.over_signal {d = d} {l = l} r a h n o) f =
      let q = theorem.open_next laws01 unfinished01 terms p ok s d l (seam.signal a) h o in
      let k = run_sound r in
      let g = signal_forward laws01 terms p ok l k s (run_open r) a (subst Forward q f) in
      let (t, i, j) = theorem.forward_inside laws01 unfinished01 terms p ok l s k (run_open r) g in
      let alike = inside_alike laws01 p l a ok s in
      let none_of = refuted (is_permitted p signal_right a.society t) (λ y. clash j (n t i y)) in
      over_signal (unturned r g) a h (λ u v. alike u v ∙ sym (alike t i) ∙ none_of) o
  unturned (run.over_fire {d = d} {l = l} r a h o) f =
      let q = theorem.open_next laws01 unfinished01 terms p ok s d l (seam.fire a) h o in
      over_fire (unturned r (fire_forward laws01 terms p ok l (run_sound r) s (run_open r) a.track (laws01.fire_accepted terms p d l a h).1 (subst Forward q f))) a h o

  -- so a finished run went over no such signal
  pub finished_unturned : {w : Word} → Finished p terms s w
      → (d : Day) × (l : Ledger) × (v : Word) × (a : EventArguments) × Unturned p terms s d l v × (call_refusal terms p d l (event a) ≡ 0)
      × (is_closing p (moved p l a) s ≡ true) × (w ≡ v ++ moves_of p (is_inside p s) l a)
  finished_unturned (run.closed {d = d} {l = l} {w = v} r a h c) =
      (d, l, v, a, unturned r (closing_forward laws01 terms p ok l (run_sound r) s (run_open r) a c), h, c, refl)
