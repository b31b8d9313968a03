-- An open scope that is forward after a call was forward before it: its host is busy, so it neither moves nor is fired, and a signal turns a
-- forward track to undoing or leaves it. A scope that closes was forward too. Assumes nothing.
use mathlib.Core.Path.{◌≡◌, sym, ap, ◌∙◌}
use mathlib.Core.Bool.{true}
use Prim.Native.Nat.{ℕ}
use Rattle.rules.specs.Plan.{Plan, owner}
use Rattle.rules.specs.Ledger.{Configuration, Ledger, is_forward}
use Rattle.rules.specs.Scope.{is_open}
use Rattle.rules.specs.Event.{is_closing}
use Rattle.rules.specs.Signal.{abandoned}
use Rattle.rules.specs.Fire.{may_fire, fired}
use Rattle.rules.proofs.Modes.{forward_awake}
use Rattle.rules.proofs.Acceptance.{Accepted}
use Rattle.rules.proofs.Scopes.{open_find}
use Rattle.rules.proofs.Closing.{closing_final}
use Rattle.rules.proofs.Abandoning.{awake_kept}
use Rattle.rules.proofs.Ready.{may_fire_lem}
use Rattle.theory.specs.Seams.{Seams, turned}
use Rattle.theory.proofs.Nesting.{Nested, open_host}
use Rattle.theory.proofs.FiringNested.{removed_mode, fired_busy}
use Rattle.theory.proofs.SoundParts.{Sound}
use Rattle.theory.proofs.Laws.{Laws}
use Rattle.theory.proofs.Turning.{unturned}
use Rattle.theory.proofs.MovingNested.{moved_nested, moved_busy}
use Rattle.theory.proofs.ClosingNested.{closing_open, closed_awake, closed_alike}
use Rattle.theory.proofs.SoundRetraction.{fired_awake}
use Rattle.rules.specs.declared.Terms.{Terms}

module _ {σ : Seams} (ω : Laws σ) (terms : Terms) (p : Plan) (ok : Accepted p) (l : Ledger) (s : Sound σ terms p l) (z : ℕ) (o : is_open p l z ≡ true) where
  open σ use {Event, Signal, moved, closed}

  abbrev n : Nested p l
  n = s.formed.nested

  host_still : (a : Event) → is_forward (moved p l a (owner p z)).mode ≡ is_forward (l (owner p z)).mode
  host_still a = let (w, b, q) = open_host p ok l n z o in ap (λ (c : Configuration). is_forward c.mode) (moved_busy ω p l a ok n (owner p z) w b)

  pub closing_forward : (a : Event) → is_closing p (moved p l a) z ≡ true → is_forward (l (owner p z)).mode ≡ true
  closing_forward a c =
      let m = moved p l a in
      let (u, b, e, w) = open_find p m z (closing_open p m z c) in
      sym (host_still a) ∙ ap is_forward ((moved_nested ω p l a ok n).hosted u z w e).1 ∙ (closing_final p m z u c b e).0

  pub event_forward : (a : Event) → is_forward (closed p (moved p l a) a (owner p z)).mode ≡ true → is_forward (l (owner p z)).mode ≡ true
  event_forward a f =
      let m = moved p l a in
      let (c, w) = closed_awake ω p m a (owner p z) (forward_awake (closed p m a (owner p z)).mode f) in
      sym (host_still a) ∙ ap is_forward (sym (closed_alike ω p m a (owner p z) c).0) ∙ f

  pub signal_forward : (a : Signal) → is_forward (abandoned p (turned σ p l a) (owner p z)).mode ≡ true → is_forward (l (owner p z)).mode ≡ true
  signal_forward a f =
      let q = (awake_kept p ok (turned σ p l a) (owner p z) (forward_awake (abandoned p (turned σ p l a) (owner p z)).mode f)).1 in
      let g = ap (λ (c : Configuration). is_forward c.mode) (sym q) ∙ f in
      ap (λ (c : Configuration). is_forward c.mode) (sym (unturned ω p l a (owner p z) g)) ∙ g

  pub fire_forward : (t : ℕ) → may_fire p l t ≡ true → is_forward (abandoned p (fired p l t) (owner p z)).mode ≡ true → is_forward (l (owner p z)).mode ≡ true
  fire_forward t may f =
      let q = (awake_kept p ok (fired p l t) (owner p z) (forward_awake (abandoned p (fired p l t) (owner p z)).mode f)).1 in
      let (i, j, e) = open_host p ok l n z o in
      let y = fired_busy p l t ok n (s.formed.good t) (may_fire_lem p l t may).3 (fired_awake ω terms p ok l s t may) (owner p z) i j in
      ap is_forward (sym (ap (λ (c : Configuration). c.mode) (q ∙ y) ∙ removed_mode p l t (owner p z))) ∙ f
