-- A signal turns modes alone, a track and its host's track alike; so a scope that is forward after it was not touched, with all inside.
-- Assumes nothing.
use mathlib.Core.Path.{◌≡◌, refl, sym, ap, ◌∙◌}
use mathlib.Core.Logic.{inl, inr}
use mathlib.Core.Bool.{Bool, true, false, cond}
use mathlib.Core.Option.{some}
use Prim.Native.Nat.{ℕ}
use Rattle.rules.specs.declared.Mode.{Mode}
use Rattle.rules.specs.declared.Mode.TheVariants.{Asleep, Forward, Undoing}
use Rattle.rules.specs.Plan.{Plan, host, owner, is_inside}
use Rattle.rules.specs.Ledger.{Configuration, Ledger, is_awake, is_forward, sleeping}
use Rattle.rules.specs.Signal.{turned_track}
use Rattle.rules.proofs.Tests.{look, clash, strong}
use Rattle.rules.proofs.Acceptance.{Accepted}
use Rattle.rules.proofs.Forest.{inside_hosted}
use Rattle.theory.specs.Seams.{Seams, turned}
use Rattle.theory.proofs.Laws.{Laws}

-- a track that is turned
turned_case : (k : Configuration) → (is_awake (turned_track k).mode ≡ is_awake k.mode)
    × (is_forward (turned_track k).mode ≡ false)
    × ((turned_track k).state ≡ k.state)
    × ((turned_track k).held ≡ k.held)
unfolding turned_track
turned_case k = go k.mode refl
  where
    go : (m : Mode) → k.mode ≡ m → (is_awake (turned_track k).mode ≡ is_awake k.mode)
        × (is_forward (turned_track k).mode ≡ false)
        × ((turned_track k).state ≡ k.state)
        × ((turned_track k).held ≡ k.held)
    go Asleep e = unfold is_forward is_awake in rw (e, is_forward) (refl, refl, refl, refl)
    go Forward e = unfold is_forward is_awake in rw (e, is_forward) (refl, refl, refl, refl)
    go Undoing e = unfold is_forward is_awake in rw (e, is_forward) (refl, refl, refl, refl)

turned_mode : (c d : Configuration) → c.mode ≡ d.mode → (turned_track c).mode ≡ (turned_track d).mode
unfolding turned_track
turned_mode c d e = rw (ap is_forward e) (after (is_forward d.mode) c d e)
  where
    after : (b : Bool) (c d : Configuration) → c.mode ≡ d.mode
        → ◌≡◌ {A = Mode} (cond b (record { mode = Undoing; state = c.state; held = c.held }) c).mode
        (cond b (record { mode = Undoing; state = d.state; held = d.held }) d).mode
    after true c d e = refl
    after false c d e = e

module _ {σ : Seams} (ω : Laws σ) (p : Plan) (l : Ledger) (a : σ.Signal) where
  open σ use {is_turned}

  abbrev T : Ledger
  T = turned σ p l a

  untouched : (t : ℕ) → is_turned p a t ≡ false → T t ≡ l t
  untouched t h = rw h

  turns : (t : ℕ) → is_turned p a t ≡ true → T t ≡ turned_track (l t)
  turns t h = rw h

  pub turned_awake : (t : ℕ) → is_awake (T t).mode ≡ is_awake (l t).mode
  turned_awake t =
      elim (look (is_turned p a t)) [
        | inl h ↦ ap (λ (c : Configuration). is_awake c.mode) (turns t h) ∙ (turned_case (l t)).0
        | inr h ↦ ap (λ (c : Configuration). is_awake c.mode) (untouched t h)
      ]

  pub turned_state : (t : ℕ) → (T t).state ≡ (l t).state
  turned_state t =
      elim (look (is_turned p a t)) [
        | inl h ↦ ap (λ (c : Configuration). c.state) (turns t h) ∙ (turned_case (l t)).2
        | inr h ↦ ap (λ (c : Configuration). c.state) (untouched t h)
      ]

  pub turned_held : (t : ℕ) → (T t).held ≡ (l t).held
  turned_held t =
      elim (look (is_turned p a t)) [
        | inl h ↦ ap (λ (c : Configuration). c.held) (turns t h) ∙ (turned_case (l t)).3
        | inr h ↦ ap (λ (c : Configuration). c.held) (untouched t h)
      ]

  pub turned_forward : (t : ℕ) → is_turned p a t ≡ true → is_forward (T t).mode ≡ false
  turned_forward t h = ap (λ (c : Configuration). is_forward c.mode) (turns t h) ∙ (turned_case (l t)).1

  -- what is forward afterwards was not turned
  not_turned : (t : ℕ) → is_forward (T t).mode ≡ true → is_turned p a t ≡ false
  not_turned t f =
      elim (look (is_turned p a t)) [
        | inr h ↦ h
        | inl h ↦ clash f (turned_forward t h)
      ]

  pub unturned : (t : ℕ) → is_forward (T t).mode ≡ true → T t ≡ l t
  unturned t f = untouched t (not_turned t f)

  pub turned_blank : (t : ℕ) → l t ≡ sleeping → T t ≡ sleeping
  unfolding turned_track sleeping is_forward
  turned_blank t h = elim (look (is_turned p a t)) [ inl i ↦ rw (i, h) | inr i ↦ rw (i, h) ]

  module _ (ok : Accepted p) where
    pub turned_alike : (t h : ℕ) → host p t ≡ some h → (l (owner p h)).mode ≡ (l t).mode → (T (owner p h)).mode ≡ (T t).mode
    turned_alike t h e m =
        let q = ω.turned_up p ok a t h e in
        elim (look (is_turned p a t)) [
          | inl i ↦
              ap (λ (c : Configuration). c.mode) (turns (owner p h) (sym q ∙ i)) ∙ turned_mode (l (owner p h)) (l t) m
              ∙ sym (ap (λ (c : Configuration). c.mode) (turns t i))
          | inr i ↦
              ap (λ (c : Configuration). c.mode) (untouched (owner p h) (sym q ∙ i)) ∙ m ∙ sym (ap (λ (c : Configuration). c.mode) (untouched t i))
        ]

    -- all inside a scope are treated as its host's track is
    pub inside_alike : (s t : ℕ) → is_inside p s t ≡ true → is_turned p a t ≡ is_turned p a (owner p s)
    inside_alike s =
        strong (λ t. is_inside p s t ≡ true → is_turned p a t ≡ is_turned p a (owner p s))
        (λ t ih i.
        let (h, e, r) = inside_hosted p ok s t i in
        let q = ω.turned_up p ok a t h e in
        elim r [
          | inl z ↦ q ∙ ap (λ x. is_turned p a (owner p x)) z
          | inr z ↦ q ∙ ih (owner p h) (ok.lower t h e) z
        ])

    -- a scope that is forward after a signal was forward before, and the signal turned none of its tracks
    pub scope_untouched : (s : ℕ) → is_forward (T (owner p s)).mode ≡ true
        → (is_forward (l (owner p s)).mode ≡ true)
        × ((t : ℕ) → is_inside p s t ≡ true → is_turned p a t ≡ true → is_forward (l t).mode ≡ false)
    scope_untouched s f = (
      ap (λ (c : Configuration). is_forward c.mode) (sym (unturned (owner p s) f)) ∙ f,
      λ t i h. clash (sym (inside_alike s t i) ∙ h) (not_turned (owner p s) f),
    )
