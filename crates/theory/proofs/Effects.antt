-- What a track's moves in a run do: if, on some books, each transition of the track leads from the effect of its source to that of its
-- destination, and no other track's transition changes anything there, then the moves of a run do what the effect of the state says that the
-- track stands in; of a finished run, that of a final state. Assumes nothing.
use mathlib.Core.Path.{◌≡◌, refl, sym, ap, ◌∙◌, subst}
use mathlib.Core.Logic.{inl, inr}
use mathlib.Core.Bool.{true}
use mathlib.Core.List.{List}
use mathlib.Core.Option.{Option, none, some}
use Prim.Native.Nat.{ℕ, ◌<◌}
use borrow.Author.Tests.{eq-eqb}
use Rattle.rules.specs.Plan.{Plan, track_count, transition_count, transition, host, mover, first_state, is_state_of, is_final, is_inside}
use Rattle.rules.specs.Ledger.{Configuration, Ledger}
use Rattle.rules.specs.Scope.{is_open}
use Rattle.rules.proofs.Tests.{look, look_option, clash}
use Rattle.rules.proofs.Modes.{forward_awake}
use Rattle.rules.proofs.Acceptance.{Accepted}
use Rattle.rules.proofs.Forest.{inside_host}
use Rattle.rules.proofs.Closing.{closing_final}
use Rattle.theory.specs.Seams.{Seams, signal, fire, change_of}
use Rattle.theory.specs.Runs as run
use Rattle.theory.specs.Runs.{act, Running, by_begin, by_call, over_event, over_signal, over_fire, Finished}
use Rattle.theory.proofs.Composition.{when, act_append, join_still, join_alone}
use Rattle.theory.proofs.EnteringNested.{fresh_state}
use Rattle.theory.proofs.SoundParts.{Sound}
use Rattle.theory.proofs.Laws.{Laws, Unfinished}
use Rattle.theory.proofs.Settling.{over_refused}
use Rattle.theory.proofs.MovingNested.{mover_is, moved_nested}
use Rattle.theory.proofs.SoundBegin.{begun_sound, begun_fresh}
use Rattle.theory.proofs.SoundKept.{Kept, over_is}
use Rattle.theory.proofs.Histories.{reached_kept}
use Rattle.theory.proofs.ScopeRuns.{running_open, running_sound, open_awake, stepped, moved_state, event_state, retraction_state, opened_state}
use Rattle.rules.specs.declared.Terms.{Terms}

-- the effect of standing in each of a track's states, by which its changes lead
pub record Effect (σ : Seams) (p : Plan) (t : ℕ) {B : Type 0} (v : σ.Change → B → B) (φ : ℕ → B → B) : Type 0 where
  pub start : (b : B) → φ (first_state p t) b ≡ b
  pub along : (a : σ.Event) (x : ℕ) → x < transition_count p → mover p x ≡ t → (b : B)
      → v (σ.change a x) (φ (transition p x).source b) ≡ φ (transition p x).destination b
  pub others : (a : σ.Event) (x : ℕ) → x < transition_count p → (mover p x ≡ t → ⊥) → (b : B) → v (σ.change a x) b ≡ b

module _ {σ : Seams} (ω : Laws σ) (υ : Unfinished σ) (terms : Terms) (p : Plan) (ok : Accepted p) (s t : ℕ) (e : host p t ≡ some s)
    {B : Type 0} (v : σ.Change → B → B) (φ : ℕ → B → B) (effect : Effect σ p t v φ) where
  open σ use {Event, Head, Change, move, moved, moves_of, next}

  -- the moves of an event do what the step of the track's own does
  moves_effect : (l : Ledger) → Sound σ terms p l → (d : Event) (b : B)
      → act v (moves_of p (is_inside p s) l d) (φ (l t).state b) ≡ φ (stepped p (move p l d t) (l t).state) b
  unfolding act change_of stepped
  moves_effect l k d b =
      ap (λ w. act v w (φ (l t).state b)) (ω.moves_are p (is_inside p s) l d)
      ∙ join_alone v (track_count p) t (λ u. when (is_inside p s u) (change_of σ d (move p l d u))) (ok.hosted t s e) (λ u m f. other u f) (φ (l t).state b)
      ∙ own (move p l d t) refl
    where
      inside : is_inside p s t ≡ true
      inside = inside_host p ok s t s e ∙ (rw (eq-eqb s s refl))

      other : (u : ℕ) → (u ≡ t → ⊥) → (b : B) → act v (when (is_inside p s u) (change_of σ d (move p l d u))) b ≡ b
      other u f b =
          elim (look (is_inside p s u)) [
            | inr i ↦ rw i
            | inl i ↦
                elim (look_option (move p l d u)) [
                  | inl h ↦ rw (i, h)
                  | inr h ↦
                      rw (i, h.1)
                      (effect.others d h.0 (ω.move_takes p l d u h.0 h.1).real
                      (λ g. f (sym (mover_is ω p l d ok k.formed.nested u h.0 h.1) ∙ g)) b)
                ]
          ]

      own : (o : Option ℕ) → move p l d t ≡ o
          → act v (when (is_inside p s t) (change_of σ d (move p l d t))) (φ (l t).state b) ≡ φ (stepped p (move p l d t) (l t).state) b
      own none h = rw (inside, h)
      own (some x) h =
          let m = ω.move_takes p l d t x h in
          rw (inside, h, ← m.from) (effect.along d x m.real (mover_is ω p l d ok k.formed.nested t x h) b)

  running_effect : {h : Head} {l : Ledger} {w : List Change} → Running σ p terms s h l w → (b : B) → act v w b ≡ φ (l t).state b
  unfolding act
  running_effect (by_begin o) b =
      let k = begun_sound ω terms p ok in
      let q = ap (λ (c : Configuration). c.state) (begun_fresh terms p ok t (open_awake ω υ terms p ok s t e _ k o)) ∙ fresh_state p t in
      sym (ap (λ x. φ x b) q ∙ effect.start b)
  running_effect (by_call {h = h} {l = l} r c f o) b = sym (ap (λ x. φ x b) (opened (reached_kept ω υ terms p ok r)) ∙ effect.start b)
    where
      opened : Kept σ terms p l → (next terms p h l c t).state ≡ first_state p t
      opened (inr k) = opened_state ω υ terms p ok s t e l k h c f o
      opened (inl z) =
          clash (subst (λ m. is_open p m s ≡ true) (ω.refused terms p h l c (over_refused ω terms p h l (over_is p l z) c)).0 o) f
  running_effect (over_event {h = h} {l = l} {w = w} r a z o) b =
      let k = running_sound ω υ terms p ok r in
      act_append v w (moves_of p (is_inside p s) l a) b
      ∙ ap (act v (moves_of p (is_inside p s) l a)) (running_effect r b)
      ∙ moves_effect l k a b
      ∙ ap (λ x. φ x b) (sym (event_state ω υ terms p ok s t e l k h a z (running_open ω υ terms p ok r) o))
  running_effect (over_signal {h = h} {l = l} r a z f o) b =
      let k = running_sound ω υ terms p ok r in
      running_effect r b ∙ ap (λ x. φ x b) (sym (retraction_state ω υ terms p ok s t e l k h (signal a) refl z (running_open ω υ terms p ok r) o))
  running_effect (over_fire {h = h} {l = l} r a z o) b =
      let k = running_sound ω υ terms p ok r in
      running_effect r b ∙ ap (λ x. φ x b) (sym (retraction_state ω υ terms p ok s t e l k h (fire a) refl z (running_open ω υ terms p ok r) o))

  -- of a finished run, the track stands in a final state of its own
  pub finished_effect : {a : Event} {w : List Change} → Finished σ p terms s a w
      → (q : ℕ) × (is_state_of p t q ≡ true) × (is_final p q ≡ true) × ((b : B) → act v w b ≡ φ q b)
  finished_effect (run.closed {l = l} {w = w} r a h c) =
      let k = running_sound ω υ terms p ok r in
      let m = moved p l a in
      let (f, z) = closing_final p m s t c (ok.hosted t s e) e in (
        (m t).state,
        (moved_nested ω p l a ok k.formed.nested).own t (forward_awake (m t).mode f),
        z,
        λ b.
            act_append v w (moves_of p (is_inside p s) l a) b
            ∙ ap (act v (moves_of p (is_inside p s) l a)) (running_effect r b)
            ∙ moves_effect l k a b
            ∙ ap (λ x. φ x b) (sym (moved_state ω υ terms p ok s t e l k a (open_awake ω υ terms p ok s t e l k (running_open ω υ terms p ok r)))),
      )

-- where no change of a track inside a scope does anything, its runs do nothing
module _ {σ : Seams} (ω : Laws σ) (υ : Unfinished σ) (terms : Terms) (p : Plan) (ok : Accepted p) (s : ℕ) {B : Type 0} (v : σ.Change → B → B)
    (still : (a : σ.Event) (x : ℕ) → x < transition_count p → is_inside p s (mover p x) ≡ true → (b : B) → v (σ.change a x) b ≡ b) where
  open σ use {Event, Head, Change, move, moves_of}

  still_moves : (l : Ledger) → Sound σ terms p l → (d : Event) (b : B) → act v (moves_of p (is_inside p s) l d) b ≡ b
  unfolding act change_of
  still_moves l k d b =
      ap (λ w. act v w b) (ω.moves_are p (is_inside p s) l d)
      ∙ join_still v (track_count p) (λ u. when (is_inside p s u) (change_of σ d (move p l d u)))
      (λ u m b.
      elim (look (is_inside p s u)) [
        | inr i ↦ rw i
        | inl i ↦
            elim (look_option (move p l d u)) [
              | inl h ↦ rw (i, h)
              | inr h ↦
                  let x = h.0 in
                  rw (i, h.1)
                  (still d x (ω.move_takes p l d u x h.1).real (ap (is_inside p s) (mover_is ω p l d ok k.formed.nested u x h.1) ∙ i) b)
            ]
      ])
      b

  still_running : {h : Head} {l : Ledger} {w : List Change} → Running σ p terms s h l w → (b : B) → act v w b ≡ b
  unfolding act
  still_running (by_begin o) b = refl
  still_running (by_call r c f o) b = refl
  still_running (over_event {l = l} {w = w} r a h o) b =
      act_append v w (moves_of p (is_inside p s) l a) b ∙ still_moves l (running_sound ω υ terms p ok r) a (act v w b) ∙ still_running r b
  still_running (over_signal r a h f o) b = still_running r b
  still_running (over_fire r a h o) b = still_running r b

  pub finished_still : {a : Event} {w : List Change} → Finished σ p terms s a w → (b : B) → act v w b ≡ b
  finished_still (run.closed {l = l} {w = w} r a h c) b =
      act_append v w (moves_of p (is_inside p s) l a) b ∙ still_moves l (running_sound ω υ terms p ok r) a (act v w b) ∙ still_running r b
