-- The runs of a scope, from its opening on: its ledgers are reached and sound, its tracks start in their first states, and each follows its
-- own transitions. So what the moves of one track do is known by the state it stands in. Assumes nothing.
use mathlib.Core.Path.{◌≡◌, refl, sym, ap, ◌∙◌, subst}
use mathlib.Core.Logic.{inl, inr}
use mathlib.Core.Bool.{true, false}
use mathlib.Core.List.{List}
use mathlib.Core.Option.{Option, none, some}
use Prim.Native.Nat.{ℕ}
use lib.Dec.{eqb}
use borrow.Author.Tests.{eqb-true, eqb-false, eq-eqb}
use Rattle.rules.specs.Plan.{Plan, transition, host, owner, first_state, is_inside}
use Rattle.rules.specs.Ledger.{Configuration, Ledger, is_awake, is_forward}
use Rattle.rules.specs.Scope.{is_open}
use Rattle.rules.specs.Fire.{fired}
use Rattle.rules.proofs.Tests.{look, clash}
use Rattle.rules.proofs.Acceptance.{Accepted}
use Rattle.rules.proofs.Forest.{inside_host}
use Rattle.rules.proofs.Scopes.{open_find, shut_at}
use Rattle.rules.proofs.Opening.{enter_to}
use Rattle.rules.proofs.Abandoning.{awake_kept}
use Rattle.rules.proofs.Ready.{may_fire_lem}
use Rattle.theory.specs.Seams.{Seams, Call, event, signal, fire, is_event, goes, recorded, turned, work}
use Rattle.theory.specs.Runs as run
use Rattle.theory.specs.Runs.{Reached, Running, by_begin, by_call, over_event, over_signal, over_fire}
use Rattle.theory.proofs.Nesting.{Awake, Sleeps, Nested}
use Rattle.theory.proofs.EnteringNested.{fresh_state}
use Rattle.theory.proofs.FiringNested.{fired_new}
use Rattle.theory.proofs.SoundParts.{Sound, sleeping_asleep}
use Rattle.theory.proofs.Laws.{Laws, Unfinished}
use Rattle.theory.proofs.Settling.{next_cases}
use Rattle.theory.proofs.Turning.{turned_awake, turned_state}
use Rattle.theory.proofs.MovingNested.{to_destination, moved_is, moved_still, moved_new}
use Rattle.theory.proofs.ClosingNested.{closed_alike, closed_awake}
use Rattle.theory.proofs.SoundRetraction.{fired_awake, hosted_kept}
use Rattle.theory.proofs.SoundKept.{Kept, kept_next}
use Rattle.theory.proofs.Histories.{reached_kept}
use Rattle.rules.specs.declared.Terms.{Terms}

-- the state that a track in a state is left in by the transition it takes, if any
unfoldable pub stepped : Plan → Option ℕ → ℕ → ℕ
stepped p none q = q
stepped p (some x) q = (transition p x).destination

module _ {σ : Seams} (ω : Laws σ) (υ : Unfinished σ) (terms : Terms) (p : Plan) (ok : Accepted p) where
  open σ use {Event, Signal, Firing, Head, Change, track, move, moved, closed, next_head, refusal, next}

  pub running_reached : {s : ℕ} {h : Head} {l : Ledger} {w : List Change} → Running σ p terms s h l w → Reached σ p terms h l
  running_reached (by_begin o) = run.start
  running_reached (by_call r c f o) = run.then r c
  running_reached (over_event r a z o) = run.then (running_reached r) (event a)
  running_reached (over_signal r a z f o) = run.then (running_reached r) (signal a)
  running_reached (over_fire r a z o) = run.then (running_reached r) (fire a)

  pub running_open : {s : ℕ} {h : Head} {l : Ledger} {w : List Change} → Running σ p terms s h l w → is_open p l s ≡ true
  running_open (by_begin o) = o
  running_open (by_call r c f o) = o
  running_open (over_event r a z o) = o
  running_open (over_signal r a z f o) = o
  running_open (over_fire r a z o) = o

  -- a ledger with an open scope is not over
  pub open_sound : (l : Ledger) (s : ℕ) → Kept σ terms p l → is_open p l s ≡ true → Sound σ terms p l
  open_sound l s (inr k) o = k
  open_sound l s (inl v) o =
      let (t, b, e, a) = open_find p l s o in
      clash a (ap (λ (c : Configuration). is_awake c.mode) (v t) ∙ sleeping_asleep)

  pub running_sound : {s : ℕ} {h : Head} {l : Ledger} {w : List Change} → Running σ p terms s h l w → Sound σ terms p l
  running_sound {s} {h} {l} r = open_sound l s (reached_kept ω υ terms p ok (running_reached r)) (running_open r)

  -- the ledger after a call that leaves a scope open
  pub open_next : (s : ℕ) (h : Head) (l : Ledger) (c : Call σ) → refusal terms p h l c ≡ 0 → is_open p (next terms p h l c) s ≡ true
      → next terms p h l c ≡ work σ p l c
  open_next s h l c z o =
      elim (next_cases ω terms p h l c z) [
        | inl q ↦ q
        | inr v ↦
            let (u, b, i, w) = open_find p (next terms p h l c) s o in
            clash w (ap (λ (c : Configuration). is_awake c.mode) (v u) ∙ sleeping_asleep)
      ]

  -- an open forward scope has a forward track inside
  pub forward_inside : (l : Ledger) (s : ℕ) → Sound σ terms p l → is_open p l s ≡ true → is_forward (l (owner p s)).mode ≡ true
      → (t : ℕ) × (is_inside p s t ≡ true) × (is_forward (l t).mode ≡ true)
  forward_inside l s k o f =
      let (t, b, e, a) = open_find p l s o in (
        t,
        inside_host p ok s t s e ∙ (rw (eq-eqb s s refl)),
        ap is_forward (sym (k.formed.nested.hosted t s a e).1) ∙ f,
      )

  -- A track of an open scope, and its state after a call.
  module _ (s t : ℕ) (e : host p t ≡ some s) where
    pub open_awake : (l : Ledger) → Sound σ terms p l → is_open p l s ≡ true → Awake l t
    open_awake l k o = let (u, b, f, a) = open_find p l s o in k.formed.nested.whole t u s e f ∙ a

    module _ (l : Ledger) (k : Sound σ terms p l) where
      abbrev n : Nested p l
      n = k.formed.nested

      pub moved_state : (d : Event) → Awake l t → (moved p l d t).state ≡ stepped p (move p l d t) (l t).state
      unfolding stepped
      moved_state d a = go (move p l d t) refl
        where
          to : (x : ℕ) → move p l d t ≡ some x → goes σ p l d t ≡ some (transition p x).destination
          to x h = to_destination p (move p l d t) x h

          go : (o : Option ℕ) → move p l d t ≡ o → (moved p l d t).state ≡ stepped p o (l t).state
          go none h = ap (λ (c : Configuration). c.state) (moved_still ω p l d ok n t a h)
          go (some x) h =
              ap (λ m. (m t).state) (moved_is ω p l d)
              ∙ ap (λ (c : Configuration). c.state) (enter_to p ok (goes σ p l d) (recorded σ p l d) t (transition p x).destination (to x h))

      closed_state : (d : Event) → Awake (closed p (moved p l d) d) t → Awake (moved p l d) t × ((closed p (moved p l d) d t).state ≡ (moved p l d t).state)
      closed_state d a = let (c, w) = closed_awake ω p (moved p l d) d t a in (w, (closed_alike ω p (moved p l d) d t c).1)

      -- an accepted call that leaves the scope open leaves its work, and the track awake
      worked : (h : Head) (c : Call σ) → refusal terms p h l c ≡ 0 → is_open p (next terms p h l c) s ≡ true
          → (next terms p h l c ≡ work σ p l c) × Awake (work σ p l c) t
      worked h c z o =
          let q = open_next s h l c z o in
          let a = open_awake (next terms p h l c) (open_sound (next terms p h l c) s (kept_next ω υ terms p ok h l (inr k) c) o) o in
          (q, subst (λ (m : Ledger). is_awake (m t).mode ≡ true) q a)

      pub event_state : (h : Head) (a : Event) → refusal terms p h l (event a) ≡ 0 → is_open p l s ≡ true → is_open p (next terms p h l (event a)) s ≡ true
          → (next terms p h l (event a) t).state ≡ stepped p (move p l a t) (l t).state
      event_state h a z o o' =
          let (q, w) = worked h (event a) z o' in
          ap (λ (m : Ledger). (m t).state) q ∙ (closed_state a w).1 ∙ moved_state a (open_awake l k o)

      -- a signal and a firing leave it
      pub retraction_state : (h : Head) (c : Call σ) → is_event c ≡ false → refusal terms p h l c ≡ 0 → is_open p l s ≡ true
          → is_open p (next terms p h l c) s ≡ true → (next terms p h l c t).state ≡ (l t).state
      retraction_state h (event a) v z o o' = clash refl v
      retraction_state h (signal a) v z o o' =
          let (q, w) = worked h (signal a) z o' in
          ap (λ (m : Ledger). (m t).state) q ∙ ap (λ (c : Configuration). c.state) (awake_kept p ok (turned σ p l a) t w).1 ∙ turned_state ω p l a t
      retraction_state h (fire a) v z o o' =
          let (q, w) = worked h (fire a) z o' in
          ap (λ (m : Ledger). (m t).state) q
          ∙ ap (λ (c : Configuration). c.state) (awake_kept p ok (fired p l (track a)) t w).1
          ∙ (hosted_kept ω terms p ok l k (track a) (ω.fire_accepted terms p h l a z).1 t s e (open_awake l k o)).1

      -- a call that opens the scope leaves it in its first state
      pub opened_state : (h : Head) (c : Call σ) → is_open p l s ≡ false → is_open p (next terms p h l c) s ≡ true → (next terms p h l c t).state ≡ first_state p t
      opened_state h c f o =
          elim (look (eqb (refusal terms p h l c) 0)) [
            | inr z ↦
                clash (subst (λ m. is_open p m s ≡ true) (ω.refused terms p h l c (eqb-false (refusal terms p h l c) 0 z)).0 o) f
            | inl z ↦ go c (eqb-true (refusal terms p h l c) 0 z) o
          ]
        where
          slept : Sleeps l t
          slept = shut_at p l s t f (ok.hosted t s e) e

          go : (c : Call σ) → refusal terms p h l c ≡ 0 → is_open p (next terms p h l c) s ≡ true → (next terms p h l c t).state ≡ first_state p t
          go (event a) z o' =
              let (q, w) = worked h (event a) z o' in
              let (x, y) = closed_state a w in
              ap (λ (m : Ledger). (m t).state) q ∙ y
              ∙ ap (λ (c : Configuration). c.state) (moved_new ω p l a ok n t slept x) ∙ fresh_state p t
          go (signal a) z o' =
              let (q, w) = worked h (signal a) z o' in
              clash (sym (turned_awake ω p l a t) ∙ ap (λ (c : Configuration). is_awake c.mode) (sym (awake_kept p ok (turned σ p l a) t w).1) ∙ w) slept
          go (fire a) z o' =
              let (q, w) = worked h (fire a) z o' in
              let may = (ω.fire_accepted terms p h l a z).1 in
              let r = (awake_kept p ok (fired p l (track a)) t w).1 in
              ap (λ (m : Ledger). (m t).state) q
              ∙ ap (λ (c : Configuration). c.state)
              (r
              ∙ fired_new p l (track a) ok n (k.formed.good (track a)) (may_fire_lem p l (track a) may).3
              (fired_awake ω terms p ok l k (track a) may) t slept (ap (λ (c : Configuration). is_awake c.mode) (sym r) ∙ w))
              ∙ fresh_state p t
