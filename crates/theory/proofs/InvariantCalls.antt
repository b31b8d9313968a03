-- The invariant along calls: begin sets the invariant up, every call keeps it, and where every root is withdrawn no track has a word left, so
-- that the books stand as at the begin. A scope's run is witnessed by the very list of calls that led here. Assumes nothing.
use mathlib.Core.Path.{◌≡◌, refl, sym, ap, ◌∙◌, subst}
use mathlib.Core.Logic.{◌⊎◌, inl, inr}
use mathlib.Core.Bool.{Bool, true}
use mathlib.Core.List.{List, [], ◌++◌}
use Prim.Native.Nat.{ℕ}
use Rattle.rules.specs.Plan.{Plan, track_count, host, owner, is_inside}
use Rattle.rules.specs.Ledger.{Configuration, Ledger, is_awake, is_forward}
use Rattle.rules.specs.Scope.{is_open}
use Rattle.rules.specs.Opening.{begun}
use Rattle.rules.specs.Event.{is_closing}
use Rattle.rules.specs.Signal.{abandoned}
use Rattle.rules.specs.Fire.{newest, may_fire, fired}
use Rattle.rules.specs.ReferenceRun.{AllWithdrawn}
use Rattle.rules.proofs.Tests.{look, look_option, clash}
use Rattle.rules.proofs.Modes.{forward_awake}
use Rattle.rules.proofs.Acceptance.{Accepted}
use Rattle.rules.proofs.Scopes.{root_of_lem, open_at, open_find}
use Rattle.rules.proofs.Abandoning.{awake_kept}
use Rattle.theory.specs.Seams.{Seams, Call, event, signal, fire, turned}
use Rattle.theory.specs.Runs as run
use Rattle.theory.specs.Runs.{act, replacement_of, Reached, Running, by_begin, by_call, over_event, over_signal, over_fire, Books, booked_call}
use Rattle.theory.proofs.Composition as all
use Rattle.theory.proofs.Composition.{when, join, when_nil, join_nil}
use Rattle.theory.proofs.Nesting.{Nested, hosted_asleep}
use Rattle.theory.proofs.EnteringNested.{fresh_held}
use Rattle.theory.proofs.SoundParts.{Sound, Over, sleeping_asleep, sleeping_held}
use Rattle.theory.proofs.Laws.{Laws, Unfinished}
use Rattle.theory.proofs.Settling.{next_cases, over_refused}
use Rattle.theory.proofs.Turning.{turned_awake, scope_untouched}
use Rattle.theory.proofs.MovingNested.{moved_nested}
use Rattle.theory.proofs.ClosingNested.{closing_open}
use Rattle.theory.proofs.SignalNested.{turned_nested}
use Rattle.theory.proofs.SoundBegin.{root_zero, begun_sound, begun_fresh}
use Rattle.theory.proofs.SoundEvent.{was_open}
use Rattle.theory.proofs.SoundRetraction.{fired_formed}
use Rattle.theory.proofs.SoundKept.{over_is, kept_next}
use Rattle.theory.proofs.ForwardScopes.{closing_forward, event_forward, fire_forward}
use Rattle.theory.proofs.Invariant.{Undoes, Held, Blocks, quiet}
use Rattle.theory.proofs.InvariantMoving.{grown, fresher, moves_last, moved_blocks}
use Rattle.theory.proofs.InvariantClosing.{settled, closed_blocks, closed_whole}
use Rattle.theory.proofs.InvariantRetraction.{turned_blocks, abandoned_blocks, shorter, fired_books, fired_blocks}
use Rattle.rules.specs.declared.Terms.{Terms}

module _ {σ : Seams} (ω : Laws σ) (υ : Unfinished σ) (terms : Terms) (p : Plan) (ok : Accepted p) (k : Books σ p terms) where
  open σ use {Event, Signal, Firing, Head, Change, track, moved, closed, moves_of, retraction, is_turned, first_head, next_head, refusal, next}

  -- the words, the runs, and the books' states at the begin and now
  pub record Booked (h : Head) (l : Ledger) (first now : k.State) : Type 0 where
    pub W : ℕ → List Change
    pub R : ℕ → List Change
    pub blocks : Blocks terms p ok k l W R
    pub running : (s : ℕ) → is_open p l s ≡ true → is_forward (l (owner p s)).mode ≡ true → Running σ p terms s h l (R s)
    pub books : now ≡ act k.changed (join (track_count p) W) first

  -- over, or sound and booked
  abbrev pub Invariant : Head → Ledger → k.State → k.State → Type 0
  Invariant h l first now = Over l ⊎ (Sound σ terms p l × Booked h l first now)

  -- what the call did to the books: on the next ledger, which is sound or over
  carry : (h : Head) (l : Ledger) → Sound σ terms p l → (c : Call σ) (first now : k.State)
      → Booked (next_head terms p h l c) (next terms p h l c) first now → Invariant (next_head terms p h l c) (next terms p h l c) first now
  carry h l s c first now b =
      elim (kept_next ω υ terms p ok h l (inr s) c) [ inl o ↦ inl o | inr s' ↦ inr (s', b) ]

  module _ (h : Head) (l : Ledger) (first now : k.State) (reach : Reached σ p terms h l) (s : Sound σ terms p l) (v : Booked h l first now) where
    abbrev n : Nested p l
    n = s.formed.nested

    abbrev W : ℕ → List Change
    W = v.W

    abbrev R : ℕ → List Change
    R = v.R

    module _ (a : Event) (acc : refusal terms p h l (event a) ≡ 0) where
      abbrev m : Ledger
      m = moved p l a

      abbrev x : Ledger
      x = next terms p h l (event a)

      m_nested : Nested p m
      m_nested = moved_nested ω p l a ok n

      -- words and runs after the moves
      abbrev W₁ : ℕ → List Change
      W₁ = grown ω terms p ok k l n W R v.blocks a

      abbrev R₁ : ℕ → List Change
      R₁ = fresher ω terms p ok k l n W R v.blocks a

      after_moves : Blocks terms p ok k m W₁ R₁
      after_moves = moved_blocks ω terms p ok k l n W R v.blocks a

      -- the run of a scope that closes is finished, so its replacement undoes it
      closing_undone : (z : ℕ) → is_closing p m z ≡ true → Undoes terms p ok k (replacement_of σ p a z) (R₁ z)
      closing_undone z c =
          let o = was_open ω terms p ok l s.formed a z c in
          let (u, b, i, w) = open_find p m z (closing_open p m z c) in
          let f = closing_forward ω terms p ok l s z o a c in
          rw o (k.undo_run z u i a (R z ++ moves_of p (is_inside p z) l a) (run.closed (v.running z o f) a acc c))

      -- words after the closings
      abbrev W₂ : ℕ → List Change
      W₂ = settled ω terms p ok k m m_nested W₁ R₁ after_moves a closing_undone

      after_closings : Blocks terms p ok k (closed p m a) W₂ R₁
      after_closings = closed_blocks ω terms p ok k m m_nested W₁ R₁ after_moves a closing_undone

      event_booked : x ≡ closed p m a → Booked (next_head terms p h l (event a)) x first (act k.changed (moves_of p (λ t. true) l a) now)
      event_booked q =
          record {
            W = W₂;
            R = R₁;
            blocks = subst (λ y. Blocks terms p ok k y W₂ R₁) (sym q) after_closings;
            running =
                λ z o f.
                let f' = subst (λ y. is_forward (y (owner p z)).mode ≡ true) q f in
                elim (look (is_open p l z)) [
                  | inl w ↦ rw w (over_event (v.running z w (event_forward ω terms p ok l s z w a f')) a acc o)
                  | inr w ↦ rw w (by_call reach (event a) w o)
                ];
            books =
                ap (act k.changed (moves_of p (λ t. true) l a)) v.books
                ∙ sym (moves_last ω terms p ok k l n W R v.blocks a (λ t. true) first)
                ∙ sym (closed_whole ω terms p ok k m m_nested W₁ R₁ after_moves a closing_undone first);
          }

      pub event_keeps : Invariant (next_head terms p h l (event a)) x first (act k.changed (moves_of p (λ t. true) l a) now)
      event_keeps =
          elim (next_cases ω terms p h l (event a) acc) [ inr o ↦ inl o | inl q ↦ carry h l s (event a) first _ (event_booked q) ]

    module _ (a : Signal) (acc : refusal terms p h l (signal a) ≡ 0) where
      -- a scope that is open after a signal was open before
      signal_open : (z : ℕ) → is_open p (abandoned p (turned σ p l a)) z ≡ true → is_open p l z ≡ true
      signal_open z o =
          let (u, b, i, w) = open_find p (abandoned p (turned σ p l a)) z o in
          let (c, r) = awake_kept p ok (turned σ p l a) u w in
          open_at p l z u b i (sym (turned_awake ω p l a u) ∙ ap (λ (y : Configuration). is_awake y.mode) (sym r) ∙ w)

      signal_booked : next terms p h l (signal a) ≡ abandoned p (turned σ p l a) → Booked (next_head terms p h l (signal a)) (next terms p h l (signal a)) first now
      signal_booked q =
          record {
            W = W;
            R = R;
            blocks =
                subst (λ y. Blocks terms p ok k y W R) (sym q)
                (abandoned_blocks ω terms p ok k (turned σ p l a) (turned_nested ω p ok l n a) W R (turned_blocks ω terms p ok k l n W R v.blocks a));
            running =
                λ z o f.
                let f' = subst (λ y. is_forward (y (owner p z)).mode ≡ true) q f in
                let (c, r) = awake_kept p ok (turned σ p l a) (owner p z) (forward_awake (abandoned p (turned σ p l a) (owner p z)).mode f') in
                let (w, i) = scope_untouched ω p l a ok z (ap (λ (y : Configuration). is_forward y.mode) (sym r) ∙ f') in
                over_signal (v.running z (signal_open z (subst (λ y. is_open p y z ≡ true) q o)) w) a acc i o;
            books = v.books;
          }

      pub signal_keeps : Invariant (next_head terms p h l (signal a)) (next terms p h l (signal a)) first now
      signal_keeps =
          elim (next_cases ω terms p h l (signal a) acc) [ inr o ↦ inl o | inl q ↦ carry h l s (signal a) first now (signal_booked q) ]

    module _ (a : Firing) (acc : refusal terms p h l (fire a) ≡ 0) where
      abbrev t : ℕ
      t = track a

      may : may_fire p l t ≡ true
      may = (ω.fire_accepted terms p h l a acc).1

      -- words and runs without the newest block
      abbrev W₃ : ℕ → List Change
      W₃ = shorter ω terms p ok k l s W R v.blocks t may

      abbrev R₃ : ℕ → List Change
      R₃ z = when (is_open p l z) (R z)

      fire_booked : next terms p h l (fire a) ≡ abandoned p (fired p l t)
          → Booked (next_head terms p h l (fire a)) (next terms p h l (fire a)) first (k.retracted (retraction (newest (l t).held)) now)
      fire_booked q =
          record {
            W = W₃;
            R = R₃;
            blocks =
                subst (λ y. Blocks terms p ok k y W₃ R₃) (sym q)
                (abandoned_blocks ω terms p ok k (fired p l t) (fired_formed ω terms p ok l s t may).nested W₃ R₃
                (fired_blocks ω terms p ok k l s W R v.blocks t may));
            running =
                λ z o f.
                let f' = subst (λ y. is_forward (y (owner p z)).mode ≡ true) q f in
                elim (look (is_open p l z)) [
                  | inr w ↦ rw w (by_call reach (fire a) w o)
                  | inl w ↦ rw w (over_fire (v.running z w (fire_forward ω terms p ok l s z w t may f')) a acc o)
                ];
            books =
                ap (k.retracted (retraction (newest (l t).held))) v.books ∙ fired_books ω terms p ok k l s W R v.blocks t may first;
          }

      pub fire_keeps : Invariant (next_head terms p h l (fire a)) (next terms p h l (fire a)) first (k.retracted (retraction (newest (l t).held)) now)
      fire_keeps =
          elim (next_cases ω terms p h l (fire a) acc) [ inr o ↦ inl o | inl q ↦ carry h l s (fire a) first _ (fire_booked q) ]

  -- every accepted call keeps the invariant
  pub accepted_keeps : (h : Head) (l : Ledger) (first now : k.State) → Reached σ p terms h l → Invariant h l first now → (c : Call σ)
      → refusal terms p h l c ≡ 0 → Invariant (next_head terms p h l c) (next terms p h l c) first (booked_call σ p terms k l c now)
  unfolding booked_call
  accepted_keeps h l first now r (inl o) c z = absurd (over_refused ω terms p h l (over_is p l o) c z)
  accepted_keeps h l first now r (inr i) (event a) z = event_keeps h l first now r i.0 i.1 a z
  accepted_keeps h l first now r (inr i) (signal a) z = signal_keeps h l first now r i.0 i.1 a z
  accepted_keeps h l first now r (inr i) (fire a) z = fire_keeps h l first now r i.0 i.1 a z

  -- begin: no words, no runs
  pub begun_keeps : (b : k.State) → Invariant (first_head p) (begun p) b b
  unfolding act
  begun_keeps b =
      inr (
        begun_sound ω terms p ok,
        record {
          W = λ t. [];
          R = λ z. [];
          blocks = record { held = λ t. held t; runs = λ z o f. (all.none, λ b. ap (λ w. act k.changed w b) (sym (nil (λ t. is_inside p z t)))) };
          running = λ z o f. by_begin o;
          books = ap (λ w. act k.changed w b) (sym (join_nil (track_count p) (λ t. []) (λ t i. refl)));
        },
      )
    where
      nil : (S : ℕ → Bool) → join {C = Change} (track_count p) (λ t. when (S t) []) ≡ []
      nil S = join_nil (track_count p) (λ t. when (S t) []) (λ t i. when_nil (S t))

      held : (t : ℕ) → Held terms p ok k t (begun p t).held []
      held t =
          elim (look (is_awake (begun p t).mode)) [
            | inl a ↦ subst (λ es. Held terms p ok k t es []) (sym (ap (λ (c : Configuration). c.held) (begun_fresh terms p ok t a) ∙ fresh_held p t)) refl
            | inr a ↦
                subst (λ es. Held terms p ok k t es [])
                (sym (ap (λ (c : Configuration). c.held) ((begun_sound ω terms p ok).formed.nested.blank t a) ∙ sleeping_held)) refl
          ]

  -- where every root is withdrawn, nothing hosted is awake and no track has a word
  pub withdrawn_books : (h : Head) (l : Ledger) (first now : k.State) → Invariant h l first now → AllWithdrawn p l → now ≡ first
  unfolding is_awake act
  withdrawn_books h l first now (inl o) w =
      let z = root_zero p ok in
      let u = (w 0 ok.some_track (root_of_lem p 0 z)).undoing in
      let a : is_awake (l 0).mode ≡ true = rw u in
      clash a (ap (λ (c : Configuration). is_awake c.mode) (o 0) ∙ sleeping_asleep)
  withdrawn_books h l first now (inr i) w =
      let s = i.0 in
      let v = i.1 in
      let n = s.formed.nested in
      v.books
      ∙ ap (λ x. act k.changed x first)
      (join_nil (track_count p) v.W
      (λ t b.
      elim (look_option (host p t)) [
        | inl e ↦ subst (λ es. Held terms p ok k t es (v.W t)) (w t b (root_of_lem p t e)).empty (v.blocks.held t)
        | inr e ↦
            quiet terms p ok k l n v.W v.R v.blocks t
            (hosted_asleep p ok l n (λ r c f. (w r c (root_of_lem p r f)).shut) t e.0 e.1)
      ]))
