-- Runs and books over the seams, as the rules say them of document 01: the ledgers that lists of calls reach, the finished runs of a scope,
-- the books with their conditions, the reference run of the books. A change is named by its label, a retraction by what its entry keeps, and
-- a finished run goes with the event that closed it. Assumes nothing.
use Rattle.std.specs.Prelude.{◌≡◌, Bool, true, false, cond, not, ◌&&◌, List, [], ◌∷◌, ◌++◌, ℕ, ◌+◌, ◌<◌, eqb}
use Rattle.std.proofs.Math.Option.{some}
use Rattle.rules.specs.Plan.{Plan, no_state, transition_count, transition, host, replacement, mover, is_inside}
use Rattle.rules.specs.Ledger.{Ledger, is_forward}
use Rattle.rules.specs.Opening.{begun}
use Rattle.rules.specs.Scope.{is_open}
use Rattle.rules.specs.Event.{is_closing}
use Rattle.rules.specs.Fire.{newest}
use Rattle.rules.specs.Books.{Apart}
use Rattle.theory.specs.Seams.{Seams, Call, event, signal, fire, is_event, firings_of}
use Rattle.rules.specs.declared.Terms.{Terms}

-- changes done one after the other
unfoldable pub act : {C B : Type 0} → (C → B → B) → List C → B → B
act changed [] b = b
act changed (x ∷ w) b = act changed w (changed x b)

module _ (σ : Seams) (p : Plan) where
  open σ use {Event, Signal, Firing, track, moved, entry, Change, change, moves_of, Retraction, retraction, is_turned, Head, first_head, next_head, refusal, next}

  module _ (terms : Terms) where
    -- the ledgers that lists of calls reach from a begin, each with what its leading words hold
    pub data Reached : Head → Ledger → Type 0 where
      start : Reached (first_head p) (begun p)
      then : {h : Head} {l : Ledger} → Reached h l → (c : Call σ) → Reached (next_head terms p h l c) (next terms p h l c)

    -- the scope of s is open on a ledger, and these are the changes inside it since it opened; a signal that turns none of its tracks ends
    -- no run
    pub data Running (s : ℕ) : Head → Ledger → List Change → Type 0 where
      by_begin : is_open p (begun p) s ≡ true → Running s (first_head p) (begun p) []
      by_call : {h : Head} {l : Ledger} → Reached h l → (c : Call σ) → is_open p l s ≡ false → is_open p (next terms p h l c) s ≡ true
          → Running s (next_head terms p h l c) (next terms p h l c) []
      over_event : {h : Head} {l : Ledger} {w : List Change} → Running s h l w → (a : Event) → refusal terms p h l (event a) ≡ 0
          → is_open p (next terms p h l (event a)) s ≡ true
          → Running s (next_head terms p h l (event a)) (next terms p h l (event a)) (w ++ moves_of p (is_inside p s) l a)
      over_signal : {h : Head} {l : Ledger} {w : List Change} → Running s h l w → (a : Signal) → refusal terms p h l (signal a) ≡ 0
          → ((t : ℕ) → is_inside p s t ≡ true → is_turned p a t ≡ true → is_forward (l t).mode ≡ false)
          → is_open p (next terms p h l (signal a)) s ≡ true
          → Running s (next_head terms p h l (signal a)) (next terms p h l (signal a)) w
      over_fire : {h : Head} {l : Ledger} {w : List Change} → Running s h l w → (a : Firing) → refusal terms p h l (fire a) ≡ 0
          → is_open p (next terms p h l (fire a)) s ≡ true
          → Running s (next_head terms p h l (fire a)) (next terms p h l (fire a)) w

    -- a run to its closing, by this event
    pub data Finished (s : ℕ) : Event → List Change → Type 0 where
      closed : {h : Head} {l : Ledger} {w : List Change} → Running s h l w → (a : Event) → refusal terms p h l (event a) ≡ 0
          → is_closing p (moved p l a) s ≡ true
          → Finished s a (w ++ moves_of p (is_inside p s) l a)

  -- what the retraction of a transition and of a replacement are, installed on an event
  abbrev pub retraction_of : Event → ℕ → Retraction
  retraction_of a x = retraction (entry a (transition p x).code (transition p x).deviation)

  abbrev pub replacement_of : Event → ℕ → Retraction
  replacement_of a s = retraction (entry a (replacement p s) no_state)

  pub record Books (terms : Terms) : Type 1 where
    pub State : Type 0
    pub changed : Change → State → State
    pub retracted : Retraction → State → State
    -- "code 0 changing none"
    pub nothing : (a : Event) (d : ℕ) (b : State) → retracted (retraction (entry a 0 d)) b ≡ b
    -- each transition's code undoes its change, both on one event
    pub undo : (a : Event) (x : ℕ) → x < transition_count p → (b : State) → retracted (retraction_of a x) (changed (change a x) b) ≡ b
    -- each hosting state's replacement undoes every finished run, on the event that closed it
    pub undo_run : (s t : ℕ) → host p t ≡ some s → (a : Event) (w : List Change) → Finished terms s a w
        → (b : State) → retracted (replacement_of a s) (act changed w b) ≡ b
    -- changes of two tracks commute where neither hosts the other, at any remove, on any two events. Of retractions nothing is asked
    pub commute : (a c : Event) (x y : ℕ) → x < transition_count p → y < transition_count p → Apart p (mover p x) (mover p y)
        → (b : State) → changed (change a x) (changed (change c y) b) ≡ changed (change c y) (changed (change a x) b)

  -- the ledger after a list of calls
  unfoldable pub ledger_from : Terms → Head → Ledger → List (Call σ) → Ledger
  ledger_from terms h l [] = l
  ledger_from terms h l (c ∷ cs) = ledger_from terms (next_head terms p h l c) (next terms p h l c) cs

  -- The reference run's books: what an accepted call does to them, a refused one does nothing, and a list.
  module _ (terms : Terms) (k : Books terms) where
    unfoldable pub booked_call : Ledger → Call σ → k.State → k.State
    booked_call l (event a) b = act k.changed (moves_of p (λ t. true) l a) b
    booked_call l (signal a) b = b
    booked_call l (fire a) b = k.retracted (retraction (newest (l (track a)).held)) b

    unfoldable pub booked : Head → Ledger → Call σ → k.State → k.State
    booked h l c b = cond (eqb (refusal terms p h l c) 0) (booked_call l c b) b

    unfoldable pub books_from : Head → Ledger → List (Call σ) → k.State → k.State
    books_from h l [] b = b
    books_from h l (c ∷ cs) b = books_from (next_head terms p h l c) (next terms p h l c) cs (booked h l c b)

  -- the firings among the accepted calls of a list, and the lists without an accepted event
  module _ (terms : Terms) where
    unfoldable pub firings_from : Head → Ledger → List (Call σ) → ℕ
    firings_from h l [] = 0
    firings_from h l (c ∷ cs) =
        cond (eqb (refusal terms p h l c) 0) (firings_of c) 0 + firings_from (next_head terms p h l c) (next terms p h l c) cs

    unfoldable pub is_eventless : Head → Ledger → List (Call σ) → Bool
    is_eventless h l [] = true
    is_eventless h l (c ∷ cs) =
        not (eqb (refusal terms p h l c) 0 && is_event c) && is_eventless (next_head terms p h l c) (next terms p h l c) cs
