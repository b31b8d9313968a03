-- Self-cancelling as a corollary of the restoration theorem, where codes tell their tracks: books that keep one root's string stand, after
-- each call, as the string of the steps so far leaves them; restored, they are empty. Assumes nothing.
use mathlib.Core.Path.{◌≡◌, refl, sym, ap, ap₂, ◌∙◌, subst}
use mathlib.Core.Logic.{inl, inr}
use mathlib.Core.Bool.{Bool, true, false, cond}
use mathlib.Core.List.{List, [], ◌∷◌, ◌++◌, append_assoc}
use mathlib.Core.Option.{Option, none, some}
use Prim.Native.Nat.{ℕ, zero, suc, ◌+◌, ◌<◌, ◌≤◌}
use native.Mathlib.Omega.{arith}
use lib.Dec.{eqb}
use borrow.Author.Tests.{eqb-true, eqb-false, eq-eqb, ne_eqb}
use Rattle.rules.specs.declared.Counts.{Counts}
use Rattle.rules.specs.Names.{Day, Society}
use Rattle.rules.specs.declared.Terms.{Terms}
use Rattle.rules.specs.Day.{earliest_day}
use Rattle.rules.specs.Plan.{Plan, track_count, plan_of, optional, is_root}
use Rattle.rules.specs.Acceptance.{accepted, read_plan}
use Rattle.rules.specs.Ledger.{Ledger, ledger_at}
use Rattle.rules.specs.Opening.{begun}
use Rattle.rules.specs.Event.{EventArguments, move, moves, moved, closes_scope}
use Rattle.rules.specs.Signal.{turned}
use Rattle.rules.specs.Fire.{newest, fired}
use Rattle.rules.specs.Call.{done, Call, event, signal, fire, call_refusal, next, call_outcome, begin_outcome}
use Rattle.rules.specs.FinishedRun.{taken, moves_below, moves_of, Reached}
use Rattle.rules.specs.FinishedRun as run
use Rattle.rules.specs.Books.{act, Books}
use Rattle.rules.specs.ReferenceRun.{booked_call, booked, books_from, books_after, ledger_after, AllWithdrawn}
use Rattle.rules.proofs.Tests.{look, look_option, none-some}
use Rattle.rules.proofs.Acceptance.{Accepted, accepts}
use Rattle.restoration.proofs.Theorems01.{act_append, fire_accepted, may_fire_lem, over_refused, mover_is, Sound, Kept, over_is}
use Rattle.theory.proofs.Nesting.{Nested}
use Rattle.restoration.proofs.SoundWords.{Holds, begin_holds, call_holds, call_accepted, call_refused}
use Rattle.restoration.proofs.Restoration.{restored}
use Rattle.automaton.specs.Listing.{listed_from, listed, listed_down}
use Rattle.automaton.specs.Semantics.{FailReading, basic_alone, nested_too, Act, suc_at, fail_at, comp_at, nestsuc_at, nestcomp_at, trace}
use Rattle.automaton.specs.View.{leaves_scope, is_turning, leave_at, abandonings, deviation_step, movings, closers, turners, acts_of}
use Rattle.automaton.specs.Along.{made, acts_from, acts_after}
use Rattle.automaton.specs.SelfCancelling.{Symbol, activity, symbol, projected, left_after, left_of, onto, canc_out, Perfect, Tagged}
use Rattle.automaton.proofs.CancOut.{left_joined}
use Rattle.automaton.proofs.MovingSteps.{moves_some, some_moves, on_event}
use Rattle.automaton.proofs.StringBooks.{is_code_of, adds, takes, adds_here, takes_here, takes_other, other_code, taken_idle, string_books}
use Rattle.automaton.proofs.OwnCodes.{newest_own, reached_own}

-- The string of joined steps, and of steps that leave no symbol.
projected_joined : (A : ℕ) (v w : List Act) → projected A (v ++ w) ≡ projected A v ++ projected A w
unfolding projected
projected_joined A [] w = refl
projected_joined A (a ∷ v) w =
    ap (λ z. symbol A (trace a) ++ z) (projected_joined A v w) ∙ sym (append_assoc (symbol A (trace a)) (projected A v) (projected A w))

no_symbols : (A n i : ℕ) (f : ℕ → Bool) (g : ℕ → Act) → ((k : ℕ) → symbol A (trace (g k)) ≡ []) → projected A (listed_from n i f g) ≡ []
unfolding listed_from projected
no_symbols A zero i f g h = refl
no_symbols A (suc n) i f g h =
    elim (look (f i)) [ inl e ↦ rw (e, h i) (no_symbols A n (suc i) f g h) | inr e ↦ rw e (no_symbols A n (suc i) f g h) ]

no_symbols_down : (A n : ℕ) (f : ℕ → Bool) (g : ℕ → Act) → ((k : ℕ) → symbol A (trace (g k)) ≡ []) → projected A (listed_down n f g) ≡ []
unfolding listed_down projected
no_symbols_down A zero f g h = refl
no_symbols_down A (suc n) f g h =
    elim (look (f n)) [ inl e ↦ rw (e, h n) (no_symbols_down A n f g h) | inr e ↦ rw e (no_symbols_down A n f g h) ]

leave_symbol : (A : ℕ) (ρ : FailReading) (k : ℕ) → symbol A (trace (leave_at ρ k)) ≡ []
unfolding symbol trace leave_at
leave_symbol A basic_alone k = refl
leave_symbol A nested_too k = refl

past : (A : ℕ) (e : EventArguments) (n i : ℕ) (f : ℕ → Bool) → A < i → projected A (listed_from n i f (λ t. suc_at t e)) ≡ []
unfolding listed_from projected symbol trace
past A e zero i f b = refl
past A e (suc n) i f b =
    let ih = past A e n (suc i) f (omega arith) in
    let d : eqb i A ≡ false = ne_eqb i A (λ z. let w : i ≡ A = z in omega arith) in
    elim (look (f i)) [ inl y ↦ rw (y, d, ih) | inr y ↦ rw (y, ih) ]

-- one of the steps is A's
one_symbol : (A : ℕ) (e : EventArguments) (n i : ℕ) (f : ℕ → Bool) → i ≤ A → A < i + n → projected A (listed_from n i f (λ t. suc_at t e)) ≡ cond (f A) (activity e.event ∷ []) []
unfolding listed_from projected symbol trace
one_symbol A e zero i f b c = absurd (omega arith)
one_symbol A e (suc n) i f b c =
    elim (look (eqb i A)) [
      | inl q ↦
          let z = eqb-true i A q in
          let later = past A e n (suc i) f (let w : i ≡ A = z in omega arith) in
          ap (λ k. projected A (cond (f k) (suc_at k e ∷ listed_from n (suc i) f (λ t. suc_at t e)) (listed_from n (suc i) f (λ t. suc_at t e)))) z
          ∙ elim (look (f A)) [ inl y ↦ rw (y, eq-eqb A A refl, later) | inr y ↦ rw (y, later) ]
      | inr q ↦
          let d = eqb-false i A q in
          let ih = one_symbol A e n (suc i) f (omega arith) (omega arith) in
          elim (look (f i)) [ inl y ↦ rw (y, q, ih) | inr y ↦ rw (y, ih) ]
    ]

module _ (terms : Terms) (p : Plan) (ρ : FailReading) (ok : Accepted p) (comp : ℕ → ℕ) (perfect : Perfect comp p) (tagged : Tagged p)
    (A : ℕ) (low : A < track_count p) (root : is_root p A ≡ true) (bs : List ℕ) where
  abbrev books : Books p terms
  books = string_books p ok comp perfect tagged A root terms

  abbrev add : ℕ → List Symbol → List Symbol
  add = adds p ok comp perfect tagged A root terms

  -- what an event adds
  added : Ledger → EventArguments → List Symbol → List Symbol
  added l e v = cond (moves p l e A) (left_after comp v (activity e.event)) v

  module _ (l : Ledger) (n : Nested p l) (e : EventArguments) where
    at_root : (v : List Symbol) → act add (taken (move p l e A)) v ≡ added l e v
    unfolding act taken added
    at_root v =
        elim (look_option (move p l e A)) [
          | inl q ↦ rw (q, taken, moves_not q)
          | inr q ↦
              rw (q.1, taken, some_moves p l e A q.0 q.1)
              (adds_here p ok comp perfect tagged A root terms q.0 v (mover_is p l e ok n A q.0 q.1)
              ∙ ap (λ i. left_after comp v (activity i)) (on_event p l e A q.0 q.1))
        ]
      where
        moves_not : move p l e A ≡ none → moves p l e A ≡ false
        moves_not q =
            elim (look (moves p l e A)) [
              | inr h ↦ h
              | inl h ↦ let (x, k) = moves_some p l e A h in none-some q k
            ]

    before_root : (m : ℕ) → m ≤ A → (v : List Symbol) → act add (moves_below p m (λ t. true) l e) v ≡ v
    unfolding act moves_below
    before_root zero b v = refl
    before_root (suc m) b v =
        act_append add (moves_below p m (λ t. true) l e) (taken (move p l e m)) v
        ∙ ap (act add (taken (move p l e m))) (before_root m (omega arith) v)
        ∙ taken_idle p ok comp perfect tagged A root terms l n e m (λ z. let w : m ≡ A = z in omega arith) v

    past_root : (m : ℕ) → A < m → (v : List Symbol) → act add (moves_below p m (λ t. true) l e) v ≡ added l e v
    unfolding moves_below
    past_root zero b v = absurd (omega arith)
    past_root (suc m) b v =
        act_append add (moves_below p m (λ t. true) l e) (taken (move p l e m)) v
        ∙ elim (look (eqb m A)) [
          | inl q ↦
              let z = eqb-true m A q in
              ap (act add (taken (move p l e m))) (before_root m (let w : m ≡ A = z in omega arith) v)
              ∙ ap (λ t. act add (taken (move p l e t)) v) z ∙ at_root v
          | inr q ↦
              let d = eqb-false m A q in
              ap (act add (taken (move p l e m))) (past_root m (omega arith) v)
              ∙ taken_idle p ok comp perfect tagged A root terms l n e m d (added l e v)
        ]

    -- an event: the books' changes are the string's
    event_string : (v : List Symbol) → act add (moves_of p (λ t. true) l e) v ≡ left_of comp v (projected A (movings p l e ++ closers p (moved p l e)))
    unfolding moves_of movings closers listed
    event_string v =
        past_root (track_count p) low v
        ∙ sym (ap (left_of comp v)
        (projected_joined A (listed (track_count p) (moves p l e) (λ t. suc_at t e)) (listed (track_count p) (closes_scope p (moved p l e)) nestsuc_at)
        ∙ ap₂ (λ x y. x ++ y) (one_symbol A e (track_count p) 0 (moves p l e) (omega arith) (omega arith))
        (no_symbols A (track_count p) 0 (closes_scope p (moved p l e)) nestsuc_at (λ k. unfold symbol trace in refl)))
        ∙ one_left v)
      where
        one_left : (v : List Symbol) → left_of comp v (cond (moves p l e A) (activity e.event ∷ []) [] ++ []) ≡ added l e v
        one_left v = unfold left_of added in elim (look (moves p l e A)) [ inl h ↦ rw h | inr h ↦ rw h ]

  no_turns : (society : Society) (l : Ledger) → projected A (turners p ρ society l ++ abandonings p ρ (turned p society l)) ≡ []
  unfolding turners abandonings
  no_turns society l =
      projected_joined A (listed_down (track_count p) (is_turning p ρ society l) fail_at) (listed_down (track_count p) (leaves_scope p (turned p society l)) (leave_at ρ))
      ∙ ap₂ (λ x y. x ++ y) (no_symbols_down A (track_count p) (is_turning p ρ society l) fail_at (λ k. unfold symbol trace in refl))
      (no_symbols_down A (track_count p) (leaves_scope p (turned p society l)) (leave_at ρ) (leave_symbol A ρ))

  no_deviation : (l : Ledger) (t : ℕ) (o : Option ℕ) → projected A (deviation_step t o ++ abandonings p ρ l) ≡ []
  unfolding deviation_step abandonings projected symbol trace
  no_deviation l t none = no_symbols_down A (track_count p) (leaves_scope p l) (leave_at ρ) (leave_symbol A ρ)
  no_deviation l t (some d) = no_symbols_down A (track_count p) (leaves_scope p l) (leave_at ρ) (leave_symbol A ρ)

  -- a firing: the code is of the track fired
  fire_string : (l m : Ledger) (t c : ℕ) (o : Option ℕ) → is_code_of p t c ≡ true → (v : List Symbol)
      → takes p ok comp perfect tagged A root terms c v ≡ left_of comp v (projected A (comp_at t c ∷ nestcomp_at t ∷ (deviation_step t o ++ abandonings p ρ m)))
  unfolding projected symbol trace left_of
  fire_string l m t c o h v =
      elim (look (eqb t A)) [
        | inl q ↦
            rw (q, no_deviation m t o)
            (takes_here p ok comp perfect tagged A root terms c v (subst (λ x. is_code_of p x c ≡ true) (eqb-true t A q) h))
        | inr q ↦
            rw (q, no_deviation m t o)
            (takes_other p ok comp perfect tagged A root terms c v (other_code p ok comp perfect tagged A root terms t c h (eqb-false t A q)))
      ]

  call_string : (d : Day) (l : Ledger) → Reached p terms d l → Sound terms p l → (c : Call) → call_refusal terms p d l c ≡ 0 → (v : List Symbol)
      → booked_call terms bs p books l c v ≡ left_of comp v (projected A (acts_of p ρ l c))
  unfolding booked_call acts_of
  call_string d l r s (event a) h v = event_string l s.formed.nested a v
  call_string d l r s (signal a) h v = sym (ap (left_of comp v) (no_turns a.society l) ∙ (unfold left_of in refl))
  call_string d l r s (fire a) h v =
      let t = a.track in
      let (b, u, e, f) = may_fire_lem terms p l t (fire_accepted terms p d l a h).1 in
      fire_string l (fired p l t) t (newest (l t).held).code (optional (newest (l t).held).deviation)
      (newest_own p t (l t).held (reached_own p ok comp perfect terms r t) e) v

module _ (ρ : FailReading) (terms : Terms) (bs : List ℕ) (k : Counts) (read : read_plan bs ≡ accepted k) where
  abbrev p : Plan
  p = plan_of bs k

  ok : Accepted p
  ok = accepts bs k read

  abbrev led : List ℕ → Ledger
  led ws = ledger_at terms ws (track_count p)

  module _ (comp : ℕ → ℕ) (perfect : Perfect comp p) (tagged : Tagged p) (A : ℕ) (low : A < track_count p) (root : is_root p A ≡ true) where
    abbrev the_books : Books p terms
    the_books = string_books p ok comp perfect tagged A root terms

    one_call : (c : Call) (ws : List ℕ) (d : Day) (l : Ledger) → Holds terms bs k read ws d l → Reached p terms d l → (v : List Symbol)
        → booked terms bs p the_books (led ws) c (call_outcome terms bs ws c).answer v
        ≡ left_of comp v (projected A (made (call_outcome terms bs ws c).answer (acts_of p ρ (led ws) c)))
    unfolding booked made
    one_call c ws d l h r v = go h.kept (call_refusal terms p d l c) refl
      where
        go : Kept terms p l → (x : ℕ) → call_refusal terms p d l c ≡ x
            → booked terms bs p the_books (led ws) c (call_outcome terms bs ws c).answer v
            ≡ left_of comp v (projected A (made (call_outcome terms bs ws c).answer (acts_of p ρ (led ws) c)))
        go (inl o) zero e = absurd (over_refused terms p d l (over_is p l o) c e)
        go (inr s) zero e =
            rw (call_accepted terms bs k read ws d l h c e, h.reads)
            (call_string terms p ρ ok comp perfect tagged A low root bs d l r s c e v)
        go w (suc x) e = rw (call_refused terms bs k read ws d l h c x e) (unfold projected left_of in refl)

    -- the books along a list stand as the string of its steps leaves them
    along : (cs : List Call) (ws : List ℕ) (d : Day) (l : Ledger) → Holds terms bs k read ws d l → Reached p terms d l → (v : List Symbol)
        → books_from terms bs p the_books ws cs v ≡ left_of comp v (projected A (acts_from terms bs p ρ ws cs))
    unfolding books_from acts_from
    along [] ws d l h r v = unfold projected left_of in refl
    along (c ∷ cs) ws d l h r v =
        let words = (call_outcome terms bs ws c).words in
        let here = made (call_outcome terms bs ws c).answer (acts_of p ρ (led ws) c) in
        let rest = acts_from terms bs p ρ words cs in
        along cs words _ (next terms p d l c) (call_holds terms bs k read ws d l h c) (run.then r c)
        (booked terms bs p the_books (led ws) c (call_outcome terms bs ws c).answer v)
        ∙ ap (λ z. left_of comp z (projected A rest)) (one_call c ws d l h r v)
        ∙ sym (left_joined comp v (projected A here) (projected A rest))
        ∙ ap (left_of comp v) (sym (projected_joined A here rest))

    -- Corollary 1 of lists of calls, from "her books stand exactly as at that begin"
    pub restored_cancel : (lent : List ℕ) (cs : List Call) → (begin_outcome terms bs lent).answer ≡ done []
        → AllWithdrawn p (ledger_after terms bs p lent cs) → canc_out comp (projected A (acts_after terms bs p ρ lent cs)) ≡ []
    unfolding canc_out onto acts_after books_after
    restored_cancel lent cs h w =
        let words = (begin_outcome terms bs lent).words in
        let e : left_of comp [] (projected A (acts_from terms bs p ρ words cs)) ≡ [] =
        sym (along cs words earliest_day (begun p) (begin_holds terms bs k read lent h) run.start []) ∙ restored terms bs k read the_books lent cs h [] w in
        rw e
