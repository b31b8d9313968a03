-- Books that keep one root's string: its transitions add their activities, its codes their actions, a pair cancelling out; no other track
-- changes them. They meet property 3's conditions where codes are perfect and tell their tracks. Assumes nothing.
use mathlib.Core.Path.{◌≡◌, refl, sym, ap, ◌∙◌, subst}
use mathlib.Core.Logic.{inl, inr}
use mathlib.Core.Bool.{Bool, true, false, cond, ◌&&◌}
use mathlib.Core.List.{List, [], ◌∷◌}
use Prim.Native.Nat.{ℕ, zero, suc, ◌<◌}
use lib.Dec.{eqb}
use borrow.Author.Tests.{eqb-true, eqb-false, eq-eqb, ne_eqb}
use Rattle.rules.specs.Names.{Day}
use Rattle.rules.specs.declared.Terms.{Terms}
use Rattle.rules.specs.Fold.{some_below}
use Rattle.rules.specs.Plan.{Plan, owner, track_count, transition_count, transition, mover, is_root, is_inside}
use Rattle.rules.specs.Ledger.{Ledger}
use Rattle.rules.specs.Event.{EventArguments, move}
use Rattle.rules.specs.Call.{event}
use Rattle.rules.specs.FinishedRun.{taken, moves_below, moves_of, Running, by_begin, by_call, over_event, over_signal, over_fire, Finished}
use Rattle.rules.specs.FinishedRun as run
use Rattle.rules.specs.Books.{act, Apart, Deed, change, retraction, replacing, does, Books}
use Rattle.rules.proofs.Tests.{look, look_option, clash, refuted, and_holds, and_both}
use Rattle.rules.proofs.Folds.{some_at, some_find}
use Rattle.rules.proofs.Acceptance.{Accepted}
use Rattle.rules.proofs.Forest.{inside_root}
use Rattle.rules.proofs.Scopes.{root_none}
use Rattle.restoration.proofs.Theorems01.{act_append, over_refused, mover_is, Over, Kept, over_is, reached_kept, running_reached}
use Rattle.theory.proofs.Nesting.{Nested}
use Rattle.automaton.specs.SelfCancelling.{Symbol, activity, action, left_after, Perfect, Tagged}
use Rattle.automaton.proofs.CancOut.{left_activity, left_action}

module _ (p : Plan) where
  -- a code that a transition of the track installs
  unfoldable pub is_code_of : ℕ → ℕ → Bool
  is_code_of t c = some_below (transition_count p) (λ x. eqb (mover p x) t && eqb (transition p x).code c)

  pub code_of : (t x : ℕ) → x < transition_count p → mover p x ≡ t → is_code_of t (transition p x).code ≡ true
  unfolding is_code_of
  code_of t x b e =
      some_at (transition_count p) (λ y. eqb (mover p y) t && eqb (transition p y).code (transition p x).code) x b
      (and_both (eqb (mover p x) t) (eqb (transition p x).code (transition p x).code) (eq-eqb (mover p x) t e) (eq-eqb (transition p x).code (transition p x).code refl))

  pub code_find : (t c : ℕ) → is_code_of t c ≡ true → (x : ℕ) × (x < transition_count p) × (mover p x ≡ t) × ((transition p x).code ≡ c)
  unfolding is_code_of
  code_find t c h =
      let (x, b, q) = some_find (transition_count p) (λ x. eqb (mover p x) t && eqb (transition p x).code c) h in
      let (u, v) = and_holds (eqb (mover p x) t) (eqb (transition p x).code c) q in
      (x, b, eqb-true (mover p x) t u, eqb-true (transition p x).code c v)

  module _ (ok : Accepted p) (comp : ℕ → ℕ) (perfect : Perfect comp p) (tagged : Tagged p) (A : ℕ) (root : is_root p A ≡ true) (terms : Terms) where
    unfoldable pub adds : ℕ → List Symbol → List Symbol
    adds x v = cond (eqb (mover p x) A) (left_after comp v (activity (transition p x).event)) v

    unfoldable pub takes : ℕ → List Symbol → List Symbol
    takes c v = cond (is_code_of A c) (left_after comp v (action c)) v

    pub adds_here : (x : ℕ) (v : List Symbol) → mover p x ≡ A → adds x v ≡ left_after comp v (activity (transition p x).event)
    unfolding adds
    adds_here x v e = rw (eq-eqb (mover p x) A e)

    pub adds_other : (x : ℕ) (v : List Symbol) → (mover p x ≡ A → ⊥) → adds x v ≡ v
    unfolding adds
    adds_other x v d = rw (ne_eqb (mover p x) A d)

    pub takes_here : (c : ℕ) (v : List Symbol) → is_code_of A c ≡ true → takes c v ≡ left_after comp v (action c)
    unfolding takes
    takes_here c v e = rw e

    pub takes_other : (c : ℕ) (v : List Symbol) → is_code_of A c ≡ false → takes c v ≡ v
    unfolding takes
    takes_other c v e = rw e

    -- a code of another track is none of A's
    pub other_code : (t c : ℕ) → is_code_of t c ≡ true → (t ≡ A → ⊥) → is_code_of A c ≡ false
    other_code t c h d =
        refuted (is_code_of A c)
        (λ k.
        let (x, b, e, q) = code_find t c h in
        let (y, a, f, r) = code_find A c k in
        d (sym e ∙ tagged.track x y b a (q ∙ sym r) ∙ f))

    pub no_code : (v : List Symbol) → takes 0 v ≡ v
    no_code v =
        takes_other 0 v
        (refuted (is_code_of A 0) (λ k. let (x, b, e, q) = code_find A 0 k in (perfect A).non_empty (transition p x).event (sym ((perfect (mover p x)).codes x b refl) ∙ q)))

    pub undone : (x : ℕ) → x < transition_count p → (v : List Symbol) → takes (transition p x).code (adds x v) ≡ v
    undone x b v =
        elim (look (eqb (mover p x) A)) [
          | inl h ↦
              let e = eqb-true (mover p x) A h in
              let i = (transition p x).event in
              ap (takes (transition p x).code) (adds_here x v e ∙ left_activity comp v i)
              ∙ takes_here (transition p x).code (activity i ∷ v) (code_of A x b e)
              ∙ ap (λ c. left_after comp (activity i ∷ v) (action c)) ((perfect (mover p x)).codes x b refl)
              ∙ left_action comp v i
          | inr h ↦
              let d = eqb-false (mover p x) A h in
              ap (takes (transition p x).code) (adds_other x v d)
              ∙ takes_other (transition p x).code v (other_code (mover p x) (transition p x).code (code_of (mover p x) x b refl) d)
        ]

    -- what another track does changes nothing
    idle : (t : ℕ) → (t ≡ A → ⊥) → (d : Deed p t) (v : List Symbol) → does p adds takes d v ≡ v
    unfolding does
    idle t n (change x b) v = adds_other x v n
    idle t n (retraction x b) v = takes_other (transition p x).code v (other_code (mover p x) (transition p x).code (code_of (mover p x) x b refl) n)
    idle t n (replacing s u h) v = ap (λ c. takes c v) ((perfect (owner p s)).replacements s refl) ∙ no_code v

    pub commutes : (t u : ℕ) → Apart p t u → (d : Deed p t) (e : Deed p u) (v : List Symbol)
        → does p adds takes d (does p adds takes e v) ≡ does p adds takes e (does p adds takes d v)
    commutes t u a d e v =
        elim (look (eqb t A)) [
          | inr h ↦
              let n = eqb-false t A h in
              idle t n d (does p adds takes e v) ∙ sym (ap (does p adds takes e) (idle t n d v))
          | inl h ↦
              let n : u ≡ A → ⊥ = λ q. a.two (eqb-true t A h ∙ sym q) in
              ap (does p adds takes d) (idle u n e v) ∙ sym (idle u n e (does p adds takes d v))
        ]

    -- A is inside no scope, so the moves inside one change nothing
    not_inside : (s t : ℕ) → is_inside p s t ≡ true → t ≡ A → ⊥
    not_inside s t i e = clash (subst (λ x. is_inside p s x ≡ true) e i) (inside_root p ok s A (root_none p A root))

    pub taken_idle : (l : Ledger) → Nested p l → (e : EventArguments) (t : ℕ) → (t ≡ A → ⊥) → (v : List Symbol) → act adds (taken (move p l e t)) v ≡ v
    unfolding act taken
    taken_idle l n e t d v =
        elim (look_option (move p l e t)) [
          | inl q ↦ rw (q, taken)
          | inr q ↦ rw (q.1, taken) (adds_other q.0 v (λ z. d (sym (mover_is p l e ok n t q.0 q.1) ∙ z)))
        ]

    inside_idle : (l : Ledger) → Nested p l → (s : ℕ) (e : EventArguments) (n : ℕ) (v : List Symbol) → act adds (moves_below p n (is_inside p s) l e) v ≡ v
    unfolding act moves_below
    inside_idle l k s e zero v = refl
    inside_idle l k s e (suc n) v =
        act_append adds (moves_below p n (is_inside p s) l e) (cond (is_inside p s n) (taken (move p l e n)) []) v
        ∙ ap (act adds (cond (is_inside p s n) (taken (move p l e n)) [])) (inside_idle l k s e n v)
        ∙ elim (look (is_inside p s n)) [ inl h ↦ rw h (taken_idle l k e n (not_inside s n h) v) | inr h ↦ rw h ]

    scope_idle : (l : Ledger) → Kept terms p l → (s : ℕ) (e : EventArguments) → (Over l → ⊥) → (v : List Symbol)
        → act adds (moves_of p (is_inside p s) l e) v ≡ v
    unfolding moves_of
    scope_idle l (inl o) s e w v = absurd (w o)
    scope_idle l (inr k) s e w v = inside_idle l k.formed.nested s e (track_count p) v

    run_idle : (s : ℕ) {d : Day} {l : Ledger} {w : List ℕ} → Running p terms s d l w → (v : List Symbol) → act adds w v ≡ v
    unfolding act
    run_idle s (by_begin o) v = refl
    run_idle s (by_call r c f o) v = refl
    run_idle s (over_event {d = d} {l = l} {w = w} r a h o) v =
        act_append adds w (moves_of p (is_inside p s) l a) v
        ∙ ap (act adds (moves_of p (is_inside p s) l a)) (run_idle s r v)
        ∙ scope_idle l (reached_kept terms p ok (running_reached terms p ok r)) s a (λ z. over_refused terms p d l (over_is p l z) (event a) h) v
    run_idle s (over_signal r a h f o) v = run_idle s r v
    run_idle s (over_fire r a h o) v = run_idle s r v

    pub finished_idle : (s : ℕ) (w : List ℕ) → Finished p terms s w → (v : List Symbol) → act adds w v ≡ v
    finished_idle s w₀ (run.closed {d = d} {l = l} {w = w} r a h c) v =
        act_append adds w (moves_of p (is_inside p s) l a) v
        ∙ ap (act adds (moves_of p (is_inside p s) l a)) (run_idle s r v)
        ∙ scope_idle l (reached_kept terms p ok (running_reached terms p ok r)) s a (λ z. over_refused terms p d l (over_is p l z) (event a) h) v

    abbrev pub string_books : Books p terms
    string_books =
        record {
          State = List Symbol;
          changed = adds;
          retracted = takes;
          nothing = no_code;
          undo = undone;
          undo_run = λ s t h w f v. ap (λ c. takes c (act adds w v)) ((perfect (owner p s)).replacements s refl) ∙ no_code (act adds w v) ∙ finished_idle s w f v;
          commute = commutes;
        }
