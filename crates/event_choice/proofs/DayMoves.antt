-- The moves of a day: what is taken on any day is taken on this one unless a window shuts it, and the marks say which are shut.
-- Assumes nothing.
use Rattle.std.proofs.Common.{◌≡◌, refl, sym, ap, ◌∙◌, subst, inl, inr, Bool, true, false, cond, not, ◌&&◌, ◌||◌, List, ℕ, zero, suc, ◌+◌, ◌<◌, arith, eqb, length, get_or, set, replicate, length-set, get_or-set_same, get_or-set_other, eqb-true}
use Rattle.std.proofs.Math.Bool.{and-false, or-false}
use Rattle.std.proofs.Math.Option.{Option, none, some}
use Rattle.std.proofs.Math.ListN.{length-replicate, get_or-replicate}
use borrow.Author.Tests.{eqb-false, not-true, not-false}
use Rattle.rules.specs.Names.{Day}
use Rattle.rules.specs.declared.Counts.{Counts}
use Rattle.rules.specs.Fold.{some_below, every_below}
use Rattle.rules.specs.Plan.{Plan, plan_of, no_state, optional, window_count, window, is_within, may_take, taken_on, transition_for}
use Rattle.rules.specs.Rights.{move_right, is_permitted}
use Rattle.rules.specs.Ledger.{Ledger, is_forward}
use Rattle.rules.specs.Scope.{has_open_scope}
use Rattle.rules.specs.Event.{EventArguments, move}
use Rattle.rules.proofs.Tests.{look, or_right, none-some}
use Rattle.rules.proofs.Folds.{some_more}
use Rattle.rules.proofs.Acceptance.{transition_for_lem}
use Rattle.rules.proofs.Moves.{move_permitted}
use Rattle.plan.specs.Passes.{slots}
use Rattle.plan.proofs.FieldLaws.{transition_count_lem, window_count_lem}
use Rattle.ledger.specs.Ladder.{Accepts}
use Rattle.lookup.specs.Figures.{Figures, Numbers}
use Rattle.lookup.proofs.Facts.{plan_facts}
use Rattle.event_choice.specs.Next.{InRange, Shut, any_day_move, moves_of}
use Rattle.event_choice.proofs.Visits.{word_none, word_some, moves_at}

-- a day's move is the one of any day, unless it is shut, and a society's the one of any, where it has the right
pub move_on : (p : Plan) (l : Ledger) (a : EventArguments) (t : ℕ)
    → move p l a t ≡ cond (is_permitted p move_right a.society t) (taken_on p a.day (any_day_move p l a.event t)) none
unfolding any_day_move taken_on
move_on p l a t =
    move_permitted p l a t
    ∙ ap (λ o. cond (is_permitted p move_right a.society t) o none)
    (elim (look (is_forward (l t).mode && not (has_open_scope p l t))) [ inl q ↦ rw q | inr q ↦ rw (q, taken_on) ])

module _ (p : Plan) (day : Day) where
  abbrev shuts : ℕ → ℕ → Bool
  shuts x w = eqb (window p w).transition x && not (is_within (window p w) day)

  -- no mark, no window met
  pub shut_none : Shut p day 0 (replicate 256 false)
  unfolding some_below
  shut_none = record { size = length-replicate 256 false; at = λ x b. get_or-replicate 256 x false false b }

  module _ (w : ℕ) {ms : List Bool} (m : Shut p day w ms) {q : Bool} (e : q ≡ is_within (window p w) day) where
    -- a window that has the day shuts nothing
    pub shut_within : not q ≡ false → Shut p day (w + 1) ms
    shut_within h =
        record {
          size = m.size;
          at = λ x b.
              let z : shuts x w ≡ false = rw (sym e ∙ not-false q h) (and-false (eqb (window p w).transition x)) in
              m.at x b ∙ sym (some_more w (shuts x) ∙ ap (λ k. some_below w (shuts x) || k) z ∙ or-false (some_below w (shuts x)));
        }

    -- another shuts its transition
    pub shut_outside : not q ≡ true → {x : ℕ} → x ≡ (window p w).transition → x < 256 → Shut p day (w + 1) (set ms x true)
    shut_outside h {x} f l =
        record {
          size = length-set ms x true ∙ m.size;
          at = λ y b.
              elim (look (eqb (window p w).transition y)) [
                | inl k ↦
                    let i : y ≡ x = sym (eqb-true _ _ k) ∙ sym f in
                    let z : shuts y w ≡ true = rw (k, sym e ∙ not-true q h) in
                    ap (λ (v : ℕ). get_or (set ms x true) v false) i ∙ get_or-set_same ms x true false (omega (arith, m.size))
                    ∙ sym (some_more w (shuts y) ∙ or_right (some_below w (shuts y)) (shuts y w) z)
                | inr k ↦
                    let z : shuts y w ≡ false = rw k in
                    get_or-set_other ms x y true false (λ i. eqb-false _ _ k (sym f ∙ sym i)) ∙ m.at y b
                    ∙ sym (some_more w (shuts y) ∙ ap (λ k. some_below w (shuts y) || k) z ∙ or-false (some_below w (shuts y)))
              ];
        }

  -- a transition may be taken exactly if no window shuts it
  unshut : (n x : ℕ) → every_below n (λ w. not (eqb (window p w).transition x) || is_within (window p w) day) ≡ not (some_below n (shuts x))
  unfolding every_below some_below
  unshut zero x = refl
  unshut (suc n) x = rw (unshut n x) (both (some_below n (shuts x)) (eqb (window p n).transition x) (is_within (window p n) day))
    where
      both : (s a b : Bool) → (not s && (not a || b)) ≡ not (s || (a && not b))
      both true a b = refl
      both false true true = refl
      both false true false = refl
      both false false b = refl

  pub may_take_marks : {n : ℕ} {ms : List Bool} → Shut p day n ms → n ≡ window_count p → (x : ℕ) → x < 256 → may_take p day x ≡ not (get_or ms x false)
  unfolding may_take
  may_take_marks m e x b = unshut (window_count p) x ∙ sym (ap not (m.at x b ∙ ap (λ k. some_below k (shuts x)) e))

  -- without windows every transition may be taken
  pub on_any : window_count p ≡ 0 → (o : Option ℕ) → taken_on p day o ≡ o
  unfolding taken_on may_take every_below
  on_any e none = refl
  on_any e (some x) = rw e

  -- a word that names a transition, or none, by its mark
  module _ {x : ℕ} where
    pub on_none : x ≡ no_state → optional no_state ≡ taken_on p day (optional x)
    unfolding taken_on
    on_none e = word_none refl ∙ sym (rw (word_none e, taken_on))

    module _ (named : x ≡ no_state → ⊥) {n : ℕ} {ms : List Bool} (m : Shut p day n ms) (all : n ≡ window_count p) (b : x < 256) where
      pub on_shut : get_or ms x false ≡ true → optional no_state ≡ taken_on p day (optional x)
      unfolding taken_on
      on_shut h = word_none refl ∙ sym (rw (word_some named, taken_on, may_take_marks m all x b, h))

      pub on_left : get_or ms x false ≡ false → optional x ≡ taken_on p day (optional x)
      unfolding taken_on
      on_left h = sym (rw (word_some named, taken_on, may_take_marks m all x b, h))

-- what is taken on any day is a transition of the plan
any_taken : (p : Plan) (l : Ledger) (e t x : ℕ) → any_day_move p l e t ≡ some x → transition_for p (l t).state e ≡ some x
unfolding any_day_move
any_taken p l e t x h =
    elim (look (is_forward (l t).mode && not (has_open_scope p l t))) [
      | inl q ↦ rw q at h
      | inr q ↦ let z : none ≡ some x = rw q at h in none-some refl z
    ]

pub any_range : (bs : List ℕ) (c : Counts) (l : Ledger) (e : ℕ) {ts : List ℕ} → Numbers ts c.tracks (any_day_move (plan_of bs c) l e) → InRange c ts
any_range bs c l e {ts} took =
    record {
      low = λ t b n.
          let (d, s, v) = transition_for_lem (plan_of bs c) (l t).state e (get_or ts t 0) (any_taken (plan_of bs c) l e t (get_or ts t 0) (sym (took.at t b) ∙ word_some n)) in
          omega (arith, transition_count_lem bs c);
    }

-- the moves of the day and the society
pub day_moves : (p : Plan) (l : Ledger) (a : EventArguments) (n : ℕ) {any all taken : List ℕ} → Numbers any n (any_day_move p l a.event)
    → Numbers all n (λ t. taken_on p a.day (moves_of any n t))
    → Numbers taken n (λ t. cond (is_permitted p move_right a.society t) (moves_of all n t) none) → Numbers taken n (move p l a)
day_moves p l a n {any} {all} v w u =
    record {
      size = u.size;
      at = λ t b.
          u.at t b
          ∙ ap (λ o. cond (is_permitted p move_right a.society t) o none)
          (moves_at all n t b ∙ w.at t b ∙ ap (taken_on p a.day) (moves_at any n t b ∙ v.at t b))
          ∙ sym (move_on p l a t);
    }

-- a window names a transition of the plan, of which there are at most 256
pub named_low : (bs : List ℕ) (c : Counts) → Accepts bs c → {w x : ℕ} → w < c.windows → x ≡ (window (plan_of bs c) w).transition → x < 256
named_low bs c a {w} b e =
    omega (arith, e, (plan_facts bs c a).windows.named w (omega (arith, window_count_lem bs c)), transition_count_lem bs c, a.holds.transitions)

-- all windows met, on the day as it was given
pub shut_all : {p : Plan} {d z : Day} {k n : ℕ} {ms : List Bool} → k ≡ n → d ≡ z → Shut p d k ms → Shut p z n ms
shut_all {p} {d} {z} {k} {n} {ms} e f m = subst (λ i. Shut p z i ms) e (subst (λ x. Shut p x k ms) f m)

pub numbers_on : (p : Plan) {d z : Day} {n : ℕ} {ms : List ℕ} (f : ℕ → Option ℕ) → d ≡ z
    → Numbers ms n (λ t. taken_on p d (f t)) → Numbers ms n (λ t. taken_on p z (f t))
numbers_on p {n = n} {ms} f e m = subst (λ x. Numbers ms n (λ t. taken_on p x (f t))) e m

-- without windows all is left
pub all_left : (bs : List ℕ) (c : Counts) (day : Day) (any : List ℕ) → c.windows ≡ 0 → length any ≡ slots
    → Numbers any c.tracks (λ t. taken_on (plan_of bs c) day (moves_of any c.tracks t))
all_left bs c day any e s =
    record {
      size = s;
      at = λ t b. sym (ap (taken_on (plan_of bs c) day) (moves_at any c.tracks t b) ∙ on_any (plan_of bs c) day (window_count_lem bs c ∙ e) (optional (get_or any t 0)));
    }

-- one track more
pub left_at : (p : Plan) (day : Day) (any : List ℕ) (n t r : ℕ) → t < n → optional r ≡ taken_on p day (optional (get_or any t 0))
    → optional r ≡ taken_on p day (moves_of any n t)
left_at p day any n t r b e = e ∙ ap (taken_on p day) (sym (moves_at any n t b))

-- one track more, by the mark of its right
pub marked_at : (may : List Bool) (all : List ℕ) (n t r : ℕ) → t < n → optional r ≡ cond (get_or may t false) (optional (get_or all t 0)) none
    → optional r ≡ cond (get_or may t false) (moves_of all n t) none
marked_at may all n t r b e = e ∙ ap (λ o. cond (get_or may t false) o none) (sym (moves_at all n t b))

pub by_marks : (p : Plan) (society : ℕ) (all : List ℕ) {may : List Bool} {n : ℕ} {ms : List ℕ} → Figures false may n (is_permitted p move_right society)
    → Numbers ms n (λ t. cond (get_or may t false) (moves_of all n t) none)
    → Numbers ms n (λ t. cond (is_permitted p move_right society t) (moves_of all n t) none)
by_marks p society all {n = n} f m = record { size = m.size; at = λ t b. m.at t b ∙ ap (λ k. cond k (moves_of all n t) none) (f.at t b) }
