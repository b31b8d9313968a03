-- Locality: what a call does to a set of tracks that has with each track its host's and with each host's its hosted ones depends on what the ledger
-- holds of that set alone, finish apart: entering goes from a host's track to those that it hosts, and closing and abandoning look at a scope and
-- at what it hosts. So ledgers that agree on such a set agree on it after each part of a call; and where nothing in the set is asked, it stays as it
-- is on a ledger that has nothing left to settle. Assumes nothing.
use mathlib.Core.Path.{◌≡◌, refl, sym, ap, ap₂, ◌∙◌, subst}
use mathlib.Core.Logic.{inl, inr}
use mathlib.Core.Bool.{Bool, true, false, cond, not, ◌&&◌, ◌||◌}
use mathlib.Core.Option.{Option, none, some}
use Prim.Native.Nat.{ℕ, zero, suc}
use lib.Dec.{eqb, ltb}
use borrow.Author.Tests.{eqb-true, ne_eqb}
use Rattle.rules.specs.Plan.{Plan, track_count, no_state, optional, host, owner, first_state, replacement, transition_for, taken_on, is_in, is_hosted_by}
use Rattle.rules.specs.Rights.{move_right, signal_right, is_permitted}
use Rattle.rules.specs.Ledger.{Configuration, Ledger, is_awake, is_forward, is_undoing, is_empty, sleeping}
use Rattle.rules.specs.Opening.{fresh, wakes_in, wakes, entered, enter}
use Rattle.rules.specs.Scope.{is_open, has_open_scope}
use Rattle.rules.specs.Event.{EventArguments, installed, destination_of, installed_by, may_move, move, moved, is_closing, is_closed, closes_scope, closed, is_replaced}
use Rattle.rules.specs.Signal.{turned_track, turned, is_abandoning, is_spent_to, is_spent, is_left, is_abandoned, abandoned}
use Rattle.rules.specs.Fire.{newest, older, removed, deviates_to, may_fire, fired}
use Rattle.rules.proofs.Tests.{look, look_option, clash, strong}
use Rattle.rules.proofs.Folds.{some_same, every_same}
use Rattle.rules.proofs.Acceptance.{Accepted}
use Rattle.rules.proofs.Scopes.{in_host, by_host, every_in_same, some_in_same}
use Rattle.rules.proofs.Opening.{wakes_root, wakes_host, enter_none}
use Rattle.rules.proofs.Closing.{closing_alike, closed_host, closed_root, closed_steady}
use Rattle.rules.proofs.Abandoning.{Whole, abandoned_host, abandoned_root, abandoned_steady}

module _ (p : Plan) (ok : Accepted p) (S : ℕ → Bool) (trees : (t h : ℕ) → host p t ≡ some h → S t ≡ S (owner p h)) where
  -- the ledgers hold the same of the set's tracks
  abbrev pub Agree : Ledger → Ledger → Type 0
  Agree l m = (t : ℕ) → S t ≡ true → l t ≡ m t

  -- up and down
  owner_in : (s u : ℕ) → host p u ≡ some s → S u ≡ true → S (owner p s) ≡ true
  owner_in s u e i = sym (trees u s e) ∙ i

  scope_in : (s u : ℕ) → S (owner p s) ≡ true → is_in p s u ≡ true → S u ≡ true
  scope_in s u i k = trees u s (in_host p s u k) ∙ i

  hosted_in : (t u : ℕ) → S t ≡ true → is_hosted_by p t u ≡ true → S u ≡ true
  hosted_in t u i k = let (h, e, o) = by_host p t u k in trees u h e ∙ ap S o ∙ i

  -- Entering.
  module _ (to at : ℕ → Option ℕ) (same : (t : ℕ) → S t ≡ true → to t ≡ at t) where
    wakes_agree : (t : ℕ) → S t ≡ true → wakes p to t ≡ wakes p at t
    wakes_agree =
        strong (λ t. S t ≡ true → wakes p to t ≡ wakes p at t)
        (λ t ih i.
        elim (look_option (host p t)) [
          | inl e ↦ wakes_root p ok to t e ∙ sym (wakes_root p ok at t e)
          | inr e ↦
              let h = e.0 in
              let j = owner_in h t e.1 i in
              wakes_host p ok to t h e.1
              ∙ ap₂ (λ x r. wakes_in (first_state p (owner p h)) x h r) (same (owner p h) j) (ih (owner p h) (ok.lower t h e.1) j)
              ∙ sym (wakes_host p ok at t h e.1)
        ])

    pub enter_agree : (l m : Ledger) → Agree l m → Agree (enter p to l) (enter p at m)
    unfolding enter
    enter_agree l m a t i =
        ap₂ (λ x o. entered x (fresh p t) o (wakes p to t)) (a t i) (same t i) ∙ ap (entered (m t) (fresh p t) (at t)) (wakes_agree t i)

  -- an awake track of the set is in a state of a track of it
  abbrev pub Owned : Ledger → Type 0
  Owned l = (t : ℕ) → S t ≡ true → is_awake (l t).mode ≡ true → S (owner p (l t).state) ≡ true

  module _ (l m : Ledger) (a : Agree l m) where
    pub busy_agree : (t : ℕ) → S t ≡ true → has_open_scope p l t ≡ has_open_scope p m t
    unfolding has_open_scope
    busy_agree t i =
        some_same (track_count p) (λ u. is_hosted_by p t u && is_awake (l u).mode) (λ u. is_hosted_by p t u && is_awake (m u).mode)
        (λ u b.
        elim (look (is_hosted_by p t u))
        [ inl k ↦ ap (λ (x : Configuration). is_hosted_by p t u && is_awake x.mode) (a u (hosted_in t u i k)) | inr k ↦ rw k ])

    -- An event.
    pub move_agree : (e : EventArguments) (t : ℕ) → S t ≡ true → move p l e t ≡ move p m e t
    unfolding move may_move
    move_agree e t i =
        ap₂
        (λ (x : Configuration) b.
        cond (is_permitted p move_right e.society t && (is_forward x.mode && not b))
        (taken_on p e.day (transition_for p x.state e.event)) none)
        (a t i) (busy_agree t i)

    pub moved_agree : (e : EventArguments) → Agree (moved p l e) (moved p m e)
    unfolding moved
    moved_agree e =
        enter_agree (λ t. destination_of p (move p l e t)) (λ t. destination_of p (move p m e t)) (λ t i. ap (destination_of p) (move_agree e t i))
        (λ t. installed_by p (move p l e t) (l t)) (λ t. installed_by p (move p m e t) (m t)) (λ t i. ap₂ (installed_by p) (move_agree e t i) (a t i))

    pub closing_agree : (s : ℕ) → S (owner p s) ≡ true → is_closing p l s ≡ is_closing p m s
    closing_agree s i =
        closing_alike p l m s
        (λ t b e. let q = a t (trees t s e ∙ i) in (ap (λ (x : Configuration). x.mode) q, ap (λ (x : Configuration). x.state) q))

    is_closed_agree : (t : ℕ) → S t ≡ true → is_closed p l t ≡ is_closed p m t
    is_closed_agree t i =
        elim (look_option (host p t)) [
          | inl e ↦ closed_root p l t e ∙ sym (closed_root p m t e)
          | inr e ↦ closed_host p l t e.0 e.1 ∙ closing_agree e.0 (owner_in e.0 t e.1 i) ∙ sym (closed_host p m t e.0 e.1)
        ]

    module _ (o : Owned l) where
      pub closes_agree : (t : ℕ) → S t ≡ true → closes_scope p l t ≡ closes_scope p m t
      unfolding closes_scope
      closes_agree t i =
          elim (look (is_awake (l t).mode)) [
            | inl k ↦ ap (λ x. is_awake (l t).mode && x) (closing_agree (l t).state (o t i k))
            | inr k ↦ rw k
          ]
          ∙ ap (λ (x : Configuration). is_awake x.mode && is_closing p m x.state) (a t i)

      pub closed_agree : Agree (closed p l) (closed p m)
      unfolding closed
      closed_agree t i =
          ap₂ (λ x y. cond x sleeping (cond y (installed (replacement p (l t).state) no_state (l t)) (l t))) (is_closed_agree t i) (closes_agree t i)
          ∙ ap (λ (x : Configuration). cond (is_closed p m t) sleeping (cond (closes_scope p m t) (installed (replacement p x.state) no_state x) x)) (a t i)

      pub replaced_agree : (t : ℕ) → S t ≡ true → is_replaced p l t ≡ is_replaced p m t
      unfolding is_replaced
      replaced_agree t i = ap₂ (λ x (y : Configuration). x && not (eqb (replacement p y.state) 0)) (closes_agree t i) (a t i)

    -- A signal.
    pub turned_agree : (society : ℕ) → Agree (turned p society l) (turned p society m)
    unfolding turned
    turned_agree society t i = ap (λ x. cond (is_permitted p signal_right society t) (turned_track x) x) (a t i)

    spent_to_agree : (n t : ℕ) → S t ≡ true → is_spent_to p l n t ≡ is_spent_to p m n t
    unfolding is_spent_to
    spent_to_agree zero t i = refl
    spent_to_agree (suc n) t i =
        ap₂ (λ (x : Configuration) y. is_undoing x.mode && is_empty x.held && y) (a t i)
        (every_same (track_count p) (λ u. not (is_hosted_by p t u && is_awake (l u).mode) || is_spent_to p l n u)
        (λ u. not (is_hosted_by p t u && is_awake (m u).mode) || is_spent_to p m n u) (λ u b. go u (λ j. spent_to_agree n u j)))
      where
        go : (u : ℕ) → (S u ≡ true → is_spent_to p l n u ≡ is_spent_to p m n u)
            → (not (is_hosted_by p t u && is_awake (l u).mode) || is_spent_to p l n u) ≡ (not (is_hosted_by p t u && is_awake (m u).mode) || is_spent_to p m n u)
        go u ih =
            elim (look (is_hosted_by p t u)) [
              | inl k ↦
                  let j = hosted_in t u i k in
                  ap₂ (λ (x : Configuration) y. not (is_hosted_by p t u && is_awake x.mode) || y) (a u j) (ih j)
              | inr k ↦ rw k
            ]

    pub spent_agree : (t : ℕ) → S t ≡ true → is_spent p l t ≡ is_spent p m t
    unfolding is_spent
    spent_agree t i = spent_to_agree (track_count p) t i

    left_agree : (s : ℕ) → S (owner p s) ≡ true → is_left p l s ≡ is_left p m s
    unfolding is_left is_open
    left_agree s i =
        ap₂ (λ x y. x && y)
        (some_in_same p s (λ t. is_awake (l t).mode) (λ t. is_awake (m t).mode)
        (λ t b k. ap (λ (x : Configuration). is_awake x.mode) (a t (scope_in s t i k))))
        (every_in_same p s (is_spent p l) (is_spent p m) (λ t b k. spent_agree t (scope_in s t i k)))

    is_abandoned_agree : (t : ℕ) → S t ≡ true → is_abandoned p l t ≡ is_abandoned p m t
    is_abandoned_agree t i =
        elim (look_option (host p t)) [
          | inl e ↦ abandoned_root p ok l t e ∙ sym (abandoned_root p ok m t e)
          | inr e ↦
              abandoned_host p ok l t e.0 e.1 ∙ left_agree e.0 (owner_in e.0 t e.1 i)
              ∙ sym (abandoned_host p ok m t e.0 e.1)
        ]

    pub abandoned_agree : Agree (abandoned p l) (abandoned p m)
    unfolding abandoned
    abandoned_agree t i = ap₂ (λ x y. cond x sleeping y) (is_abandoned_agree t i) (a t i)

    -- A firing.
    pub may_fire_agree : (t : ℕ) → S t ≡ true → may_fire p l t ≡ may_fire p m t
    unfolding may_fire
    may_fire_agree t i =
        ap₂ (λ (x : Configuration) b. ltb t (track_count p) && is_undoing x.mode && not (is_empty x.held) && not b) (a t i) (busy_agree t i)

    removed_agree : (t : ℕ) → Agree (removed l t) (removed m t)
    unfolding removed
    removed_agree t u i =
        ap (λ (x : Configuration). cond (eqb u t) (record { mode = x.mode; state = x.state; held = older x.held }) x) (a u i)

    deviates_agree : (t u : ℕ) → S u ≡ true → deviates_to l t u ≡ deviates_to m t u
    unfolding deviates_to
    deviates_agree t u i =
        elim (look (eqb u t)) [
          | inl e ↦
              ap (λ (x : Configuration). cond (eqb u t) (optional (newest x.held).deviation) none)
              (a t (subst (λ x. S x ≡ true) (eqb-true u t e) i))
          | inr e ↦ rw e
        ]

    pub fired_agree : (t : ℕ) → Agree (fired p l t) (fired p m t)
    unfolding fired
    fired_agree t = enter_agree (deviates_to l t) (deviates_to m t) (deviates_agree t) (removed l t) (removed m t) (removed_agree t)

  -- Where nothing in the set is asked, it stays as it is, on a ledger that has nothing left to settle.
  enter_still : (to : ℕ → Option ℕ) (l : Ledger) → ((t : ℕ) → S t ≡ true → to t ≡ none) → Agree (enter p to l) l
  enter_still to l h t i =
      enter_agree to (λ u. none) h l l (λ u j. refl) t i ∙ ap (λ (m : Ledger). m t) (enter_none p ok (λ u. none) l (λ u. refl))

  module _ (l : Ledger) where
    module _ (e : EventArguments) (n : (t : ℕ) → S t ≡ true → move p l e t ≡ none) where
      pub moved_still : Agree (moved p l e) l
      unfolding moved destination_of installed_by
      moved_still t i =
          enter_still (λ u. destination_of p (move p l e u)) (λ u. installed_by p (move p l e u) (l u)) (λ u j. ap (destination_of p) (n u j)) t i
          ∙ ap (λ o. installed_by p o (l t)) (n t i)

      pub event_still : Owned l → ((s : ℕ) → is_closing p l s ≡ false) → Agree (closed p (moved p l e)) l
      event_still o none_due t i =
          sym (closed_agree l (moved p l e) (λ u j. sym (moved_still u j)) o t i) ∙ ap (λ (m : Ledger). m t) (closed_steady p l none_due)

    module _ (whole : Whole p ok l) (none_due : (s : ℕ) → is_abandoning p l s ≡ false) where
      left_still : (m : Ledger) → Agree m l → Agree (abandoned p m) l
      left_still m a t i = abandoned_agree m l a t i ∙ ap (λ (m : Ledger). m t) (abandoned_steady p ok l whole none_due)

      pub signal_still : (society : ℕ) → ((t : ℕ) → S t ≡ true → is_permitted p signal_right society t ≡ false) → Agree (abandoned p (turned p society l)) l
      unfolding turned
      signal_still society n = left_still (turned p society l) (λ t i. rw (n t i))

      pub fire_still : (f : ℕ) → S f ≡ false → Agree (abandoned p (fired p l f)) l
      unfolding fired removed deviates_to
      fire_still f n = left_still (fired p l f) (λ t i. enter_still (deviates_to l f) (removed l f) (λ u j. rw (other u j)) t i ∙ rw (other t i))
        where
          other : (u : ℕ) → S u ≡ true → eqb u f ≡ false
          other u j = ne_eqb u f (λ e. clash (ap S (sym e) ∙ j) n)
