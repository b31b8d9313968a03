-- One call, on ledgers. The tracks under a society's roots are such a set as locality speaks of, and so are all others. Where it is alone, another
-- society's call has no right under its roots, so it leaves them as they are. Its own call is refused or answered alike on two ledgers that agree
-- under its roots, neither being over: elsewhere it has no right, and there nothing closes on a sound ledger. And it leaves ledgers that agree there
-- again, finish apart. Assumes nothing.
use mathlib.Core.Path.{◌≡◌, sym, ap, ap₂, ◌∙◌}
use mathlib.Core.Logic.{inl, inr}
use mathlib.Core.Bool.{Bool, true, false, cond, not, ◌&&◌, ◌||◌}
use mathlib.Core.List.{[], ◌∷◌}
use mathlib.Core.Option.{none, some}
use Prim.Native.Nat.{ℕ}
use lib.ListN.{length}
use lib.Dec.{eqb, ltb, leb}
use borrow.Author.Tests.{not-true}
use Rattle.rules.specs.Names.{Day}
use Rattle.rules.specs.declared.Terms.{Terms}
use Rattle.rules.specs.Fold.{first_refusal, count_below}
use Rattle.rules.specs.Plan.{Plan, track_count, state_count, host, owner, root_of, replacement}
use Rattle.rules.specs.Rights.{move_right, signal_right, fire_right, holds, is_permitted}
use Rattle.rules.specs.Ledger.{Configuration, Ledger, is_awake, is_forward}
use Rattle.rules.specs.Scope.{is_over}
use Rattle.rules.specs.Event.{EventArguments, has_code, is_move, move, moves, moved, is_closing, closes_scope, closings, is_replaced, is_full}
use Rattle.rules.specs.Signal.{turned, turnings}
use Rattle.rules.specs.Fire.{newest, may_fire, fired}
use Rattle.rules.specs.Call.{FireArguments, Call, event, signal, fire, figures, bad_day, lacks_fire_right, call_refusals, call_refusal}
use Rattle.rules.specs.Isolation.{society_of, holds_any, Alone, is_under}
use Rattle.rules.proofs.Tests.{look, clash, refuted, and_holds, or_fails}
use Rattle.rules.proofs.Folds.{some_same, count_same}
use Rattle.rules.proofs.Acceptance.{Accepted}
use Rattle.rules.proofs.Roots.{root_up}
use Rattle.theory.proofs.Nesting.{Nested, state_of}
use Rattle.restoration.proofs.Theorems01.{Sound, moved_nested, work}
use Rattle.restoration.proofs.Rights.{right_of, unpermitted_stays, fire_permitted, call_leaves}
use Rattle.theory.proofs.Locality as local

-- who holds none of the rights holds each of them not
pub record NoRight (p : Plan) (society root : ℕ) : Type 0 where
  pub no_move : holds p move_right society root ≡ false
  pub no_signal : holds p signal_right society root ≡ false
  pub no_fire : holds p fire_right society root ≡ false

pub no_right : (p : Plan) (society root : ℕ) → holds_any p society root ≡ false → NoRight p society root
unfolding holds_any
no_right p society root h =
    let (x, c) = or_fails (holds p move_right society root || holds p signal_right society root) (holds p fire_right society root) h in
    let (a, b) = or_fails (holds p move_right society root) (holds p signal_right society root) x in
    record { no_move = a; no_signal = b; no_fire = c }

-- the number by which a firing is refused on a ledger that is not over, 0 for none
abbrev judged : Plan → Ledger → FireArguments → ℕ
judged p l f = cond (lacks_fire_right p f) 28 (cond (not (may_fire p l f.track)) 22 0)

module _ (terms : Terms) (p : Plan) (ok : Accepted p) (own : ℕ) where
  under_up : (t h : ℕ) → host p t ≡ some h → is_under p own t ≡ is_under p own (owner p h)
  unfolding is_under
  under_up t h e = ap (holds_any p own) (root_up p ok t h e)

  abbrev is_elsewhere : ℕ → Bool
  is_elsewhere t = not (is_under p own t)

  elsewhere_up : (t h : ℕ) → host p t ≡ some h → is_elsewhere t ≡ is_elsewhere (owner p h)
  elsewhere_up t h e = ap not (under_up t h e)

  -- the ledgers hold the same of the tracks under its roots
  abbrev pub Same : Ledger → Ledger → Type 0
  Same l m = (t : ℕ) → is_under p own t ≡ true → l t ≡ m t

  -- so the same of them may be fired
  pub may_same : (l m : Ledger) → Same l m → (t : ℕ) → is_under p own t ≡ true → may_fire p l t ≡ may_fire p m t
  may_same = local.may_fire_agree p ok (is_under p own) under_up

  -- awake tracks are in states of their own
  owned : (S : ℕ → Bool) (l : Ledger) → Nested p l → (t : ℕ) → S t ≡ true → is_awake (l t).mode ≡ true → S (owner p (l t).state) ≡ true
  owned S l n t i k = ap S (state_of p t (l t).state (n.own t k)).1 ∙ i

  -- elsewhere it has no right
  without : (t : ℕ) → is_elsewhere t ≡ true → NoRight p own (root_of p t)
  unfolding is_under
  without t i = no_right p own (root_of p t) (not-true (is_under p own t) i)

  fired_under : (t : ℕ) → is_permitted p fire_right own t ≡ true → is_under p own t ≡ true
  unfolding is_permitted
  fired_under t k = elim (look (is_under p own t)) [ inl i ↦ i | inr i ↦ clash k (without t (ap not i)).no_fire ]

  -- Another society's call leaves its trees as they are.
  module _ (alone : Alone p own) (l : Ledger) (s : Sound terms p l) where
    others : (c : Call) → (society_of c ≡ own → ⊥) → (t : ℕ) → is_under p own t ≡ true → is_permitted p (right_of c) (society_of c) t ≡ false
    unfolding is_under is_permitted
    others c n t i = go c (no_right p (society_of c) (root_of p t) (alone (society_of c) (root_of p t) n i))
      where
        go : (c : Call) → NoRight p (society_of c) (root_of p t) → holds p (right_of c) (society_of c) (root_of p t) ≡ false
        go (event a) q = q.no_move
        go (signal a) q = q.no_signal
        go (fire a) q = q.no_fire

    pub left_alone : (d : Day) (c : Call) → (society_of c ≡ own → ⊥) → call_refusal terms p d l c ≡ 0 → Same (work p l c) l
    left_alone d c n h t i = call_leaves terms p ok l s d c h t (others c n t i)

  -- Its own call, elsewhere: nothing moves, and nothing closes.
  module _ (l : Ledger) (s : Sound terms p l) (e : EventArguments) (mine : e.society ≡ own) where
    no_move : (t : ℕ) → is_elsewhere t ≡ true → move p l e t ≡ none
    unfolding is_permitted
    no_move t i = unpermitted_stays p l e t (ap (λ x. is_permitted p move_right x t) mine ∙ (without t i).no_move)

    no_closing : (r : ℕ) → is_elsewhere (owner p r) ≡ true → is_closing p (moved p l e) r ≡ false
    no_closing r i =
        local.closing_agree p ok is_elsewhere elsewhere_up (moved p l e) l (local.moved_still p ok is_elsewhere elsewhere_up l e no_move) r i ∙ s.closing r

    no_entry : (t : ℕ) → is_elsewhere t ≡ true → (has_code p (move p l e t) || is_replaced p (moved p l e) t) ≡ false
    unfolding has_code is_replaced closes_scope
    no_entry t i =
        ap₂ (λ x y. x || y) (ap (has_code p) (no_move t i))
        (ap (λ x. x && not (eqb (replacement p (moved p l e t).state) 0))
        (refuted (closes_scope p (moved p l e) t)
        (λ k.
        let (w, c) = and_holds (is_awake (moved p l e t).mode) (is_closing p (moved p l e) (moved p l e t).state) k in
        clash c (no_closing (moved p l e t).state (owned is_elsewhere (moved p l e) (moved_nested p l e ok s.formed.nested) t i w)))))

  -- Its own call on two ledgers.
  module _ (l m : Ledger) (s : Sound terms p l) (r : Sound terms p m) (a : Same l m) where
    module _ (e : EventArguments) (mine : e.society ≡ own) where
      moved_same : Same (moved p l e) (moved p m e)
      moved_same = local.moved_agree p ok (is_under p own) under_up l m a e

      same_full : is_full p terms l e ≡ is_full p terms m e
      unfolding is_full
      same_full =
          some_same (track_count p) (λ t. (has_code p (move p l e t) || is_replaced p (moved p l e) t) && leb terms.limit (length (l t).held))
          (λ t. (has_code p (move p m e t) || is_replaced p (moved p m e) t) && leb terms.limit (length (m t).held))
          (λ t b.
          elim (look (is_under p own t)) [
            | inl i ↦
                ap₂ (λ x y. x && y)
                (ap₂ (λ x y. has_code p x || y) (local.move_agree p ok (is_under p own) under_up l m a e t i)
                (local.replaced_agree p ok (is_under p own) under_up (moved p l e) (moved p m e) moved_same
                (owned (is_under p own) (moved p l e) (moved_nested p l e ok s.formed.nested)) t i))
                (ap (λ (x : Configuration). leb terms.limit (length x.held)) (a t i))
            | inr i ↦ rw (no_entry l s e mine t (ap not i), no_entry m r e mine t (ap not i))
          ])

      same_moves : count_below (track_count p) (moves p l e) ≡ count_below (track_count p) (moves p m e)
      unfolding moves
      same_moves =
          count_same (track_count p) (moves p l e) (moves p m e)
          (λ t b.
          ap is_move
          (elim (look (is_under p own t)) [
            | inl i ↦ local.move_agree p ok (is_under p own) under_up l m a e t i
            | inr i ↦ no_move l s e mine t (ap not i) ∙ sym (no_move m r e mine t (ap not i))
          ]))

      same_closings : closings p (moved p l e) ≡ closings p (moved p m e)
      unfolding closings
      same_closings =
          count_same (state_count p) (is_closing p (moved p l e)) (is_closing p (moved p m e))
          (λ q b.
          elim (look (is_under p own (owner p q))) [
            | inl i ↦ local.closing_agree p ok (is_under p own) under_up (moved p l e) (moved p m e) moved_same q i
            | inr i ↦ no_closing l s e mine q (ap not i) ∙ sym (no_closing m r e mine q (ap not i))
          ])

    same_turnings : (society : ℕ) → society ≡ own → turnings p society l ≡ turnings p society m
    unfolding turnings is_permitted
    same_turnings society mine =
        count_same (track_count p) (λ t. is_permitted p signal_right society t && is_forward (l t).mode)
        (λ t. is_permitted p signal_right society t && is_forward (m t).mode)
        (λ t b.
        elim (look (is_under p own t)) [
          | inl i ↦ ap (λ (x : Configuration). is_permitted p signal_right society t && is_forward x.mode) (a t i)
          | inr i ↦
              let z : is_permitted p signal_right society t ≡ false =
              ap (λ x. is_permitted p signal_right x t) mine ∙ (without t (ap not i)).no_signal in
              rw z
        ])

    -- a firing that its society has the right to is judged alike
    same_firing : (f : FireArguments) → f.society ≡ own → judged p l f ≡ judged p m f
    unfolding lacks_fire_right may_fire
    same_firing f mine =
        elim (look (ltb f.track (track_count p))) [
          | inr b ↦ rw b
          | inl b ↦
              elim (look (is_permitted p fire_right f.society f.track)) [
                | inr k ↦ rw (b, k)
                | inl k ↦
                    ap (λ x. cond (lacks_fire_right p f) 28 (cond (not x) 22 0))
                    (local.may_fire_agree p ok (is_under p own) under_up l m a f.track
                    (fired_under f.track (ap (λ x. is_permitted p fire_right x f.track) (sym mine) ∙ k)))
              ]
        ]

    -- what it leaves
    pub work_same : (c : Call) → Same (work p l c) (work p m c)
    work_same (event e) =
        local.closed_agree p ok (is_under p own) under_up (moved p l e) (moved p m e) (local.moved_agree p ok (is_under p own) under_up l m a e)
        (owned (is_under p own) (moved p l e) (moved_nested p l e ok s.formed.nested))
    work_same (signal e) =
        local.abandoned_agree p ok (is_under p own) under_up (turned p e.society l) (turned p e.society m)
        (local.turned_agree p ok (is_under p own) under_up l m a e.society)
    work_same (fire e) =
        local.abandoned_agree p ok (is_under p own) under_up (fired p l e.track) (fired p m e.track)
        (local.fired_agree p ok (is_under p own) under_up l m a e.track)

    -- what an accepted one is answered
    pub same_figures : (d : Day) (c : Call) → society_of c ≡ own → call_refusal terms p d l c ≡ 0 → figures p l c ≡ figures p m c
    unfolding figures society_of
    same_figures d (event e) mine h = ap₂ (λ x y. x ∷ y ∷ []) (same_moves e mine) (same_closings e mine)
    same_figures d (signal e) mine h = ap (λ x. x ∷ []) (same_turnings e.society mine)
    same_figures d (fire e) mine h =
        ap (λ (x : Configuration). (newest x.held).code ∷ (newest x.held).deviation ∷ [])
        (a e.track
        (fired_under e.track (ap (λ x. is_permitted p fire_right x e.track) (sym mine) ∙ fire_permitted terms p d l e h)))

    -- and by which number it is refused, if not for its day
    pub same_refusal : is_over p l ≡ false → is_over p m ≡ false → (d d' : Day) (c : Call) → society_of c ≡ own
        → (call_refusal terms p d l c ≡ 26 → ⊥) → (call_refusal terms p d' m c ≡ 26 → ⊥) → call_refusal terms p d l c ≡ call_refusal terms p d' m c
    unfolding call_refusal call_refusals first_refusal society_of
    same_refusal nl nm d d' (event e) mine u v =
        elim (look (eqb e.event 0)) [
          | inl z ↦ rw z
          | inr z ↦
              elim (look (bad_day d e.day)) [
                | inl b ↦ absurd (u (rw (z, b)))
                | inr b ↦
                    elim (look (bad_day d' e.day)) [
                      | inl b' ↦ absurd (v (rw (z, b')))
                      | inr b' ↦ rw (z, b, b', nl, nm, same_full e mine)
                    ]
              ]
        ]
    same_refusal nl nm d d' (signal e) mine u v = rw (nl, nm)
    same_refusal nl nm d d' (fire e) mine u v = rw (nl, nm) (same_firing e mine)
