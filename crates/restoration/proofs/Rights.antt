-- Rights, for every plan: what a call does stays under the roots where its society has the right of that call. An event moves, a signal turns and a
-- firing fires a permitted track alone; entering, closing and abandoning stay below those. So an accepted call leaves every other track as it is, up to
-- finish. What may be fired, and ready, read no rights record. Assumes nothing.
use mathlib.Core.Path.{◌≡◌, refl, sym, ap, ◌∙◌}
use mathlib.Core.Logic.{◌⊎◌, inl, inr}
use mathlib.Core.Bool.{Bool, true, false, not}
use mathlib.Core.List.{List, [], ◌∷◌, ◌++◌}
use mathlib.Core.Option.{none, some}
use Prim.Native.Nat.{ℕ}
use lib.Dec.{eqb, ltb}
use borrow.Author.Tests.{eqb-true, eqb-false, eq-eqb, ne_eqb, lt-ltb, not-true}
use Rattle.rules.specs.declared.Counts.{Counts}
use Rattle.rules.specs.Names.{Day, Right}
use Rattle.rules.specs.declared.Terms.{Terms}
use Rattle.rules.specs.Plan.{Plan, plan_of, track_count, state, host_word, host, owner, is_hosted_by, root_of}
use Rattle.rules.specs.Rights.{move_right, signal_right, fire_right, holds, is_permitted}
use Rattle.rules.specs.Acceptance.{accepted, read_plan}
use Rattle.rules.specs.Leading.{last_day}
use Rattle.rules.specs.Ledger.{Ledger, ledger_at}
use Rattle.rules.specs.Scope.{has_open_scope, is_over}
use Rattle.rules.specs.Event.{EventArguments, is_move, move, moves, moved, closed}
use Rattle.rules.specs.Signal.{turned, abandoned}
use Rattle.rules.specs.Fire.{may_fire, ready, fired}
use Rattle.rules.specs.Call.{done, SignalArguments, FireArguments, Call, event, signal, fire, lacks_fire_right, call_refusal, next, begin_outcome}
use Rattle.rules.specs.ReferenceRun.{words_from, words_after, ledger_after}
use Rattle.rules.specs.Isolation.{society_of}
use Rattle.rules.proofs.Tests.{look, look_option, clash, refuted}
use Rattle.rules.proofs.Acceptance.{Accepted, accepts}
use Rattle.rules.proofs.Roots.{root_up}
use Rattle.rules.proofs.RightsLaws.{permitted_up}
use Rattle.rules.proofs.Moves.{move_barred}
use Rattle.rules.proofs.Ready.{may_fire_lem}
use Rattle.rules.proofs.Abandoning.{Whole}
use Rattle.theory.proofs.Nesting.{Nested, state_of}
use Rattle.theory.proofs.Locality as local
use Rattle.theory.proofs.SoundKept.{kept_sound}
use Rattle.restoration.proofs.Document01.{move_permitted, fire_passed}
use Rattle.restoration.proofs.Theorems01.{Sound, Over, work, next_cases, next_refused, over_refused}
use Rattle.restoration.proofs.SoundWords.{Holds, call_holds}
use Rattle.restoration.proofs.Restoration.{history_holds}
use Rattle.restoration.proofs.Continuation.{words_append}

-- the right that a call asks for
abbrev pub right_of : Call → Right
right_of (event a) = move_right
right_of (signal a) = signal_right
right_of (fire a) = fire_right

-- a track that an event moves is permitted, and one that is not stays where it is
module _ (p : Plan) (l : Ledger) (a : EventArguments) where
  pub moves_permitted : (t : ℕ) → moves p l a t ≡ true → is_permitted p move_right a.society t ≡ true
  unfolding moves is_move
  moves_permitted t h =
      elim (look_option (move p l a t)) [
        | inl e ↦ clash h (rw (e, is_move))
        | inr e ↦ move_permitted p l a t e.0 e.1
      ]

  pub unpermitted_stays : (t : ℕ) → is_permitted p move_right a.society t ≡ false → move p l a t ≡ none
  unpermitted_stays = move_barred p l a

-- an accepted firing is permitted
pub fire_permitted : (terms : Terms) (p : Plan) (d : Day) (l : Ledger) (a : FireArguments) → call_refusal terms p d l (fire a) ≡ 0
    → is_permitted p fire_right a.society a.track ≡ true
unfolding lacks_fire_right
fire_permitted terms p d l a z =
    let q = fire_passed terms p d l a z in
    elim (look (is_permitted p fire_right a.society a.track)) [
      | inl y ↦ y
      | inr n ↦
          let here : ltb a.track (track_count p) ≡ true = lt-ltb a.track (track_count p) (may_fire_lem p l a.track q.may).0 in
          let y : lacks_fire_right p a ≡ true = rw (here, n) in
          clash y q.permitted
    ]

module _ (terms : Terms) (p : Plan) (ok : Accepted p) (l : Ledger) (s : Sound terms p l) where
  abbrev n : Nested p l
  n = s.formed.nested

  -- the scopes are awake or asleep as a whole
  whole : Whole p ok l
  whole r t u e f a = sym (n.whole t u r e f) ∙ a

  -- the tracks that a right leaves out have with each its host's
  abbrev is_left : Right → ℕ → ℕ → Bool
  is_left right society t = not (is_permitted p right society t)

  left_up : (right society t h : ℕ) → host p t ≡ some h → is_left right society t ≡ is_left right society (owner p h)
  left_up right society t h e = ap not (permitted_up p ok right society t h e)

  event_leaves : (a : EventArguments) (t : ℕ) → is_permitted p move_right a.society t ≡ false → closed p (moved p l a) t ≡ l t
  event_leaves a t f =
      let S = is_left move_right a.society in
      local.event_still p ok S (left_up move_right a.society) l a (λ u i. unpermitted_stays p l a u (not-true _ i))
      (λ u i k. ap S (state_of p u (l u).state (n.own u k)).1 ∙ i) s.closing t (ap not f)

  signal_leaves : (a : SignalArguments) (t : ℕ) → is_permitted p signal_right a.society t ≡ false → abandoned p (turned p a.society l) t ≡ l t
  signal_leaves a t f =
      local.signal_still p ok (is_left signal_right a.society) (left_up signal_right a.society) l whole s.abandoning a.society (λ u i. not-true _ i) t
      (ap not f)

  -- a firing leaves what stands under other roots than the fired track's
  pub fire_leaves : (t u : ℕ) → (root_of p u ≡ root_of p t → ⊥) → abandoned p (fired p l t) u ≡ l u
  fire_leaves t u f =
      local.fire_still p ok (λ v. not (eqb (root_of p v) (root_of p t))) (λ v h e. ap (λ r. not (eqb r (root_of p t))) (root_up p ok v h e)) l whole
      s.abandoning t (ap not (eq-eqb (root_of p t) (root_of p t) refl)) u (ap not (ne_eqb (root_of p u) (root_of p t) f))

  -- an accepted call leaves every track that its society has no right over
  pub call_leaves : (d : Day) (c : Call) → call_refusal terms p d l c ≡ 0 → (t : ℕ) → is_permitted p (right_of c) (society_of c) t ≡ false → work p l c t ≡ l t
  unfolding society_of
  call_leaves d (event a) z t n = event_leaves a t n
  call_leaves d (signal a) z t n = signal_leaves a t n
  call_leaves d (fire a) z t n =
      fire_leaves a.track t
      (λ e. clash (fire_permitted terms p d l a z) (unfold is_permitted in ap (holds p fire_right a.society) (sym e) ∙ n))

  -- up to finish
  pub next_leaves : (d : Day) (c : Call) → call_refusal terms p d l c ≡ 0 → (t : ℕ) → is_permitted p (right_of c) (society_of c) t ≡ false
      → (next terms p d l c t ≡ l t) ⊎ Over (next terms p d l c)
  next_leaves d c z t n =
      elim (next_cases terms p ok d l c z) [ inl q ↦ inl (ap (λ (m : Ledger). m t) q ∙ call_leaves d c z t n) | inr o ↦ inr o ]

-- So it is along every list of calls from an accepted begin, whether the next call is refused or not
module _ (terms : Terms) (bs : List ℕ) (k : Counts) (read : read_plan bs ≡ accepted k) where
  abbrev p : Plan
  p = plan_of bs k

  -- a call on words that hold a ledger
  words_leave : (ws : List ℕ) (d : Day) (l : Ledger) → Holds terms bs k read ws d l → (c : Call) (t : ℕ) → is_permitted p (right_of c) (society_of c) t ≡ false
      → (next terms p d l c t ≡ l t) ⊎ Over (next terms p d l c)
  words_leave ws d l h c t n =
      elim (look (eqb (call_refusal terms p d l c) 0)) [
        | inr z ↦ inl (ap (λ (m : Ledger). m t) (next_refused terms p d l c (eqb-false _ 0 z)))
        | inl z ↦
            let y = eqb-true (call_refusal terms p d l c) 0 z in
            let o = refuted (is_over p l) (λ v. over_refused terms p d l v c y) in
            next_leaves terms p (accepts bs k read) l (kept_sound terms p l h.kept o) d c y t n
      ]

  pub list_leaves : (lent : List ℕ) (cs : List Call) → (begin_outcome terms bs lent).answer ≡ done []
      → (c : Call) (t : ℕ) → is_permitted p (right_of c) (society_of c) t ≡ false
      → (ledger_after terms bs p lent (cs ++ (c ∷ [])) t ≡ ledger_after terms bs p lent cs t) ⊎ Over (ledger_after terms bs p lent (cs ++ (c ∷ [])))
  unfolding ledger_after words_after words_from
  list_leaves lent cs b c t n =
      let ws = words_after terms bs lent cs in
      let l = ledger_after terms bs p lent cs in
      let h = history_holds terms bs k read lent cs b in
      let q : ledger_after terms bs p lent (cs ++ (c ∷ [])) ≡ next terms p (last_day ws) l c =
      ap (λ (v : List ℕ). ledger_at terms v (track_count p)) (words_append terms bs k read cs (c ∷ []) (begin_outcome terms bs lent).words)
      ∙ (call_holds terms bs k read ws (last_day ws) l h c).reads in
      elim (words_leave ws (last_day ws) l h c t n) [
        | inl e ↦ inl (ap (λ (m : Ledger). m t) q ∙ e)
        | inr o ↦ inr (λ u. ap (λ (m : Ledger). m u) q ∙ o u)
      ]

-- "Ready, and the firing that property 3 finds allowed, leave rights aside": they read the plan's tracks and states alone
module _ (p q : Plan) (hosts : q.hosts ≡ p.hosts) (states : q.states ≡ p.states) (l : Ledger) where
  pub fireable_aside : (t : ℕ) → may_fire q l t ≡ may_fire p l t
  unfolding may_fire has_open_scope is_hosted_by host host_word owner state track_count
  fireable_aside t = rw (hosts, states)

  pub ready_aside : ready q l ≡ ready p l
  unfolding ready may_fire has_open_scope is_hosted_by host host_word owner state track_count
  ready_aside = rw (hosts, states)
