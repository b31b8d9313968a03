-- Scopes by their marks: a visit sets the marks of the state that hosts the track, so after all visits a mark tells whether some track in
-- the scope passes its test; every track in a scope passes a test where none fails it. Assumes nothing.
use Rattle.std.proofs.Common.{◌≡◌, refl, sym, ap, ap₂, ◌∙◌, inl, inr, Bool, true, false, not, ◌&&◌, ◌||◌, List, ℕ, ◌+◌, ◌<◌, arith, eqb, get_or, set, replicate, length-set, get_or-set_same, get_or-set_other, eqb-true}
use Rattle.std.proofs.Math.Bool.{or-false, not-not}
use Rattle.std.proofs.Math.ListN.{length-replicate, get_or-replicate}
use borrow.Author.Tests.{eqb-false}
use Rattle.rules.specs.declared.Counts.{Counts}
use Rattle.rules.specs.declared.Track.{Track}
use Rattle.rules.specs.Fold.{some_below}
use Rattle.rules.specs.Plan.{Plan, plan_of, track_count, no_state, host_word, is_in, is_final, every_in, some_in}
use Rattle.rules.specs.Ledger.{Ledger, is_awake, is_forward, is_undoing}
use Rattle.rules.specs.Scope.{is_open, has_open_scope, is_bare}
use Rattle.rules.specs.Event.{is_closing}
use Rattle.rules.specs.Signal.{is_abandoning}
use Rattle.rules.specs.Soundness.{is_whole}
use Rattle.rules.proofs.Tests.{look}
use Rattle.rules.proofs.Folds.{every_same, some_more}
use Rattle.rules.proofs.Scopes.{host_in}
use Rattle.plan.specs.Passes.{state_slots}
use Rattle.plan.proofs.Hosting.{host_none}
use Rattle.ledger.specs.Ladder.{Accepts}
use Rattle.ledger.specs.Words.{track_of}
use Rattle.ledger.proofs.ReadTracks.{empty_count}
use Rattle.lookup.proofs.Facts.{host_is, host_low}
use Rattle.soundness.specs.Parts.{Marked, mark_at, sound_scope, well_marked}
use Rattle.soundness.specs.declared.scopes.ScopeMark.{ScopeMark}
use Rattle.soundness.proofs.Clauses.{not_some}

-- a host's mark is among those that there are
pub slot : (bs : List ℕ) (c : Counts) (t h : ℕ) → Accepts bs c → h ≡ host_word (plan_of bs c) t → (h ≡ no_state → ⊥) → h < state_slots
slot bs c t h a e n = let b = a.holds.states in omega (arith, host_low bs c t h a e n)

module _ (p : Plan) (s t : ℕ) (f : ℕ → Bool) where
  -- a track that is not in the scope leaves its mark, one in it may set it
  some_left : is_in p s t ≡ false → some_below (t + 1) (λ u. is_in p s u && f u) ≡ some_below t (λ u. is_in p s u && f u)
  some_left i = some_more t (λ u. is_in p s u && f u) ∙ rw i (or-false _)

  some_joined : is_in p s t ≡ true → {a v : Bool} → a ≡ some_below t (λ u. is_in p s u && f u) → v ≡ f t → (a || v) ≡ some_below (t + 1) (λ u. is_in p s u && f u)
  some_joined i e g = ap₂ (λ a b. a || b) e g ∙ sym (some_more t (λ u. is_in p s u && f u) ∙ rw i)

module _ (p : Plan) (l : Ledger) where
  abbrev awake : ℕ → Bool
  awake t = is_awake (l t).mode

  abbrev asleep : ℕ → Bool
  asleep t = not (is_awake (l t).mode)

  abbrev unfinished : ℕ → Bool
  unfinished t = not (is_forward (l t).mode && is_final p (l t).state)

  abbrev busy : ℕ → Bool
  busy t = not (is_bare p l t)

  -- a mark with nothing set is that of no track
  pub marked_none : {d : ScopeMark} → (d.awake ≡ false) × ((d.asleep ≡ false) × ((d.unfinished ≡ false) × (d.busy ≡ false))) → Marked p l 0 (replicate state_slots d)
  unfolding some_below
  marked_none {d} e =
      record {
        size = length-replicate state_slots d;
        at = λ s x b. get_or-replicate state_slots s d x b ∙ λ i. record { awake = e.0 i; asleep = e.1.0 i; unfinished = e.1.1.0 i; busy = e.1.1.1 i };
      }

  module _ (t : ℕ) where
    mark_left : (s : ℕ) → is_in p s t ≡ false → mark_at p l (t + 1) s ≡ mark_at p l t s
    mark_left s i =
        λ x. record {
          awake = some_left p s t awake i x;
          asleep = some_left p s t asleep i x;
          unfinished = some_left p s t unfinished i x;
          busy = some_left p s t busy i x;
        }

    module _ {ms : List ScopeMark} (m : Marked p l t ms) {h : ℕ} (e : h ≡ host_word p t) where
      pub marked_root : h ≡ no_state → Marked p l (t + 1) ms
      unfolding is_in
      marked_root n =
          let r = host_none p t (sym e ∙ n) in
          record { size = m.size; at = λ s d b. m.at s d b ∙ sym (mark_left s (rw (r, is_in))) }

      -- what was asked of the track, and d the mark before
      module _ {a done bare : Bool} (d : ScopeMark) (f : a ≡ is_awake (l t).mode) (g : done ≡ (is_forward (l t).mode && is_final p (l t).state)) (x : bare ≡ is_bare p l t)
          (in-h : is_in p h t ≡ true) (old : d ≡ mark_at p l t h) where
        joined_mark : record { awake = d.awake || a; asleep = d.asleep || not a; unfinished = d.unfinished || not done; busy = d.busy || not bare } ≡ mark_at p l (t + 1) h
        joined_mark =
            λ i. record {
              awake = some_joined p h t awake in-h (ap (λ (m : ScopeMark). m.awake) old) f i;
              asleep = some_joined p h t asleep in-h (ap (λ (m : ScopeMark). m.asleep) old) (ap not f) i;
              unfinished = some_joined p h t unfinished in-h (ap (λ (m : ScopeMark). m.unfinished) old) (ap not g) i;
              busy = some_joined p h t busy in-h (ap (λ (m : ScopeMark). m.busy) old) (ap not x) i;
            }

      -- k is the track as read; what was asked of it
      pub marked_hosted : {k : Track} {a done bare inner : Bool} (d : ScopeMark) → (h ≡ no_state → ⊥) → h < state_slots → k ≡ track_of (l t)
          → a ≡ is_awake k.mode → done ≡ (is_forward k.mode && is_final p k.state)
          → bare ≡ (is_undoing k.mode && eqb k.count 0 && not inner) → inner ≡ has_open_scope p l t
          → Marked p l (t + 1)
          (set ms h (record {
            awake = (get_or ms h d).awake || a;
            asleep = (get_or ms h d).asleep || not a;
            unfinished = (get_or ms h d).unfinished || not done;
            busy = (get_or ms h d).busy || not bare;
          }))
      unfolding track_of is_bare is_in
      marked_hosted {a} {done} {bare} d n low i f g x y =
          let r = host_is p t h e n in
          let joined = joined_mark {a = a} {done = done} {bare = bare} (get_or ms h d) (rw (f, i)) (rw (g, i)) (rw (x, i, y, empty_count)) (host_in p h t r) (m.at h d low) in
          let old = get_or ms h d in
          let new : ScopeMark =
          record { awake = old.awake || a; asleep = old.asleep || not a; unfinished = old.unfinished || not done; busy = old.busy || not bare } in
          record {
            size = length-set ms h new ∙ m.size;
            at = λ s d' b.
                elim (look (eqb h s)) [
                  | inl q ↦
                      let same = eqb-true h s q in
                      ap (λ s. get_or (set ms h new) s d') (sym same) ∙ get_or-set_same ms h new d' (omega (arith, m.size)) ∙ joined ∙ ap (mark_at p l (t + 1)) same
                  | inr q ↦
                      get_or-set_other ms h s new d' (λ z. eqb-false h s q (sym z)) ∙ m.at s d' b ∙ sym (mark_left s (rw (r, is_in, q)))
                ];
          }

  -- every track in a scope passes, or some fails
  every_some : (s : ℕ) (f g : ℕ → Bool) → ((t : ℕ) → f t ≡ not (g t)) → every_in p s f ≡ not (some_in p s g)
  unfolding every_in some_in
  every_some s f g e =
      every_same (track_count p) _ (λ t. not (is_in p s t && g t)) (λ t b. ap (λ v. not (is_in p s t) || v) (e t) ∙ not_both (is_in p s t) (g t))
      ∙ not_some (track_count p) (λ t. is_in p s t && g t)
    where
      not_both : (a b : Bool) → (not a || not b) ≡ not (a && b)
      not_both true b = refl
      not_both false b = refl

  judged : (a z u b : Bool) → (not a || ((not z && u) && b)) ≡ (((not z || not a) && not (a && not u)) && not (a && not b))
  judged false true u b = refl
  judged false false u b = refl
  judged true true u b = refl
  judged true false true true = refl
  judged true false true false = refl
  judged true false false b = refl

  -- what is asked of a scope, by its mark
  pub scope_asked : {ms : List ScopeMark} (s n : ℕ) (d : ScopeMark) → n ≡ track_count p → Marked p l n ms → s < state_slots
      → well_marked (get_or ms s d) ≡ sound_scope p l s
  unfolding sound_scope is_whole is_closing is_abandoning is_open some_in
  scope_asked s n d e m low =
      ap well_marked (m.at s d low ∙ ap (λ n. mark_at p l n s) e)
      ∙ rw (
        none_fails (λ t. is_awake (l t).mode),
        every_some s (λ t. not (is_awake (l t).mode)) (λ t. is_awake (l t).mode) (λ t. refl),
        none_fails (λ t. is_forward (l t).mode && is_final p (l t).state),
        none_fails (is_bare p l),
      )
      (judged _ _ _ _)
    where
      none_fails : (f : ℕ → Bool) → every_in p s f ≡ not (some_in p s (λ t. not (f t)))
      none_fails f = every_some s f (λ t. not (f t)) (λ t. sym (not-not (f t)))
