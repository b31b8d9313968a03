-- A root asked whether it is done, and whether it has ended, as the code asks it; the roots visited, and all. Assumes nothing.
use Rattle.std.proofs.Common.{◌≡◌, refl, sym, ap, ◌∙◌, Bool, true, false, not, ◌&&◌, ◌||◌, List, ℕ, ◌≤◌, ◌<◌, arith, eqb}
use Rattle.std.proofs.Math.ListN.{get_or-eq_default}
use Rattle.rules.specs.declared.Counts.{Counts}
use Rattle.rules.specs.declared.Track.{Track}
use Rattle.rules.specs.Fold.{every_below, some_below}
use Rattle.rules.specs.Plan.{Plan, State, plan_of, track_count, state_count, state, is_root, is_final}
use Rattle.rules.specs.Ledger.{Ledger, is_forward, is_undoing, is_empty}
use Rattle.rules.specs.Scope.{has_open_scope, is_ended, is_bare}
use Rattle.rules.specs.Finish.{roots_done, some_root_ended, is_finishing}
use Rattle.plan.proofs.FieldLaws.{track_count_lem}
use Rattle.ledger.specs.Words.{track_of}
use Rattle.ledger.proofs.ReadTracks.{empty_count}
use Rattle.ledger.proofs.Loops.{every_stops}
use Rattle.lookup.specs.Figures.{Figures}
use Rattle.finish.specs.UndoingScopes.{UndoingScopes}

-- beyond the last state none is final
pub final_beyond : (p : Plan) (s : ℕ) → state_count p ≤ s → false ≡ is_final p s
unfolding is_final state state_count
final_beyond p s h =
    let e = ap (λ (x : State). not (eqb x.final 0)) (get_or-eq_default p.states _ h) in
    sym e

-- where it is known of every track whether it has an open scope
pub all_known : (p : Plan) (l : Ledger) {n : ℕ} {opens : List Bool} → Figures false opens n (has_open_scope p l) → UndoingScopes p l n opens
all_known p l f = record { size = f.size; at = λ t b u. f.at t b }

module _ (p : Plan) (l : Ledger) where
  abbrev pub is_done : ℕ → Bool
  is_done t = not (is_root p t) || (is_ended p l t || is_bare p l t)

  abbrev pub has_ended : ℕ → Bool
  has_ended t = is_root p t && is_ended p l t

  -- k is the track as read; what was asked of it
  module _ (t : ℕ) {k : Track} {root ended : Bool} (e : k ≡ track_of (l t)) (r : root ≡ is_root p t)
      (f : ended ≡ (is_forward k.mode && is_final p k.state)) where
    pub ended_asked : (root && ended) ≡ has_ended t
    unfolding track_of
    ended_asked = rw (r, f, e)

    pub done_asked : {inner bare : Bool} → bare ≡ (is_undoing k.mode && eqb k.count 0 && not inner) → (is_undoing (l t).mode ≡ true → inner ≡ has_open_scope p l t)
        → not (root && not (ended || bare)) ≡ is_done t
    unfolding track_of is_bare
    done_asked {inner} g o =
        rw (r, f, g, e, ← empty_count (l t).held) (not_both (is_root p t) _ ∙ ap (λ b. not (is_root p t) || (is_ended p l t || b)) (asked (is_undoing (l t).mode) refl))
      where
        not_both : (a b : Bool) → not (a && not b) ≡ (not a || b)
        not_both true true = refl
        not_both true false = refl
        not_both false b = refl

        asked : (u : Bool) → is_undoing (l t).mode ≡ u → ((u && is_empty (l t).held) && not inner) ≡ ((u && is_empty (l t).held) && not (has_open_scope p l t))
        asked true h = ap (λ b. is_empty (l t).held && not b) (o h)
        asked false h = refl

-- all roots, and one
module _ (bs : List ℕ) (c : Counts) (l : Ledger) where
  abbrev p : Plan
  p = plan_of bs c

  -- a root that is not done stops the visits
  pub stops : (t : ℕ) {r : Bool} → r ≡ is_done p l t → r ≡ false → t < c.tracks → false ≡ is_finishing p l
  unfolding is_finishing roots_done
  stops t e n b = ap (λ x. x && some_root_ended p l) (every_stops (is_done p l) t _ e n (omega (arith, track_count_lem bs c)))

  pub visited : (t : ℕ) {some : Bool} → every_below t (is_done p l) ≡ true → some ≡ some_below t (has_ended p l) → t ≤ c.tracks → c.tracks ≤ t
      → some ≡ is_finishing p l
  unfolding is_finishing roots_done some_root_ended
  visited t d e a b =
      let n : t ≡ c.tracks = omega arith in
      let i : t ≡ track_count p = n ∙ sym (track_count_lem bs c) in
      e ∙ ap (λ n. some_below n (has_ended p l)) i ∙ ap (λ x. x && some_root_ended p l) (sym (sym (ap (λ n. every_below n (is_done p l)) i) ∙ d))
