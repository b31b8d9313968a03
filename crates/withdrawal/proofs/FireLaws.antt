-- What may be fired, and what a firing leaves as it was: the other tracks, and those that wake were asleep. Assumes nothing.
use Rattle.std.proofs.Common.{◌≡◌, sym, ap, ◌∙◌, subst, inl, inr, true, false, not, ◌&&◌, ℕ, ◌<◌, eqb, ltb, eqb-true, ne_eqb, ltb-true}
use Rattle.std.proofs.Math.Option.{Option, none, some}
use borrow.Author.Tests.{eqb-false, not-true}
use Rattle.rules.specs.Plan.{Plan, track_count, host, owner, is_hosted_by, first_state}
use Rattle.rules.specs.Ledger.{Ledger, is_awake, is_undoing, is_empty}
use Rattle.rules.specs.Scope.{has_open_scope}
use Rattle.rules.specs.Opening.{wakes}
use Rattle.rules.specs.Fire.{may_fire, removed, deviates_to}
use Rattle.rules.proofs.Tests.{look, look_option, clash, refuted, and_holds, strong}
use Rattle.rules.proofs.Acceptance.{Accepted}
use Rattle.rules.proofs.Scopes.{host_by, free_at}
use Rattle.rules.proofs.Opening.{wakes_root, wakes_woken}
use Rattle.rules.proofs.Soundness.{Live}

-- the four parts of the rule under Fire
pub record Fires (p : Plan) (l : Ledger) (t : ℕ) : Type 0 where
  pub low : t < track_count p
  pub undoing : is_undoing (l t).mode ≡ true
  pub holding : is_empty (l t).held ≡ false
  pub free : has_open_scope p l t ≡ false

pub fire_parts : (p : Plan) (l : Ledger) (t : ℕ) → may_fire p l t ≡ true → Fires p l t
unfolding may_fire
fire_parts p l t h =
    let A = ltb t (track_count p) in
    let B = is_undoing (l t).mode in
    let C = not (is_empty (l t).held) in
    let q2 = and_holds (A && B && C) (not (has_open_scope p l t)) h in
    let q1 = and_holds (A && B) C q2.0 in
    let q0 = and_holds A B q1.0 in
    record { low = ltb-true t (track_count p) q0.0; undoing = q0.1; holding = not-true _ q1.1; free = not-true _ q2.1 }

module _ (p : Plan) (l : Ledger) (t : ℕ) where
  pub to_other : (u : ℕ) → (u ≡ t → ⊥) → deviates_to l t u ≡ none
  unfolding deviates_to
  to_other u n = rw (ne_eqb u t n)

  pub removed_other : (u : ℕ) → (u ≡ t → ⊥) → removed l t u ≡ l u
  unfolding removed
  removed_other u n = rw (ne_eqb u t n)

module _ (p : Plan) (ok : Accepted p) (l : Ledger) (live : Live p l) (t : ℕ) (may : Fires p l t) where
  abbrev to : ℕ → Option ℕ
  to = deviates_to l t

  -- what wakes was asleep
  pub woken_asleep : (u : ℕ) → wakes p to u ≡ true → is_awake (l u).mode ≡ false
  woken_asleep =
      strong (λ u. wakes p to u ≡ true → is_awake (l u).mode ≡ false)
      (λ u ih w.
      elim (look_option (host p u)) [
        | inl e ↦ clash w (wakes_root p ok to u e)
        | inr e ↦ at u e.0 e.1 (ih (owner p e.0) (ok.lower u e.0 e.1)) w
      ])
    where
      at : (u h : ℕ) → host p u ≡ some h → (wakes p to (owner p h) ≡ true → is_awake (l (owner p h)).mode ≡ false) → wakes p to u ≡ true → is_awake (l u).mode ≡ false
      at u h e ih w =
          elim (look (eqb (owner p h) t)) [
            | inl q ↦
                let b : is_hosted_by p t u ≡ true = subst (λ x. is_hosted_by p x u ≡ true) (eqb-true (owner p h) t q) (host_by p u h e) in
                free_at p l t u may.free (ok.hosted u h e) b
            | inr q ↦
                let z = to_other p l t (owner p h) (eqb-false (owner p h) t q) in
                let (a, b) = and_holds (wakes p to (owner p h)) (eqb h (first_state p (owner p h))) (sym (wakes_woken p ok to u h e z) ∙ w) in
                refuted (is_awake (l u).mode) (λ c. clash (ap is_awake (live.up u h e c).1 ∙ c) (ih a))
          ]
