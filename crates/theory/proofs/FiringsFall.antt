-- The bound on firings, on ledgers: an accepted firing removes an entry, a signal leaves them all but where it finishes, and a ledger holds at most
-- `limit` entries for each track; so without an accepted event no more firings are accepted than entries were held. Assumes nothing.
use mathlib.Core.Path.{◌≡◌, refl, sym, ap, ◌∙◌}
use mathlib.Core.Logic.{inl, inr}
use mathlib.Core.Bool.{true, false, not, ◌&&◌}
use mathlib.Core.List.{List, [], ◌∷◌}
use Prim.Native.Nat.{ℕ, zero, suc, ◌+◌, ◌*◌, ◌<◌, ◌≤◌}
use native.Mathlib.Omega.{arith}
use lib.ListN.{length}
use lib.Dec.{eqb}
use borrow.Author.Tests.{eqb-true, eqb-false, eq-eqb, not-true}
use Rattle.rules.specs.Fold.{sum_below}
use Rattle.rules.specs.Plan.{Plan, track_count, host}
use Rattle.rules.specs.Ledger.{Entry, Configuration, Ledger, is_empty}
use Rattle.rules.specs.Opening.{enter}
use Rattle.rules.specs.Signal.{is_abandoned, abandoned}
use Rattle.rules.specs.Fire.{may_fire, removed, deviates_to, fired}
use Rattle.rules.specs.Transcript.{held_total}
use Rattle.rules.proofs.Tests.{look, look_option, clash, and_holds}
use Rattle.rules.proofs.Folds.{sum_same, sum_one}
use Rattle.rules.proofs.Acceptance.{Accepted}
use Rattle.rules.proofs.Abandoning.{spent_parts, abandoned_root, left_asleep, left_kept, abandoned_spent}
use Rattle.rules.proofs.Ready.{may_fire_lem}
use Rattle.theory.specs.Seams.{Seams, Call, event, signal, fire, is_event, firings_of, turned, work}
use Rattle.theory.specs.Runs.{firings_from, is_eventless}
use Rattle.theory.proofs.EnteringNested.{Fate, enters, wakens, stays, fate, fresh_held}
use Rattle.theory.proofs.Entries.{older_less, empty_nil}
use Rattle.theory.proofs.FiringNested.{fired_is, removed_here, removed_other}
use Rattle.theory.proofs.SoundParts.{sleeping_held}
use Rattle.theory.proofs.Laws.{Laws}
use Rattle.theory.proofs.Settling.{next_cases}
use Rattle.theory.proofs.Turning.{turned_held}
use Rattle.theory.proofs.SoundKept.{Kept}
use Rattle.rules.specs.declared.Terms.{Terms}

-- Sums over the tracks.
sum_mono : (n : ℕ) (f g : ℕ → ℕ) → ((t : ℕ) → f t ≤ g t) → sum_below n f ≤ sum_below n g
unfolding sum_below
sum_mono zero f g h = omega arith
sum_mono (suc n) f g h = let i = sum_mono n f g h in let k = h n in omega arith

sum_most : (n m : ℕ) (f : ℕ → ℕ) → ((t : ℕ) → f t ≤ m) → sum_below n f ≤ m * n
unfolding sum_below
sum_most zero m f h = omega arith
sum_most (suc n) m f h = let i = sum_most n m f h in let j = h n in omega arith

-- What each part of a signal and of a firing does to the entries held.
module _ (p : Plan) (ok : Accepted p) (l : Ledger) where
  -- what abandoning sends to sleep holds nothing
  pub abandoned_held : (t : ℕ) → (abandoned p l t).held ≡ (l t).held
  abandoned_held t =
      elim (look (is_abandoned p l t)) [
        | inr c ↦ ap (λ (k : Configuration). k.held) (left_kept p ok l t c)
        | inl c ↦
            ap (λ (k : Configuration). k.held) (left_asleep p ok l t c) ∙ sleeping_held
            ∙ sym (empty_nil (l t).held (spent_parts p ok l t (hosted_low t c) (abandoned_spent p ok l t c)).empty)
      ]
    where
      hosted_low : (t : ℕ) → is_abandoned p l t ≡ true → t < track_count p
      hosted_low t c =
          elim (look_option (host p t)) [ inl e ↦ clash c (abandoned_root p ok l t e) | inr e ↦ ok.hosted t e.0 e.1 ]

  pub abandoned_total : held_total p (abandoned p l) ≡ held_total p l
  unfolding held_total
  abandoned_total =
      sum_same (track_count p) (λ t. length (abandoned p l t).held) (λ t. length (l t).held) (λ t b. ap length (abandoned_held t))

  -- the newest entry of a track removed
  pub removed_one : (t : ℕ) → t < track_count p → is_empty (l t).held ≡ false → suc (held_total p (removed l t)) ≡ held_total p l
  unfolding held_total
  removed_one t b e =
      sum_one (track_count p) (λ u. length (removed l t u).held) (λ u. length (l u).held) t b
      (ap (λ (es : List Entry). suc (length es)) (removed_here p l t t (eq-eqb t t refl)) ∙ older_less (l t).held e)
      (λ u n. ap (λ (k : Configuration). length k.held) (removed_other p l t u n))

  fired_fewer : (t u : ℕ) → length (fired p l t u).held ≤ length (removed l t u).held
  fired_fewer t u = rw (fired_is p l t) (go (fate p ok (removed l t) (deviates_to l t) u))
    where
      go : Fate p ok (removed l t) (deviates_to l t) u → length (enter p (deviates_to l t) (removed l t) u).held ≤ length (removed l t u).held
      go (enters d k q) = rw q (omega arith)
      go (wakens k w q) = rw (q, fresh_held p u) (omega arith)
      go (stays k w q) = rw q (omega arith)

module _ {σ : Seams} (ω : Laws σ) (terms : Terms) (p : Plan) (ok : Accepted p) where
  open σ use {Head, next_head, refusal, next}

  signal_leaves : (l : Ledger) (a : σ.Signal) → held_total p (abandoned p (turned σ p l a)) ≡ held_total p l
  unfolding held_total
  signal_leaves l a =
      abandoned_total p ok (turned σ p l a)
      ∙ sum_same (track_count p) (λ t. length (turned σ p l a t).held) (λ t. length (l t).held) (λ t b. ap length (turned_held ω p l a t))

  fire_fewer : (l : Ledger) (t : ℕ) → may_fire p l t ≡ true → held_total p (abandoned p (fired p l t)) < held_total p l
  unfolding held_total
  fire_fewer l t m =
      let (b, u, e, f) = may_fire_lem p l t m in
      let x = sum_mono (track_count p) (λ u. length (fired p l t u).held) (λ u. length (removed l t u).held) (fired_fewer p ok l t) in
      omega (arith, abandoned_total p ok (fired p l t), x, removed_one p ok l t b e)

  -- settling adds nothing
  settled_fewer : (h : Head) (l : Ledger) (c : Call σ) → refusal terms p h l c ≡ 0 → held_total p (next terms p h l c) ≤ held_total p (work σ p l c)
  unfolding held_total
  settled_fewer h l c z =
      elim (next_cases ω terms p h l c z) [
        | inl q ↦ rw q (omega arith)
        | inr o ↦
            sum_mono (track_count p) (λ t. length (next terms p h l c t).held) (λ t. length (work σ p l c t).held)
            (λ t. rw (o t, sleeping_held) (omega arith))
      ]

  -- an accepted call that is no event: what it fires, and what is held afterwards, was held before
  pub call_fewer : (h : Head) (l : Ledger) (c : Call σ) → refusal terms p h l c ≡ 0 → is_event c ≡ false
      → firings_of c + held_total p (next terms p h l c) ≤ held_total p l
  call_fewer h l (event a) z n = clash refl n
  call_fewer h l (signal a) z n = omega (arith, signal_leaves l a, settled_fewer h l (signal a) z)
  call_fewer h l (fire a) z n =
      let x = fire_fewer l (σ.track a) (ω.fire_accepted terms p h l a z).1 in
      let y = settled_fewer h l (fire a) z in omega arith

  -- in any list without an accepted event no more firings are accepted than entries were held
  pub firings_held : (cs : List (Call σ)) (h : Head) (l : Ledger) → is_eventless σ p terms h l cs ≡ true → firings_from σ p terms h l cs ≤ held_total p l
  unfolding firings_from is_eventless
  firings_held [] h l n = omega arith
  firings_held (c ∷ cs) h l n =
      let (x, y) =
      and_holds (not (eqb (refusal terms p h l c) 0 && is_event c)) (is_eventless σ p terms (next_head terms p h l c) (next terms p h l c) cs) n in
      let i = firings_held cs (next_head terms p h l c) (next terms p h l c) y in
      elim (look (eqb (refusal terms p h l c) 0)) [
        | inl z ↦
            let e : not (is_event c) ≡ true = rw z at x in
            let j = call_fewer h l c (eqb-true (refusal terms p h l c) 0 z) (not-true (is_event c) e) in
            rw z (omega arith)
        | inr z ↦
            let q : held_total p (next terms p h l c) ≡ held_total p l =
            ap (held_total p) (ω.refused terms p h l c (eqb-false (refusal terms p h l c) 0 z)).0 in
            rw z (omega arith)
      ]

  -- and a sound ledger holds at most `limit` for each track
  pub most_held : (l : Ledger) → Kept σ terms p l → held_total p l ≤ terms.limit * track_count p
  unfolding held_total
  most_held l (inl o) = sum_most (track_count p) terms.limit (λ t. length (l t).held) (λ t. rw (o t, sleeping_held) (omega arith))
  most_held l (inr s) = sum_most (track_count p) terms.limit (λ t. length (l t).held) s.formed.few

  pub firings_bounded : (cs : List (Call σ)) (h : Head) (l : Ledger) → Kept σ terms p l → is_eventless σ p terms h l cs ≡ true
      → firings_from σ p terms h l cs ≤ terms.limit * track_count p
  firings_bounded cs h l k n = let i = firings_held cs h l n in let j = most_held l k in omega arith
