-- Finish, in facts: it is due where every root has ended or is bare and one has ended. So a root that is neither keeps the ledger going, and so do
-- roots of which none has ended. Assumes nothing.
use mathlib.Core.Path.{◌≡◌, fun_ext}
use mathlib.Core.Logic.{◌⊎◌, inl, inr}
use mathlib.Core.Bool.{true, false, not, ◌&&◌, ◌||◌}
use mathlib.Core.Option.{none}
use Prim.Native.Nat.{ℕ, ◌<◌}
use Rattle.rules.specs.Plan.{Plan, track_count, host, is_root}
use Rattle.rules.specs.Ledger.{Ledger, sleeping}
use Rattle.rules.specs.Scope.{is_ended, is_bare}
use Rattle.rules.specs.Finish.{roots_done, some_root_ended, is_finishing, finished}
use Rattle.rules.proofs.Tests.{look, clash, refuted, and_holds, and_both, implies, implied}
use Rattle.rules.proofs.Folds.{every_at, every_of, some_at, some_find}
use Rattle.rules.proofs.Scopes.{root_of_lem, root_none}

-- finish is due: what holds of every root, and one that has ended
pub record Done (p : Plan) (l : Ledger) : Type 0 where
  pub every : (t : ℕ) → t < track_count p → host p t ≡ none → (is_ended p l t || is_bare p l t) ≡ true
  pub root : ℕ
  pub low : root < track_count p
  pub unhosted : host p root ≡ none
  pub ended : is_ended p l root ≡ true

module _ (p : Plan) (l : Ledger) where
  pub finishing_done : is_finishing p l ≡ true → Done p l
  unfolding is_finishing roots_done some_root_ended
  finishing_done h =
      let (a, b) = and_holds (roots_done p l) (some_root_ended p l) h in
      let (r, c, k) = some_find (track_count p) (λ t. is_root p t && is_ended p l t) b in
      let (i, e) = and_holds (is_root p r) (is_ended p l r) k in
      record {
        every = λ t d n.
            implies (is_root p t) (is_ended p l t || is_bare p l t)
            (every_at (track_count p) (λ t. not (is_root p t) || (is_ended p l t || is_bare p l t)) a t d) (root_of_lem p t n);
        root = r;
        low = c;
        unhosted = root_none p r i;
        ended = e;
      }

  pub done_finishing : Done p l → is_finishing p l ≡ true
  unfolding is_finishing roots_done some_root_ended
  done_finishing d =
      and_both (roots_done p l) (some_root_ended p l)
      (every_of (track_count p) (λ t. not (is_root p t) || (is_ended p l t || is_bare p l t))
      (λ t b. implied (is_root p t) (is_ended p l t || is_bare p l t) (λ r. d.every t b (root_none p t r))))
      (some_at (track_count p) (λ t. is_root p t && is_ended p l t) d.root d.low
      (and_both (is_root p d.root) (is_ended p l d.root) (root_of_lem p d.root d.unhosted) d.ended))

  -- a root that neither has ended nor is bare
  pub goes_on : (t : ℕ) → t < track_count p → host p t ≡ none → (is_ended p l t || is_bare p l t) ≡ false → is_finishing p l ≡ false
  goes_on t b e n = refuted (is_finishing p l) (λ h. clash ((finishing_done h).every t b e) n)

  -- no root that has ended
  pub none_ended : ((t : ℕ) → t < track_count p → host p t ≡ none → is_ended p l t ≡ false) → is_finishing p l ≡ false
  none_ended n = refuted (is_finishing p l) (λ h. let d = finishing_done h in clash d.ended (n d.root d.low d.unhosted))

  -- every track goes to sleep, or none
  pub finish_due : is_finishing p l ≡ true → (t : ℕ) → finished p l t ≡ sleeping
  unfolding finished
  finish_due h t = rw h

  pub finish_not : is_finishing p l ≡ false → finished p l ≡ l
  unfolding finished
  finish_not h = fun_ext (λ t. rw h)

  pub finish_cases : ((finished p l ≡ l) × (is_finishing p l ≡ false)) ⊎ ((t : ℕ) → finished p l t ≡ sleeping)
  finish_cases = elim (look (is_finishing p l)) [ inl h ↦ inr (finish_due h) | inr h ↦ inl (finish_not h, h) ]
