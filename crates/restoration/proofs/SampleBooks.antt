-- The conditions can be met on the sample plan P: by numbers, which a track's changes raise and its retractions lower again, and by piles, on
-- which they put and from which they take. The piles see the order: what is not taken off newest first is not given back. Assumes nothing.
use mathlib.Core.Path.{◌≡◌, refl, ap, ◌∙◌}
use mathlib.Core.List.{List, [], ◌∷◌}
use Prim.Native.Nat.{ℕ, zero, suc, ◌<◌}
use native.Mathlib.Omega.{arith}
use lib.ListN.{length, get_or}
use borrow.Author.Tests.{ne_eqb}
use Rattle.rules.specs.Plan.{transition_count, transition, mover}
use Rattle.rules.specs.Books.{Books}
use Rattle.starred.specs.Computing.{computing}
use Rattle.restoration.specs.SampleAccount as account
use Rattle.restoration.specs.SampleAccount.{P, raised, lowered}
use Rattle.restoration.specs.SamplePiles as pile
use Rattle.restoration.specs.SamplePiles.{without, without_all, piled, unpiled}
use Rattle.restoration.proofs.SampleTracks.{five, Trackwise, trackwise}
use Rattle.rules.specs.declared.Terms.{Terms}

-- A table with one line for each track that has a value at the track of each transition's code alone.
module _ {A : Type 0} (d : A) where
  only_root : (a : A) (t : ℕ) → (0 ≡ t → ⊥) → get_or (a ∷ []) t d ≡ d
  only_root a zero n = absurd (n refl)
  only_root a (suc t) n = refl

  only_left : (a : A) (t : ℕ) → (1 ≡ t → ⊥) → get_or (d ∷ a ∷ []) t d ≡ d
  only_left a zero n = refl
  only_left a (suc zero) n = absurd (n refl)
  only_left a (suc (suc t)) n = refl

  only_right : (a : A) (t : ℕ) → (2 ≡ t → ⊥) → get_or (d ∷ d ∷ a ∷ []) t d ≡ d
  only_right a zero n = refl
  only_right a (suc zero) n = refl
  only_right a (suc (suc zero)) n = absurd (n refl)
  only_right a (suc (suc (suc t))) n = refl

  only_hosted : (a b : A) (t : ℕ) → (t ≡ 1 → ⊥) → (t ≡ 2 → ⊥) → get_or (d ∷ a ∷ b ∷ []) t d ≡ d
  only_hosted a b zero n m = refl
  only_hosted a b (suc zero) n m = absurd (n refl)
  only_hosted a b (suc (suc zero)) n m = absurd (m refl)
  only_hosted a b (suc (suc (suc t))) n m = refl

-- Numbers.
account_kept : (t x : ℕ) → x < transition_count P → (mover P x ≡ t → ⊥) → get_or (account.takes (transition P x).code) t 0 ≡ 0
unfolding computing
account_kept t x l n =
    five (λ x. (mover P x ≡ t → ⊥) → get_or (account.takes (transition P x).code) t 0 ≡ 0)
    (only_root 0 1 t) (λ n. refl) (only_left 0 7 t) (only_right 0 2 t) (only_right 0 5 t) x l n

pub accounts : Trackwise raised lowered
unfolding computing raised lowered
accounts =
    record {
      nothing = λ t a. omega arith;
      undo =
          five (λ x. (a : ℕ) → lowered (mover P x) (transition P x).code (raised (mover P x) x a) ≡ a)
          (λ a. omega arith) (λ a. omega arith) (λ a. omega arith) (λ a. omega arith) (λ a. omega arith);
      still = λ t x l n a. rw (ne_eqb (mover P x) t n) (omega arith);
      kept = λ t x l n a. rw (account_kept t x l n) (omega arith);
      undo_left = λ a. omega arith;
      undo_right = λ a. omega arith;
      undo_other = λ t n m a. rw (only_hosted {A = ℕ} 0 7 7 t n m) (omega arith);
    }

abbrev pub accounts_p : (terms : Terms) → Books P terms
accounts_p terms = trackwise raised lowered accounts terms

-- Piles.
piles_kept : (t x : ℕ) → x < transition_count P → (mover P x ≡ t → ⊥) → get_or (pile.takes (transition P x).code) t [] ≡ []
unfolding computing
piles_kept t x l n =
    five (λ x. (mover P x ≡ t → ⊥) → get_or (pile.takes (transition P x).code) t [] ≡ [])
    (only_root [] (0 ∷ []) t) (λ n. refl) (only_left [] (2 ∷ []) t) (only_right [] (3 ∷ []) t) (only_right [] (4 ∷ []) t) x l n

pub piles : Trackwise piled unpiled
unfolding computing piled unpiled without without_all
piles =
    record {
      nothing = λ t a. refl;
      undo =
          five (λ x. (a : List ℕ) → unpiled (mover P x) (transition P x).code (piled (mover P x) x a) ≡ a)
          (λ a. refl) (λ a. refl) (λ a. refl) (λ a. refl) (λ a. refl);
      still = λ t x l n a. rw (ne_eqb (mover P x) t n);
      kept = λ t x l n a. rw (piles_kept t x l n);
      undo_left = λ a. refl;
      undo_right = λ a. refl;
      undo_other = λ t n m a. rw (only_hosted {A = List ℕ} [] (2 ∷ []) (4 ∷ 3 ∷ []) t n m);
    }

abbrev pub piles_p : (terms : Terms) → Books P terms
piles_p terms = trackwise piled unpiled piles terms

-- They tell in which order the right track's two moves are undone: newest first gives the state back, oldest first never does.
module _ (terms : Terms) (b : ℕ → List ℕ) where
  open piles_p terms use {changed, retracted}

  pub newest_first : retracted 52 (retracted 54 (changed 4 (changed 3 b))) ≡ b
  unfolding computing
  newest_first = ap (retracted 52) ((piles_p terms).undo 4 (omega arith) (changed 3 b)) ∙ (piles_p terms).undo 3 (omega arith) b

  pub not_oldest_first : retracted 54 (retracted 52 (changed 4 (changed 3 b))) ≡ b → ⊥
  unfolding computing piled unpiled without without_all
  not_oldest_first e = let z : suc (length (b 2)) ≡ length (b 2) = ap (λ (c : ℕ → List ℕ). length (c 2)) e in omega arith
