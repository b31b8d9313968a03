-- Tests taken apart: what a conjunction, a disjunction and a table of refusals tell of their parts. Assumes nothing.
use mathlib.Core.Path.{◌≡◌, refl, sym}
use mathlib.Core.Logic.{◌⊎◌, inl, inr}
use mathlib.Core.Bool.{Bool, true, false, cond, not, ◌&&◌, ◌||◌}
use mathlib.Core.Option.{Option, none, some}
use Prim.Native.Nat.{ℕ, zero, suc, ◌<◌}
use native.Mathlib.Omega.{arith}
use native.Mathlib.Nat.{not-suc-le-zero}

-- a test holds or fails, with the equation
pub look : (b : Bool) → (b ≡ true) ⊎ (b ≡ false)
look true = inl refl
look false = inr refl

pub look_option : {A : Type 0} (o : Option A) → (o ≡ none) ⊎ ((a : A) × (o ≡ some a))
look_option none = inl refl
look_option (some a) = inr (a, refl)

-- a test does not both hold and fail
pub clash {ℓ} : {A : Type ℓ} {b : Bool} → b ≡ true → b ≡ false → A
clash h k = let z : ◌≡◌ {A = ℕ} 0 1 = cc in absurd (omega arith)

pub none-some {ℓ} : {A : Type ℓ} {B : Type 0} {o : Option B} {b : B} → o ≡ none → o ≡ some b → A
none-some h k = let z : ◌≡◌ {A = ℕ} 0 1 = cc in absurd (omega arith)

pub refuted : (b : Bool) → (b ≡ true → ⊥) → b ≡ false
refuted true f = absurd (f refl)
refuted false f = refl

pub and_holds : (a b : Bool) → (a && b) ≡ true → (a ≡ true) × (b ≡ true)
and_holds true b h = (refl, h)
and_holds false b h = (h, clash h refl)

pub and_both : (a b : Bool) → a ≡ true → b ≡ true → (a && b) ≡ true
and_both a b h k = rw (h, k)

pub and_not : (a b : Bool) → (a ≡ true → b ≡ true → ⊥) → (a && b) ≡ false
and_not true true h = absurd (h refl refl)
and_not true false h = refl
and_not false b h = refl

pub or_holds : (a b : Bool) → (a || b) ≡ true → (a ≡ true) ⊎ (b ≡ true)
or_holds true b h = inl refl
or_holds false b h = inr h

pub or_fails : (a b : Bool) → (a || b) ≡ false → (a ≡ false) × (b ≡ false)
or_fails true b h = (h, clash refl h)
or_fails false b h = (refl, h)

pub or_right : (a b : Bool) → b ≡ true → (a || b) ≡ true
or_right true b h = refl
or_right false b h = h

-- a test "not a, or b" is an implication
pub implies : (a b : Bool) → (not a || b) ≡ true → a ≡ true → b ≡ true
implies true b h k = h
implies false b h k = clash k refl

pub implied : (a b : Bool) → (a ≡ true → b ≡ true) → (not a || b) ≡ true
implied true b h = h refl
implied false b h = refl

-- a table of refusals that gives 0 has none at its head
pub passed : (b : Bool) (n r : ℕ) → cond b (suc n) r ≡ 0 → (b ≡ false) × (r ≡ 0)
passed true n r h = absurd (omega arith)
passed false n r h = (refl, h)

-- a single row refuses only where its test holds, and by its own number
pub if_refused : (b : Bool) (n r : ℕ) → cond b (suc n) 0 ≡ suc r → (b ≡ true) × (r ≡ n)
if_refused true n r h = (refl, omega arith)
if_refused false n r h = absurd (omega arith)

-- strong induction
pub strong : (C : ℕ → Type 0) → ((t : ℕ) → ((u : ℕ) → u < t → C u) → C t) → (t : ℕ) → C t
strong C f t = go (suc t) t (omega arith)
  where
    go : (k t : ℕ) → t < k → C t
    go zero t l = absurd (not-suc-le-zero l)
    go (suc k) t l = f t (λ u m. go k u (omega arith))

-- two tests each of which holds where the other does
pub same_test : (a b : Bool) → (a ≡ true → b ≡ true) → (b ≡ true → a ≡ true) → a ≡ b
same_test true b f g = sym (f refl)
same_test false true f g = g refl
same_test false false f g = refl
