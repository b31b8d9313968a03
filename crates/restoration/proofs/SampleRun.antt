-- The run 10, 11, 12, 14, signal, fire 90, fire 50 on plan P: the events change the numbers and the piles, and whatever the books are, they
-- stand as at the begin in the end, by the restoration theorem. Assumes nothing.
use mathlib.Core.Path.{◌≡◌, refl}
use mathlib.Core.Bool.{true}
use mathlib.Core.List.{List, [], ◌∷◌}
use Prim.Native.Nat.{ℕ, zero, suc, ◌<◌}
use native.Mathlib.Omega.{arith}
use lib.IntN.{pos}
use Rattle.rules.specs.Rights.{signal_right, fire_right, is_permitted}
use Rattle.rules.specs.Setting.{main_terms}
use Rattle.rules.specs.Call.{Call, event, signal, fire, done, begin_outcome}
use Rattle.rules.specs.Books.{act, Books}
use Rattle.rules.specs.ReferenceRun.{booked_call, booked, books_from, books_after, ledger_after, AllWithdrawn}
use Rattle.rules.proofs.Tests.{clash}
use Rattle.starred.specs.SamplePlan.{plan_p, lent_for}
use Rattle.starred.specs.Computing.{computing}
use Rattle.restoration.specs.SampleAccount.{counts_p, P, raised}
use Rattle.restoration.specs.SamplePiles.{piled}
use Rattle.restoration.specs.Continuation.{MayWithdraw}
use Rattle.restoration.proofs.SampleTracks.{accepts-P}
use Rattle.restoration.proofs.SampleBooks.{accounts_p, piles_p}
use Rattle.restoration.proofs.Restoration.{restored}

-- The run.
abbrev lent : List ℕ
lent = lent_for 3

abbrev e : ℕ → Call
e n = event (record { event = n; day = pos 0; society = 1 })

abbrev f : ℕ → Call
f t = fire (record { track = t; society = 1 })

abbrev forth : List Call
forth = e 10 ∷ e 11 ∷ e 12 ∷ e 14 ∷ []

abbrev and_back : List Call
and_back = e 10 ∷ e 11 ∷ e 12 ∷ e 14 ∷ signal (record { society = 1 }) ∷ f 0 ∷ f 0 ∷ []

-- the events change the books
module _ (k : Books P main_terms) where
  abbrev midway : k.State → k.State
  midway b = books_after main_terms plan_p P k lent forth b

pub raised_midway : (midway (accounts_p main_terms) (λ t. 3) 0 ≡ 4) × (midway (accounts_p main_terms) (λ t. 3) 1 ≡ 10) × (midway (accounts_p main_terms) (λ t. 3) 2 ≡ 10)
unfolding computing books_after books_from booked booked_call act raised
raised_midway = (refl, refl, refl)

pub piled_midway : (midway (piles_p main_terms) (λ t. 9 ∷ []) 0 ≡ 0 ∷ 9 ∷ []) × (midway (piles_p main_terms) (λ t. 9 ∷ []) 1 ≡ 2 ∷ 9 ∷ [])
    × (midway (piles_p main_terms) (λ t. 9 ∷ []) 2 ≡ 4 ∷ 3 ∷ 9 ∷ [])
unfolding computing books_after books_from booked booked_call act piled
piled_midway = (refl, refl, refl)

-- the root is withdrawn in the end
withdrawn : AllWithdrawn P (ledger_after main_terms plan_p P lent and_back)
unfolding computing
withdrawn zero l r = record { undoing = refl; empty = refl; shut = refl }
withdrawn (suc zero) l r = clash r refl
withdrawn (suc (suc zero)) l r = clash r refl
withdrawn (suc (suc (suc t))) l r = absurd (omega arith)

-- and may be from any list of calls that does not end over: society 1 may signal and fire every track
pub society_one : MayWithdraw P 1 (λ t. 1)
unfolding computing
society_one = record { signals = λ t b e. signals t b; fires = fires }
  where
    signals : (t : ℕ) → t < 3 → is_permitted P signal_right 1 t ≡ true
    signals zero b = refl
    signals (suc zero) b = refl
    signals (suc (suc zero)) b = refl
    signals (suc (suc (suc t))) b = absurd (omega arith)

    fires : (t : ℕ) → t < 3 → is_permitted P fire_right 1 t ≡ true
    fires zero b = refl
    fires (suc zero) b = refl
    fires (suc (suc zero)) b = refl
    fires (suc (suc (suc t))) b = absurd (omega arith)

begins : (begin_outcome main_terms plan_p lent).answer ≡ done []
unfolding computing
begins = refl

-- and so the books stand as at the begin, whichever they are and whatever they were
pub given_back : (k : Books P main_terms) (b : k.State) → books_after main_terms plan_p P k lent and_back b ≡ b
given_back k b = restored main_terms plan_p counts_p accepts-P k lent and_back begins b withdrawn

-- the piles among them, whose hosted tracks' part was put on by a finished run and taken off by replacement 90
pub piles_given_back : (b : ℕ → List ℕ) → books_after main_terms plan_p P (piles_p main_terms) lent and_back b ≡ b
piles_given_back = given_back (piles_p main_terms)
