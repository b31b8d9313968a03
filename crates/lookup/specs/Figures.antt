-- Figures that a pass keeps, one for each track that there can be, and the one track that a visit concerns. Assumes nothing.
use Rattle.std.specs.Prelude as std
use Rattle.std.specs.Prelude.{◌≡◌, Bool, List, ℕ, ◌<◌, eqb, length, get_or}
use Rattle.std.proofs.Math.Option.{Option}
use Rattle.rules.specs.Plan.{no_state, optional}
use Rattle.plan.specs.Passes.{slots}

-- a figure for each of the 32 tracks, and those of the tracks below n are as f says
pub record Figures {A : Type 0} (d : A) (ms : List A) (n : ℕ) (f : ℕ → A) : Type 0 where
  pub size : length ms ≡ slots
  pub at : (t : ℕ) → t < n → get_or ms t d ≡ f t

-- the same of numbers of which some are missing: the word of one that is missing is 65535
pub record Numbers (ms : List ℕ) (n : ℕ) (f : ℕ → Option ℕ) : Type 0 where
  pub size : length ms ≡ slots
  pub at : (t : ℕ) → t < n → optional (get_or ms t 0) ≡ f t

-- r is the one track below n that passes the test, 65535 if none does
pub record Only (n : ℕ) (test : ℕ → Bool) (r : ℕ) : Type 0 where
  pub low : (r ≡ no_state → ⊥) → r < n
  pub at : (t : ℕ) → t < n → test t ≡ eqb t r

-- the same where the code may answer that there is none
abbrev pub OnlyOne : ℕ → (ℕ → Bool) → std.Option ℕ → Type 0
OnlyOne n test std.None = Only n test no_state
OnlyOne n test (std.Some r) = (r < n) × Only n test r
