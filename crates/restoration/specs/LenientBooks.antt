-- Property 3's claim about the books under conditions that ask less: some of them dropped, or asked of some codes only. Assumes nothing.
use Rattle.std.specs.Prelude.{◌≡◌, Bool, true, false, not, List, [], ◌∷◌, ℕ, ◌<◌, eqb}
use Rattle.std.proofs.Math.Option.{some}
use Rattle.rules.specs.declared.Counts.{Counts}
use Rattle.rules.specs.declared.Terms.{Terms}
use Rattle.rules.specs.Plan.{Plan, plan_of, track_count, transition_count, transition, host, replacement, mover}
use Rattle.rules.specs.Acceptance.{accepted, read_plan}
use Rattle.rules.specs.Ledger.{Ledger, ledger_at}
use Rattle.rules.specs.Fire.{newest}
use Rattle.rules.specs.Call.{Answer, refusal, done, Call, event, signal, fire, begin_outcome, call_outcome}
use Rattle.rules.specs.FinishedRun.{moves_of, Finished}
use Rattle.rules.specs.Books.{Apart, Deed, does, act}
use Rattle.rules.specs.ReferenceRun.{ledger_after, AllWithdrawn}

-- What is asked of books: that code 0 changes nothing, of which transitions' codes and which hosting states' replacements that they undo,
-- that changes of tracks that are apart commute, and that their retractions do too.
pub record Asked : Type 0 where
  pub of_nothing : Bool
  pub of_code : ℕ → Bool
  pub of_replacement : ℕ → Bool
  pub of_changes : Bool
  pub of_retractions : Bool

-- The conditions of property 3, as far as they are asked.
pub record Lenient (p : Plan) (terms : Terms) (asked : Asked) : Type 1 where
  pub State : Type 0
  pub changed : ℕ → State → State
  pub retracted : ℕ → State → State
  pub nothing : asked.of_nothing ≡ true → (b : State) → retracted 0 b ≡ b
  pub undo : (x : ℕ) → x < transition_count p → asked.of_code (transition p x).code ≡ true → (b : State) → retracted (transition p x).code (changed x b) ≡ b
  pub undo_run : (s t : ℕ) → host p t ≡ some s → asked.of_replacement (replacement p s) ≡ true → (w : List ℕ) → Finished p terms s w
      → (b : State) → retracted (replacement p s) (act changed w b) ≡ b
  pub commute : asked.of_changes ≡ true → (x y : ℕ) → x < transition_count p → y < transition_count p → Apart p (mover p x) (mover p y)
      → (b : State) → changed x (changed y b) ≡ changed y (changed x b)
  pub commute_all : asked.of_retractions ≡ true → (t u : ℕ) → Apart p t u → (d : Deed p t) (e : Deed p u)
      → (b : State) → does p changed retracted d (does p changed retracted e b) ≡ does p changed retracted e (does p changed retracted d b)

-- The reference run's books, with no condition on the changes.
module _ (terms : Terms) (bs : List ℕ) (p : Plan) {S : Type 0} (changed retracted : ℕ → S → S) where
  unfoldable pub freely_call : Ledger → Call → S → S
  freely_call l (event a) b = act changed (moves_of p (λ t. true) l a) b
  freely_call l (signal a) b = b
  freely_call l (fire a) b = retracted (newest (l a.track).held).code b

  unfoldable pub freely_booked : Ledger → Call → Answer → S → S
  freely_booked l c (refusal n) b = b
  freely_booked l c (done figures) b = freely_call l c b

  unfoldable pub freely : List ℕ → List Call → S → S
  freely ws [] b = b
  freely ws (c ∷ cs) b =
      freely (call_outcome terms bs ws c).words cs
      (freely_booked (ledger_at terms ws (track_count p)) c (call_outcome terms bs ws c).answer b)

-- the claim, with so much asked
abbrev pub Claim : Terms → Asked → Type 1
Claim terms asked =
    (bs : List ℕ) (c : Counts) → read_plan bs ≡ accepted c
    → (k : Lenient (plan_of bs c) terms asked) (lent : List ℕ) (cs : List Call)
    → (begin_outcome terms bs lent).answer ≡ done []
    → AllWithdrawn (plan_of bs c) (ledger_after terms bs (plan_of bs c) lent cs)
    → (b : k.State)
    → freely terms bs (plan_of bs c) k.changed k.retracted (begin_outcome terms bs lent).words cs b ≡ b

-- all conditions, and all but one
abbrev pub every : ℕ → Bool
every c = true

abbrev pub none_of : ℕ → Bool
none_of c = false

abbrev pub only_real : ℕ → Bool
only_real c = not (eqb c 0)

abbrev pub only_zero : ℕ → Bool
only_zero c = eqb c 0

abbrev pub all_asked : Asked
all_asked = record { of_nothing = true; of_code = every; of_replacement = every; of_changes = true; of_retractions = true }

abbrev pub without_nothing : Asked
without_nothing = record { of_nothing = false; of_code = every; of_replacement = every; of_changes = true; of_retractions = true }

-- of the codes that pass a test alone
abbrev pub undone_where : (ℕ → Bool) → Asked
undone_where f = record { of_nothing = true; of_code = f; of_replacement = every; of_changes = true; of_retractions = true }

abbrev pub replaced_where : (ℕ → Bool) → Asked
replaced_where f = record { of_nothing = true; of_code = every; of_replacement = f; of_changes = true; of_retractions = true }

abbrev pub without_commuting : Asked
without_commuting = record { of_nothing = true; of_code = every; of_replacement = every; of_changes = false; of_retractions = false }

-- of retractions nothing
abbrev pub changes_alone : Asked
changes_alone = record { of_nothing = true; of_code = every; of_replacement = every; of_changes = true; of_retractions = false }
