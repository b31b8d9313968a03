-- Property 3 as a contract can carry it, in Type 0: its part on the books is said of the free books alone. `proofs/FreeBooks.antt` shows that it
-- is the same claim. Assumes nothing.
use Rattle.std.specs.Prelude.{◌≡◌, true, false, List, ℕ, ◌<◌}
use Rattle.rules.specs.Names.{Bytes, Words}
use Rattle.rules.specs.declared.Mode.TheVariants.{Undoing}
use Rattle.rules.specs.declared.Terms.{Terms}
use Rattle.rules.specs.Plan.{Plan, track_count}
use Rattle.rules.specs.Ledger.{is_empty}
use Rattle.rules.specs.Fire.{may_fire}
use Rattle.rules.specs.Call.{Answer, Call}
use Rattle.rules.specs.ReferenceRun.{words_after, answers_after, ledger_after, AllWithdrawn}
use Rattle.property3.specs.FreeBooks.{FreeState}
use Rattle.property3.specs.FreeRun.{free_after}

module _ (terms : Terms) (bs : Bytes) where
  abbrev pub FreeRestored : Plan → Words → List Call → Type 0
  FreeRestored p lent cs =
      AllWithdrawn p (ledger_after terms bs p lent cs)
      → free_after terms bs p lent cs FreeState.at_begin ≡ FreeState.at_begin

  -- For the plan p that the bytes hold, the ledger lent to the begin, the calls after it, their answers and the words in the end.
  pub record SmallProperty3 (p : Plan) (lent : List ℕ) (cs : List Call) (rs : List Answer) (end : List ℕ) : Type 0 where
    -- "after the list the ledger is word for word that of document 01's clerk"
    pub word_for_word : end ≡ words_after terms bs lent cs
    -- "each call was answered, or refused, as document 01 says for her ledger as it stood before that call"
    pub answered : rs ≡ answers_after terms bs lent cs
    -- "if every root is undoing, holds nothing and has no open scope, her books stand exactly as at that begin"
    pub restored : FreeRestored p lent cs
    -- "if any track is undoing and holds an entry, some firing is allowed"
    pub progress : (t : ℕ) → t < track_count p → (ledger_after terms bs p lent cs t).mode ≡ Undoing
        → is_empty (ledger_after terms bs p lent cs t).held ≡ false
        → (u : ℕ) × (may_fire p (ledger_after terms bs p lent cs) u ≡ true)
