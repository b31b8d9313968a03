-- Property 3: one claim about a list of calls, refused ones and deviations included, from the ledger as an accepted begin left it.
-- Assumes nothing.
use Rattle.std.specs.Prelude.{◌≡◌, true, false, List, [], ◌∷◌, ℕ, ◌<◌}
use Rattle.rules.specs.Names.{Bytes, Words, TrackNumber}
use Rattle.rules.specs.declared.Mode.TheVariants.{Undoing}
use Rattle.rules.specs.declared.EventAnswer.{EventAnswer}
use Rattle.rules.specs.declared.SignalAnswer.{SignalAnswer}
use Rattle.rules.specs.declared.FireAnswer.{FireAnswer}
use Rattle.rules.specs.declared.Terms.{Terms}
use Rattle.rules.specs.Plan.{Plan, track_count}
use Rattle.rules.specs.Ledger.{is_empty}
use Rattle.rules.specs.Fire.{may_fire}
use Rattle.rules.specs.Event.{EventArguments}
use Rattle.rules.specs.Call.{Answer, SignalArguments, FireArguments, Call, event, signal, fire, event_outcome, signal_outcome, fire_outcome, Meets}
use Rattle.rules.specs.Answers.{event_told, signal_told, fire_told}
use Rattle.rules.specs.Books.{Books}
use Rattle.rules.specs.ReferenceRun.{words_after, answers_after, books_after, ledger_after, AllWithdrawn}

module _ (terms : Terms) (bs : Bytes) where
  -- The calls of a list as they were made: each got the words that the one before left, and its answer and the words that it left are as
  -- its contract promises. Read `History ws cs rs end`: from the words ws the calls cs were answered rs, and left the words end.
  pub data History : Words → List Call → List Answer → Words → Type 0 where
    none : {ws : Words} → History ws [] [] ws
    event_made : {ws ws' end : Words} {cs : List Call} {rs : List Answer} (a : EventArguments) (r : EventAnswer)
        → Meets (event_outcome terms bs ws a) (event_told r) ws' → History ws' cs rs end
        → History ws (event a ∷ cs) (event_told r ∷ rs) end
    signal_made : {ws ws' end : Words} {cs : List Call} {rs : List Answer} (a : SignalArguments) (r : SignalAnswer)
        → Meets (signal_outcome terms bs ws a) (signal_told r) ws' → History ws' cs rs end
        → History ws (signal a ∷ cs) (signal_told r ∷ rs) end
    fire_made : {ws ws' end : Words} {cs : List Call} {rs : List Answer} (a : FireArguments) (r : FireAnswer)
        → Meets (fire_outcome terms bs ws a) (fire_told r) ws' → History ws' cs rs end
        → History ws (fire a ∷ cs) (fire_told r ∷ rs) end

  -- The claim, for the plan p that the bytes hold and the ledger lent to the begin, in the customer's order of words.
  pub record Property3 (p : Plan) (lent : Words) (cs : List Call) (rs : List Answer) (end : Words) : Type 1 where
    -- "after the list the ledger is word for word that of document 01's clerk"
    pub word_for_word : end ≡ words_after terms bs lent cs
    -- "each call was answered, or refused, as document 01 says for her ledger as it stood before that call"
    pub answered : rs ≡ answers_after terms bs lent cs
    -- "if every root is undoing, holds nothing and has no open scope, her books stand exactly as at that begin"
    pub restored : (k : Books p terms) (b : k.State) → AllWithdrawn p (ledger_after terms bs p lent cs)
        → books_after terms bs p k lent cs b ≡ b
    -- "if any track is undoing and holds an entry, some firing is allowed"
    pub progress : (t : TrackNumber) → t < track_count p → (ledger_after terms bs p lent cs t).mode ≡ Undoing
        → is_empty (ledger_after terms bs p lent cs t).held ≡ false
        → (u : ℕ) × (may_fire p (ledger_after terms bs p lent cs) u ≡ true)
