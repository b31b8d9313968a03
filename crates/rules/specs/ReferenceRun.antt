-- The reference run (the paper's clerk): a ledger and books worked by the rules along a list of calls, from the begin's arguments and a
-- copy of the ledger lent to it alone. Assumes nothing.
use Rattle.std.specs.Prelude.{◌≡◌, true, false, List, [], ◌∷◌, ◌<◌}
use Rattle.rules.specs.Names.{Bytes, Words, TrackNumber}
use Rattle.rules.specs.declared.Mode.TheVariants.{Undoing}
use Rattle.rules.specs.declared.Terms.{Terms}
use Rattle.rules.specs.Plan.{Plan, track_count, is_root}
use Rattle.rules.specs.Ledger.{Ledger, ledger_at}
use Rattle.rules.specs.Scope.{has_open_scope}
use Rattle.rules.specs.Fire.{newest}
use Rattle.rules.specs.Call.{Answer, refusal, done, Call, event, signal, fire, begin_outcome, call_outcome}
use Rattle.rules.specs.FinishedRun.{moves_of}
use Rattle.rules.specs.Books.{Books, act}

module _ (terms : Terms) (bs : Bytes) where
  -- her words after the begin, and after a list of calls
  unfoldable pub words_from : Words → List Call → Words
  words_from ws [] = ws
  words_from ws (c ∷ cs) = words_from (call_outcome terms bs ws c).words cs

  unfoldable pub words_after : Words → List Call → Words
  words_after lent cs = words_from (begin_outcome terms bs lent).words cs

  -- what document 01 answers to each call for her ledger as it stood before that call
  unfoldable pub answers_from : Words → List Call → List Answer
  answers_from ws [] = []
  answers_from ws (c ∷ cs) = (call_outcome terms bs ws c).answer ∷ answers_from (call_outcome terms bs ws c).words cs

  unfoldable pub answers_after : Words → List Call → List Answer
  answers_after lent cs = answers_from (begin_outcome terms bs lent).words cs

  module _ (p : Plan) (k : Books p terms) where
    -- "Event: she chooses the moves on her ledger; their transitions change the books, in track order"; "Signal: only her ledger
    -- alters"; "Fire: the code of the entry removed changes the books"
    unfoldable pub booked_call : Ledger → Call → k.State → k.State
    booked_call l (event a) b = act k.changed (moves_of p (λ t. true) l a) b
    booked_call l (signal a) b = b
    booked_call l (fire a) b = k.retracted (newest (l a.track).held).code b

    -- "A call that the numbers below refuse: nothing alters."
    unfoldable pub booked : Ledger → Call → Answer → k.State → k.State
    booked l c (refusal n) b = b
    booked l c (done figures) b = booked_call l c b

    unfoldable pub books_from : Words → List Call → k.State → k.State
    books_from ws [] b = b
    books_from ws (c ∷ cs) b =
        books_from (call_outcome terms bs ws c).words cs
        (booked (ledger_at terms ws (track_count p)) c (call_outcome terms bs ws c).answer b)

    unfoldable pub books_after : Words → List Call → k.State → k.State
    books_after lent cs b = books_from (begin_outcome terms bs lent).words cs b

  -- her ledger after a list of calls
  unfoldable pub ledger_after : Plan → Words → List Call → Ledger
  ledger_after p lent cs = ledger_at terms (words_after lent cs) (track_count p)

-- "if every root is undoing, holds nothing and has no open scope"
pub record Withdrawn (p : Plan) (l : Ledger) (t : TrackNumber) : Type 0 where
  pub undoing : (l t).mode ≡ Undoing
  pub empty : (l t).held ≡ []
  pub shut : has_open_scope p l t ≡ false

abbrev pub AllWithdrawn : Plan → Ledger → Type 0
AllWithdrawn p l = (t : TrackNumber) → t < track_count p → is_root p t ≡ true → Withdrawn p l t
