-- The reference run of the free books, step by step as the rules have it of any books. `proofs/FreeBooks.antt` shows that it is the rules' run of the
-- free books. Assumes nothing.
use Rattle.std.specs.Prelude.{true, List, [], ◌∷◌}
use Rattle.rules.specs.Names.{Bytes, Words}
use Rattle.rules.specs.declared.Terms.{Terms}
use Rattle.rules.specs.Plan.{Plan, track_count}
use Rattle.rules.specs.Ledger.{Ledger, ledger_at}
use Rattle.rules.specs.Fire.{newest}
use Rattle.rules.specs.Call.{Answer, refusal, done, Call, event, signal, fire, begin_outcome, call_outcome}
use Rattle.rules.specs.FinishedRun.{moves_of}
use Rattle.rules.specs.Books.{act}
use Rattle.property3.specs.FreeBooks.{FreeState}

module _ (terms : Terms) (bs : Bytes) (p : Plan) where
  abbrev State : Type 0
  State = FreeState p terms

  -- "Event: .. their transitions change the books, in track order"; "Signal: only her ledger alters"; "Fire: the code of the entry removed
  -- changes the books"
  unfoldable pub free_call : Ledger → Call → State → State
  free_call l (event a) b = act (λ x (y : State). FreeState.changed x y) (moves_of p (λ t. true) l a) b
  free_call l (signal a) b = b
  free_call l (fire a) b = FreeState.retracted (newest (l a.track).held).code b

  -- "A call that the numbers below refuse: nothing alters."
  unfoldable pub free_booked : Ledger → Call → Answer → State → State
  free_booked l c (refusal n) b = b
  free_booked l c (done figures) b = free_call l c b

  unfoldable pub free_from : Words → List Call → State → State
  free_from ws [] b = b
  free_from ws (c ∷ cs) b =
      free_from (call_outcome terms bs ws c).words cs
      (free_booked (ledger_at terms ws (track_count p)) c (call_outcome terms bs ws c).answer b)

  unfoldable pub free_after : Words → List Call → State → State
  free_after lent cs b = free_from (begin_outcome terms bs lent).words cs b
