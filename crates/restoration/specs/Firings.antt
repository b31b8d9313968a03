-- "No firings beyond 32 times the number of tracks follow one another without an event or a deviation.": lists of calls, with their answers,
-- without an event or a deviation. Assumes nothing.
use Rattle.std.specs.Prelude.{Bool, true, false, not, ◌&&◌, List, [], ◌∷◌, get_or, eqb}
use Rattle.rules.specs.Plan.{no_state}
use Rattle.rules.specs.Call.{Answer, refusal, done, Call, event, signal, fire}

-- "without an event": one that was accepted
unfoldable pub is_event_done : Call → Answer → Bool
is_event_done (event a) (done figures) = true
is_event_done (event a) (refusal n) = false
is_event_done (signal a) r = false
is_event_done (fire a) r = false

-- "or a deviation": an accepted firing whose entry carried one
unfoldable pub is_deviation : Call → Answer → Bool
is_deviation (fire a) (done figures) = not (eqb (get_or figures 1 no_state) no_state)
is_deviation (fire a) (refusal n) = false
is_deviation (event a) r = false
is_deviation (signal a) r = false

-- no call with its answer passes the test
unfoldable pub is_without : (Call → Answer → Bool) → List Call → List Answer → Bool
is_without f [] rs = true
is_without f (c ∷ cs) [] = true
is_without f (c ∷ cs) (r ∷ rs) = not (f c r) && is_without f cs rs
