-- Each case of a call's answer as the paper's number and values. Assumes nothing.
use Rattle.std.specs.Prelude.{[], ◌∷◌}
use Rattle.rules.specs.declared.PlanAnswer.{PlanAnswer}
use Rattle.rules.specs.declared.BeginAnswer.{BeginAnswer}
use Rattle.rules.specs.declared.EventAnswer.{EventAnswer}
use Rattle.rules.specs.declared.SignalAnswer.{SignalAnswer}
use Rattle.rules.specs.declared.FireAnswer.{FireAnswer}
use Rattle.rules.specs.declared.ReadyAnswer.{ReadyAnswer}
use Rattle.rules.specs.declared.Date.{Date}
use Rattle.rules.specs.declared.DateAnswer.{DateAnswer}
use Rattle.rules.specs.declared.DayAnswer.{DayAnswer}
use Rattle.rules.specs.declared.LargestAnswer.{LargestAnswer}
use Rattle.rules.specs.declared.PlanAnswer.TheVariants as plan
use Rattle.rules.specs.declared.BeginAnswer.TheVariants as begin
use Rattle.rules.specs.declared.EventAnswer.TheVariants as event
use Rattle.rules.specs.declared.SignalAnswer.TheVariants as signal
use Rattle.rules.specs.declared.FireAnswer.TheVariants as fire
use Rattle.rules.specs.declared.ReadyAnswer.TheVariants as ready
use Rattle.rules.specs.declared.DateAnswer.TheVariants as date
use Rattle.rules.specs.declared.DayAnswer.TheVariants as day
use Rattle.rules.specs.declared.LargestAnswer.TheVariants as largest
use Rattle.rules.specs.Names.{Day}
use Rattle.rules.specs.Acceptance.{Reading, turned_back, accepted}
use Rattle.rules.specs.Call.{Answer, refusal, done}
use Rattle.rules.specs.Conversion.{Converted}
use Rattle.rules.specs.Conversion as converted

unfoldable pub plan_told : PlanAnswer → Reading
plan_told (plan.Accepted c) = accepted c
plan_told (plan.Refused n) = turned_back n

unfoldable pub begin_told : BeginAnswer → Answer
begin_told begin.Begun = done []
begin_told (begin.Refused n) = refusal n

-- tracks moved, scopes closed
unfoldable pub event_told : EventAnswer → Answer
event_told (event.Moved moved closed) = done (moved ∷ closed ∷ [])
event_told (event.Refused n) = refusal n

-- how many turned
unfoldable pub signal_told : SignalAnswer → Answer
signal_told (signal.Turned n) = done (n ∷ [])
signal_told (signal.Refused n) = refusal n

-- code and deviation
unfoldable pub fire_told : FireAnswer → Answer
fire_told (fire.Fired code deviation) = done (code ∷ deviation ∷ [])
fire_told (fire.Refused n) = refusal n

unfoldable pub ready_told : ReadyAnswer → Answer
ready_told (ready.Ready bits) = done (bits ∷ [])
ready_told (ready.Refused n) = refusal n

unfoldable pub date_told : DateAnswer → Converted Date
date_told (date.On d) = converted.found d
date_told (date.Refused n) = converted.refusal n

unfoldable pub day_told : DayAnswer → Converted Day
day_told (day.Day z) = converted.found z
day_told (day.Refused n) = converted.refusal n

-- the figures and the paths stand in arrays beside it
unfoldable pub largest_told : LargestAnswer → Answer
largest_told largest.Shown = done []
largest_told (largest.Refused n) = refusal n
