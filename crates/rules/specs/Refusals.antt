-- Each refusal as the paper's number; of a test that may be turned back, the number, 0 where it is not. Assumes nothing.
use Rattle.std.specs.Prelude.{ℕ, Result, Ok, Err}
use Rattle.rules.specs.declared.Refusal.{Refusal}
use Rattle.rules.specs.declared.Refusal.TheVariants as refusal

abbrev pub number_of : Refusal → ℕ
number_of refusal.TooLong = 1
number_of refusal.NoHead = 2
number_of refusal.Kind = 3
number_of refusal.Length = 4
number_of refusal.CutShort = 5
number_of refusal.TooMany = 6
number_of refusal.AfterEnd = 7
number_of refusal.NoTrack = 8
number_of refusal.State = 9
number_of refusal.Host = 10
number_of refusal.FirstState = 11
number_of refusal.Hosting = 12
number_of refusal.Transition = 13
number_of refusal.Deviation = 14
number_of refusal.RepeatedEvent = 15
number_of refusal.TooHigh = 16
number_of refusal.NoRoom = 17
number_of refusal.Unsound = 18
number_of refusal.NoEvent = 19
number_of refusal.Over = 20
number_of refusal.Full = 21
number_of refusal.MayNotFire = 22
number_of refusal.BrokenRecord = 23
number_of refusal.OtherPlan = 24
number_of refusal.Window = 25
number_of refusal.Day = 26
number_of refusal.Grant = 27
number_of refusal.NoRight = 28
number_of refusal.Unbounded = 29

abbrev pub refusal_number : Result (Unit {0}) Refusal → ℕ
refusal_number (Ok _) = 0
refusal_number (Err r) = number_of r
