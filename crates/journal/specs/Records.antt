-- The reader's answer at a place of the journal, as the rules have it. Assumes nothing.
use Rattle.std.specs.Prelude.{◌≡◌, ℕ, Option, Some, None}
use Rattle.rules.specs.Signed.{joined}
use Rattle.rules.specs.Plan.{Plan}
use Rattle.rules.specs.Ledger.{Ledger}
use Rattle.rules.specs.Journal.{Item, ended, broken, fire_lowest, called, journal_length, fire_lowest_call}
use Rattle.rules.specs.Call.{Call, event, signal, fire}
use Rattle.journal.specs.declared.record.Kind.{Kind}
use Rattle.journal.specs.declared.record.Kind.TheVariants as kind
use Rattle.journal.specs.declared.record.Record.{Record}
use Rattle.journal.specs.declared.record.Record.TheVariants.{Ended, Broken, Event, Signal, Fire, FireLowest}

abbrev pub record_told : Record → Item
record_told Ended = ended
record_told Broken = broken
record_told (Event e low high o) = called (event (record { event = e; day = joined low high; society = o }))
record_told (Signal o) = called (signal (record { society = o }))
record_told (Fire t o) = called (fire (record { track = t; society = o }))
record_told (FireLowest o) = fire_lowest o

-- a kind's number
abbrev pub kind_number : Kind → ℕ
kind_number kind.Signal = 17
kind_number kind.Fire = 18
kind_number kind.FireLowest = 19
kind_number kind.Event = 20

-- the kind of a number, if its records have a length
abbrev pub IsKind : ℕ → Option Kind → Type 0
IsKind n None = journal_length n ≡ 0
IsKind n (Some k) = n ≡ kind_number k

-- how many bytes it takes up, 0 where the reading ends
abbrev pub size_of : Item → ℕ
size_of ended = 0
size_of broken = 0
size_of (called (event a)) = 12
size_of (called (signal a)) = 6
size_of (called (fire a)) = 8
size_of (fire_lowest o) = 6

-- the call that a record asks for; where the reading ends there is none, and any call stands for it
abbrev pub call_of : Plan → Ledger → Item → Call
call_of p l ended = signal (record { society = 0 })
call_of p l broken = signal (record { society = 0 })
call_of p l (fire_lowest o) = fire_lowest_call p l o
call_of p l (called c) = c
