-- What a number or a list of numbers stands for. Each name is the numbers themselves. Assumes nothing.
use Rattle.std.specs.Prelude.{List, ℕ, ℤ}

-- a plan's or a journal's bytes, and text
abbrev pub Bytes : Type 0
Bytes = List ℕ

-- a ledger's words, 16 bits each
abbrev pub Words : Type 0
Words = List ℕ

-- where something stands among bytes or words, from 0
abbrev pub Place : Type 0
Place = ℕ

-- "a 16-bit kind"
abbrev pub Kind : Type 0
Kind = ℕ

-- a number of the list "Turned back, in checking order"; 0 where none applies
abbrev pub Refusal : Type 0
Refusal = ℕ

-- "Tracks, states and transitions are each numbered from 0 in file order."
abbrev pub TrackNumber : Type 0
TrackNumber = ℕ

abbrev pub StateNumber : Type 0
StateNumber = ℕ

abbrev pub TransitionNumber : Type 0
TransitionNumber = ℕ

abbrev pub WindowNumber : Type 0
WindowNumber = ℕ

-- the number of a rights record
abbrev pub GrantNumber : Type 0
GrantNumber = ℕ

-- "Each event, signal and fire carries a society": any 16-bit number
abbrev pub Society : Type 0
Society = ℕ

-- one of "1 move, 2 signal, 4 fire"
abbrev pub Right : Type 0
Right = ℕ

-- "event (1 to 65535)"
abbrev pub EventNumber : Type 0
EventNumber = ℕ

-- a retraction code, "0 for none"
abbrev pub Code : Type 0
Code = ℕ

-- "Day 0 is 1 January 1900"; days before it are below zero
abbrev pub Day : Type 0
Day = ℤ
