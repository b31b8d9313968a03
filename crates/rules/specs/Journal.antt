-- The journal of the program: its records, and refusal 23. Assumes nothing.
use Rattle.std.specs.Prelude.{Bool, cond, not, ◌||◌, [], ◌∷◌, ℕ, ◌+◌, ◌-◌, length, get_or, leb, ltb, eqb}
use Rattle.std.proofs.Math.Option.{none, some}
use Rattle.rules.specs.Names.{Bytes, Place, Kind, Day, Society}
use Rattle.rules.specs.Record.{word, day_at, size_at, kind_at}
use Rattle.rules.specs.Plan.{Plan, track_count}
use Rattle.rules.specs.Ledger.{Ledger}
use Rattle.rules.specs.Fire.{lowest_ready}
use Rattle.rules.specs.Call.{Call, event, signal, fire}

-- "17 signal"; "18 fire"; "19 fire the lowest ready track"; "Journals use kind 20, length 10: event, then day; kind 16 is withdrawn"
abbrev pub signal_kind : Kind
signal_kind = 17

abbrev pub fire_kind : Kind
fire_kind = 18

abbrev pub event_kind : Kind
event_kind = 20

-- "17 signal (length 4), 18 fire (length 6, track), 19 fire the lowest ready track (length 4)", 20 event (length 10), "each length growing
-- by 2" for the society; 0 where there is no such kind
unfoldable pub journal_length : Kind → ℕ
journal_length kind = cond (ltb kind signal_kind) 0 (get_or (6 ∷ 8 ∷ 6 ∷ 12 ∷ []) (kind - signal_kind) 0)

-- what stands at a place of the journal
pub data Item : Type 0 where
  ended broken : Item
  fire_lowest : Society → Item
  called : Call → Item

-- 23 "1 to 3 bytes left where it starts (none left is the journal's end), unknown kind, wrong length, or cut short"
unfoldable pub is_broken : Bytes → Place → Bool
is_broken js at =
    ltb (length js) (at + 4)
    || eqb (journal_length (kind_at js at)) 0
    || not (eqb (size_at js at) (journal_length (kind_at js at)))
    || ltb (length js) (at + size_at js at)

-- "in journals it is a last 16-bit field"
unfoldable pub society_at : Bytes → Place → Kind → Society
society_at js at kind = word js (at + (journal_length kind - 2))

unfoldable pub record_of : Kind → ℕ → Day → Society → Item
record_of kind field day society =
    cond (eqb kind event_kind) (called (event (record { event = field; day = day; society = society })))
    (cond (eqb kind signal_kind) (called (signal (record { society = society })))
    (cond (eqb kind fire_kind) (called (fire (record { track = field; society = society }))) (fire_lowest society)))

unfoldable pub item_at : Bytes → Place → Item
item_at js at =
    cond (leb (length js) at) ended
    (cond (is_broken js at) broken
    (record_of (kind_at js at) (word js (at + 4)) (day_at js (at + 6)) (society_at js at (kind_at js at))))

-- "fire the lowest ready track (.. refused as 20 or 22)", of those that the society may fire, "22 if none": a track that does not exist is
-- refused so
unfoldable pub fire_lowest_call : Plan → Ledger → Society → Call
fire_lowest_call p l society =
    fire (record { track = elim (lowest_ready p l society) [ none ↦ track_count p | some t ↦ t ]; society = society })
