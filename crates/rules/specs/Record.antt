-- The plan file as a run of records, and refusals 2 to 7, judged record by record. Assumes nothing.
use Rattle.std.specs.Prelude.{true, false, cond, not, ◌&&◌, ◌||◌, [], ◌∷◌, ℕ, zero, suc, ◌+◌, ◌*◌, length, get_or, leb, ltb, eqb}
use Rattle.rules.specs.Names.{Bytes, Place, Kind, Refusal, Day}
use Rattle.rules.specs.declared.Counts.{Counts}
use Rattle.rules.specs.Fold.{first_refusal}
use Rattle.rules.specs.Signed.{joined}

-- the 16-bit little-endian number at a place of the bytes
unfoldable pub word : Bytes → Place → ℕ
word bs at = get_or bs at 0 + 256 * get_or bs (at + 1) 0

-- the signed 32-bit number there, its low word first: "first day, last day, both signed 32-bit"
unfoldable pub day_at : Bytes → Place → Day
day_at bs at = joined (word bs at) (word bs (at + 2))

-- "Each has a 16-bit length in bytes (itself included), a 16-bit kind, then 16-bit fields"
unfoldable pub size_at : Bytes → Place → ℕ
size_at bs at = word bs at

unfoldable pub kind_at : Bytes → Place → Kind
kind_at bs at = word bs (at + 2)

-- "Kind 1, track"; "Kind 2, state"; "Kind 3, transition"; "Kind 4, end"; "A window record (kind 5, ..)"; "A rights record (kind 6, ..)"
abbrev pub track_kind : Kind
track_kind = 1

abbrev pub state_kind : Kind
state_kind = 2

abbrev pub transition_kind : Kind
transition_kind = 3

abbrev pub end_kind : Kind
end_kind = 4

abbrev pub window_kind : Kind
window_kind = 5

abbrev pub grant_kind : Kind
grant_kind = 6

-- 1 track, 2 state, 3 transition, 4 end, 5 window, 6 rights: the length of a kind's records, 0 where there is no such kind
unfoldable pub length_of : Kind → ℕ
length_of kind = get_or (0 ∷ 6 ∷ 10 ∷ 14 ∷ 4 ∷ 14 ∷ 10 ∷ []) kind 0

-- where a kind stands in the order of kinds: windows are "between transitions and the end, which keeps kind 4 and stays last", and rights
-- records "after windows, before the end, in refusal 3's order too"
unfoldable pub rank_of : Kind → ℕ
rank_of kind = get_or (0 ∷ 1 ∷ 2 ∷ 3 ∷ 6 ∷ 4 ∷ 5 ∷ []) kind 0

-- "At most 32 tracks, 128 states, 256 transitions": what refusal 6 counts. Of windows and rights records it counts none, and
-- of ends 7 leaves one
unfoldable pub most_of : Kind → ℕ
most_of kind = get_or (0 ∷ 32 ∷ 128 ∷ 256 ∷ 1 ∷ 1 ∷ 1 ∷ []) kind 0

-- how many records of a kind were counted for it
unfoldable pub count_of : Counts → Kind → ℕ
count_of c kind = get_or (0 ∷ c.tracks ∷ c.states ∷ c.transitions ∷ 0 ∷ 0 ∷ 0 ∷ []) kind 0

-- with one more record of a kind
unfoldable pub one_more : Counts → Kind → Counts
one_more c kind =
    record {
      tracks = c.tracks + cond (eqb kind track_kind) 1 0;
      states = c.states + cond (eqb kind state_kind) 1 0;
      transitions = c.transitions + cond (eqb kind transition_kind) 1 0;
      windows = c.windows + cond (eqb kind window_kind) 1 0;
      grants = c.grants + cond (eqb kind grant_kind) 1 0;
    }

unfoldable pub no_counts : Counts
no_counts = record { tracks = 0; states = 0; transitions = 0; windows = 0; grants = 0 }

-- Refusals 2 to 7 of the record at a place, after a record of kind `last`, with `c` counted before it:
-- 2 "fewer than 4 bytes remain where a record must start", 3 "the kind is not 1 to 4, or falls", 5 and 6 being kinds too and falling being by
-- rank, 4 "the length is not its kind's", 5 "the record runs past the last byte",
-- 6 "it is the 33rd track, 129th state or 257th transition", 7 "bytes follow the end record"
unfoldable pub judge_record : Bytes → Place → Kind → Counts → Refusal
judge_record bs at last c =
    first_refusal
    ((2, ltb (length bs) (at + 4))
    ∷ (3, eqb (length_of (kind_at bs at)) 0 || ltb (rank_of (kind_at bs at)) (rank_of last))
    ∷ (4, not (eqb (size_at bs at) (length_of (kind_at bs at))))
    ∷ (5, ltb (length bs) (at + size_at bs at))
    ∷ (6, leb (most_of (kind_at bs at)) (count_of c (kind_at bs at)))
    ∷ (7, eqb (kind_at bs at) end_kind && ltb (at + size_at bs at) (length bs))
    ∷ [])

-- a refusal, or how many records there are of each kind
pub data Scan : Type 0 where
  refused : ℕ → Scan
  counted : Counts → Scan

-- the records from a place on, up to the end record. A record has 4 bytes or more, so as many steps as bytes never run out
unfoldable pub scan_from : ℕ → Bytes → Place → Kind → Counts → Scan
scan_from zero bs at last c = refused 2
scan_from (suc n) bs at last c =
    elim (judge_record bs at last c) [
      | zero ↦
          elim (eqb (kind_at bs at) end_kind) [
            | true ↦ counted c
            | false ↦ scan_from n bs (at + size_at bs at) (kind_at bs at) (one_more c (kind_at bs at))
          ]
      | suc r ↦ refused (suc r)
    ]

-- nothing falls below rank 0, which kind 0 has, so the first record may have any kind
unfoldable pub scan : Bytes → Scan
scan bs = scan_from (length bs) bs 0 0 no_counts
