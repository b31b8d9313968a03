-- Each case of the scan's answer as the rules' reading of the records, that of one record's judging, and the facts that a cursor keeps. Assumes
-- nothing.
use Rattle.std.specs.Prelude.{◌≡◌, ◌+◌, ◌*◌, ◌≤◌, length, Result, Ok, Err, MatchResult}
use Rattle.rules.specs.Names.{Bytes, Place}
use Rattle.rules.specs.declared.Counts.{Counts}
use Rattle.rules.specs.declared.Refusal.{Refusal}
use Rattle.rules.specs.Names as names
use Rattle.rules.specs.Record.{Scan, refused, counted, judge_record, kind_at}
use Rattle.rules.specs.Refusals as refusals
use Rattle.plan_scan.specs.Kinds.{number_of}
use Rattle.plan_scan.specs.declared.kinds.Kind.{Kind}

abbrev pub scan_told : Result Counts Refusal → Scan
scan_told (Ok c) = counted c
scan_told (Err r) = refused (refusals.number_of r)

-- the kind of the record at a place, or its first refusal
abbrev pub Judged : Bytes → Place → names.Kind → Counts → Result Kind Refusal → Type 0
Judged bs at last c r =
    MatchResult r (λ k. (judge_record bs at last c ≡ 0) × (kind_at bs at ≡ number_of k)) (λ e. judge_record bs at last c ≡ refusals.number_of e)

-- after so many records of each kind the next one starts at a place within the bytes
pub record Stands (bs : Bytes) (at : Place) (c : Counts) : Type 0 where
  pub tracks : c.tracks ≤ 32
  pub states : c.states ≤ 128
  pub transitions : c.transitions ≤ 256
  pub place : at ≡ 6 * c.tracks + 10 * c.states + 14 * c.transitions + 14 * c.windows + 10 * c.grants
  pub within : at ≤ length bs
