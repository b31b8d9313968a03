-- A checked ledger stays checked: begin and every call leave words that hold a day and a ledger of the rules, and those pass the checks.
-- Assumes nothing.
use Rattle.std.proofs.Common.{◌≡◌, sym, ap, ◌∙◌, subst, List, [], ℕ}
use Rattle.rules.specs.declared.Counts.{Counts}
use Rattle.rules.specs.Names.{Day}
use Rattle.rules.specs.declared.Terms.{Terms}
use Rattle.rules.specs.Day.{earliest_day}
use Rattle.rules.specs.Plan.{plan_of, track_count}
use Rattle.rules.specs.Leading.{last_day, stamped}
use Rattle.rules.specs.Ledger.{Ledger, ledger_at, written}
use Rattle.rules.specs.Opening.{begun}
use Rattle.rules.specs.Call.{done, Outcome, Call, next, next_day, call_outcome, begin_outcome}
use Rattle.plan.proofs.FieldLaws.{track_count_lem}
use Rattle.ledger.specs.Ladder.{Room, Accepts, Checked}
use Rattle.lookup.proofs.Facts.{room_long, checked_passes, passes_checked}
use Rattle.restoration.proofs.SoundWords.{Holds, passes_holds, holds_passes, call_holds, begin_accepted, begin_holds}

module _ (terms : Terms) (bs : List ℕ) (c : Counts) where
  -- checked words hold the day and the ledger that they read as
  pub checked_holds : (ws : List ℕ) (k : Checked terms bs c ws)
      → Holds terms bs c k.lent.accepts.read ws (last_day ws) (ledger_at terms ws (track_count (plan_of bs c)))
  checked_holds ws k = passes_holds terms bs c k.lent.accepts.read ws (checked_passes terms bs c ws k)

  holds_checked : (a : Accepts bs c) (ws : List ℕ) (d : Day) (l : Ledger) → Holds terms bs c a.read ws d l → Checked terms bs c ws
  holds_checked a ws d l h = passes_checked terms bs c ws a (holds_passes terms bs c a.read ws d l h)

  pub call_keeps : (ws : List ℕ) → Checked terms bs c ws → (d : Call) → Checked terms bs c (call_outcome terms bs ws d).words
  call_keeps ws k d =
      let l : Ledger = ledger_at terms ws (track_count (plan_of bs c)) in
      holds_checked k.lent.accepts (call_outcome terms bs ws d).words (next_day terms (plan_of bs c) (last_day ws) l d)
      (next terms (plan_of bs c) (last_day ws) l d)
      (call_holds terms bs c k.lent.accepts.read ws (last_day ws) l (checked_holds ws k) d)

  module _ (a : Accepts bs c) (ws : List ℕ) (r : Room terms ws c.tracks) where
    pub begun_outcome : begin_outcome terms bs ws
        ≡ record { answer = done []; words = written terms (track_count (plan_of bs c)) (begun (plan_of bs c)) (stamped bs ws) }
    begun_outcome = begin_accepted terms bs c a.read ws (room_long terms bs c ws r)

    pub begin_words : written terms c.tracks (begun (plan_of bs c)) (stamped bs ws) ≡ (begin_outcome terms bs ws).words
    begin_words = ap (λ (n : ℕ). written terms n (begun (plan_of bs c)) (stamped bs ws)) (sym (track_count_lem bs c)) ∙ sym (ap (λ (o : Outcome). o.words) begun_outcome)

    pub begin_holding : Holds terms bs c a.read (begin_outcome terms bs ws).words earliest_day (begun (plan_of bs c))
    begin_holding = begin_holds terms bs c a.read ws (ap (λ (o : Outcome). o.answer) begun_outcome)

    pub begin_keeps : Checked terms bs c (begin_outcome terms bs ws).words
    begin_keeps = holds_checked a (begin_outcome terms bs ws).words earliest_day (begun (plan_of bs c)) begin_holding

  -- the same of words that are begin's
  pub begun_checked : (a : Accepts bs c) (ws ws' : List ℕ) → Room terms ws c.tracks → ws' ≡ written terms c.tracks (begun (plan_of bs c)) (stamped bs ws)
      → Checked terms bs c ws'
  begun_checked a ws ws' r e = subst (Checked terms bs c) (sym (e ∙ begin_words a ws r)) (begin_keeps a ws r)
