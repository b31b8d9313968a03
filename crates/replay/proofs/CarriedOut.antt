-- One record: the call's promise, its line and the tally's are one, for every call. Assumes nothing.
use Rattle.std.proofs.Common.{◌≡◌, refl, sym, ap, ◌∙◌, subst, ℤ, Bool, true, false, List, ℕ, ◌+◌, ◌<◌, ◌≤◌, arith, length}
use Rattle.rules.specs.declared.Counts.{Counts}
use Rattle.rules.specs.Fold.{sum_below}
use Rattle.rules.specs.Plan.{plan_of}
use Rattle.rules.specs.Event.{EventArguments}
use Rattle.rules.specs.Call.{Answer, refusal, done, Call, event, signal, fire, SignalArguments, FireArguments, call_outcome, Meets}
use Rattle.rules.specs.Journal.{Item}
use Rattle.rules.specs.Transcript.{refusal_line, call_line, firings_of, held_total, tally_line}
use Rattle.plan.proofs.FieldLaws.{track_count_lem}
use Rattle.ledger.specs.Ladder.{ledger_of}
use Rattle.journal.specs.declared.record.Record.{Record}
use Rattle.journal.specs.declared.record.Record.TheVariants.{Ended, Broken}
use Rattle.journal.specs.Records.{record_told, size_of}
use Rattle.journal.specs.Writing.{Lined}
use Rattle.journal.proofs.Written.{wrote_then}
use Rattle.replay.specs.declared.carry_out.Progress.{Progress}
use Rattle.rules.specs.declared.Terms.{Terms}
use Rattle.replay.specs.CarriedOut.{CameTo, CarriedOut, is_broken_record, Closed}

pub event_fires : (a : EventArguments) (x : Answer) → 0 ≡ firings_of (event a) x
unfolding firings_of
event_fires a (refusal n) = refl
event_fires a (done figures) = refl

pub signal_fires : (a : SignalArguments) (x : Answer) → 0 ≡ firings_of (signal a) x
unfolding firings_of
signal_fires a (refusal n) = refl
signal_fires a (done figures) = refl

pub fires_one : (a : FireArguments) (x : Answer) → firings_of (fire a) x ≤ 1
unfolding firings_of
fires_one a (refusal n) = omega arith
fires_one a (done figures) = omega arith

-- the entries held, by either count of the tracks
pub held_told : (terms : Terms) (bs : List ℕ) (c : Counts) (ws : List ℕ) (held : ℕ) → held ≡ sum_below c.tracks (λ t. length (ledger_of terms c ws t).held) → held ≡ held_total (plan_of bs c) (ledger_of terms c ws)
unfolding held_total
held_told terms bs c ws held e = rw track_count_lem e

pub carried_out : (terms : Terms) (bs : List ℕ) (c : Counts) (d : Call) (ws out : List ℕ) (from : Progress) (ws' out' : List ℕ) (place : ℕ) (told : Answer) (fired : ℕ) (next : Progress)
    → Meets (call_outcome terms bs ws d) told ws'
    → Lined out from.place (call_line d told) out' place
    → fired ≡ firings_of d told
    → CameTo terms c ws' from place fired next
    → CarriedOut terms bs c d ws out from ws' out' next
carried_out terms bs c d ws out from ws' out' place told fired next m l f e =
    record {
      words = m.left;
      line = rw (← m.answered, e.place) l;
      fired = e.fired ∙ ap (λ (n : ℕ). from.tally.fired + n) (f ∙ ap (firings_of d) m.answered);
      held = held_told terms bs c ws' next.tally.held e.held;
    }

-- an event's day as it was given
pub carried_on : (terms : Terms) (e o : ℕ) {x y : ℤ} → x ≡ y → {bs : List ℕ} {c : Counts} {ws out : List ℕ} {from : Progress} {ws' out' : List ℕ} {next : Progress}
    → CarriedOut terms bs c (event (record { event = e; day = x; society = o })) ws out from ws' out' next
    → CarriedOut terms bs c (event (record { event = e; day = y; society = o })) ws out from ws' out' next
carried_on terms e o q {bs} {c} {ws} {out} {from} {ws'} {out'} {next} h =
    subst (λ d. CarriedOut terms bs c (event (record { event = e; day = d; society = o })) ws out from ws' out' next) q h

-- where the reading ends no record is left to do
pub ended_none : (x : Record) → x ≡ Ended → 0 < size_of (record_told x) → ⊥
ended_none x e l = let z : size_of (record_told x) ≡ 0 = rw e in omega arith

pub broken_none : (x : Record) → x ≡ Broken → 0 < size_of (record_told x) → ⊥
broken_none x e l = let z : size_of (record_told x) ≡ 0 = rw e in omega arith

-- the last lines
pub closed_broken : (x : Item) (b : Bool) (out : List ℕ) (from : Progress) (mid out' : List ℕ) (place end : ℕ) → b ≡ is_broken_record x → b ≡ true
    → from.place ≤ length out → Lined out from.place (refusal_line 23) mid place
    → Lined mid place (tally_line from.tally.held from.tally.fired) out' end → Closed x out from out' end
closed_broken x b out from mid out' place end e t h k l =
    let s = k.short in
    let m = l.short in
    let i : is_broken_record x ≡ true = sym e ∙ t in
    record {
      wrote = rw i (wrote_then h k.wrote l.wrote);
      short = omega arith;
    }

pub closed_whole : (x : Item) (b : Bool) (out : List ℕ) (from : Progress) (out' : List ℕ) (end : ℕ) → b ≡ is_broken_record x → b ≡ false
    → Lined out from.place (tally_line from.tally.held from.tally.fired) out' end → Closed x out from out' end
closed_whole x b out from out' end e t l =
    let m = l.short in
    let i : is_broken_record x ≡ false = sym e ∙ t in
    record { wrote = rw i l.wrote; short = omega arith }

-- the same call under another name
pub carried_out_as : (terms : Terms) (bs : List ℕ) (c : Counts) (d e : Call) (ws out : List ℕ) (from : Progress) (ws' out' : List ℕ) (next : Progress) → d ≡ e
    → CarriedOut terms bs c d ws out from ws' out' next → CarriedOut terms bs c e ws out from ws' out' next
carried_out_as terms bs c d e ws out from ws' out' next q t = subst (λ (x : Call). CarriedOut terms bs c x ws out from ws' out' next) q t
