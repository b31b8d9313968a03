-- Lists of calls as the code made them: of each call nothing is told but the reading of its own contract. They are histories, so property 3 and
-- the bound on firings hold of them. Assumes nothing.
use Rattle.std.proofs.Common.{◌≡◌, subst, true, List, [], ◌∷◌, ℕ, ◌*◌, ◌≤◌}
use contract.Lifetimes.{Lfts}
use denote.Triple.Clauses.{AtExit}
use borrow.Fn.Kinds.{ended_of}
use borrow.Fn.World.{ArgsD, ResD}
use Rattle.rules.specs.declared.Counts.{Counts}
use Rattle.rules.specs.declared.BeginAnswer.TheVariants.{Begun}
use Rattle.rules.specs.Plan.{track_count, plan_of}
use Rattle.rules.specs.Acceptance.{accepted, read_plan}
use Rattle.rules.specs.declared.Terms.{Terms}
use Rattle.rules.specs.Event.{EventArguments}
use Rattle.rules.specs.Call.{Answer, SignalArguments, FireArguments, Call, begin_outcome, call_outcome, event_outcome, signal_outcome, fire_outcome, Meets}
use Rattle.rules.specs.Call as paper
use Rattle.rules.specs.Answers.{begin_told, event_told, signal_told, fire_told}
use Rattle.rules.specs.Transcript.{firings_in}
use Rattle.rules.specs.ReferenceRun.{words_from, answers_from}
use Rattle.rules.specs.History as history
use Rattle.rules.specs.History.{History, Property3}
use Rattle.restoration.specs.Firings.{is_event_done, is_without}
use Rattle.manager.specs.contracts.calls.begin as begin
use Rattle.manager.proofs.calls.begin.Kinds as begin-kinds
use Rattle.manager.proofs.calls.begin.Reads as begin_reads
use Rattle.manager.specs.contracts.calls.event as event
use Rattle.manager.proofs.calls.event.Kinds as event-kinds
use Rattle.manager.proofs.calls.event.Reads as event-reads
use Rattle.manager.specs.contracts.calls.signal as signal
use Rattle.manager.proofs.calls.signal.Kinds as signal-kinds
use Rattle.manager.proofs.calls.signal.Reads as signal-reads
use Rattle.manager.specs.contracts.calls.fire as fire
use Rattle.manager.proofs.calls.fire.Kinds as fire-kinds
use Rattle.manager.proofs.calls.fire.Reads as fire-reads
use Rattle.property3.proofs.Readings.{begin_meets, event_meets, signal_meets, fire_meets}
use Rattle.property3.proofs.Property3.{Follows, follows, property3, firings_of_history}

-- "Its first call gets the ledger as an accepted begin left it, each later one the ledger as the call before left it, and all get the same plan";
-- and all are "at that one limit".
-- Read `Calls terms bs ws cs rs end` as `History`: under the plan bytes bs, from the words ws, the calls cs were answered rs and left the words end.
-- Of each call there are its arguments a, its answer r and what it left s, of which the reading `Post` of its contract holds.
pub data Calls (terms : Terms) (bs : List ℕ) : List ℕ → List Call → List Answer → List ℕ → Type 0 where
  none : {ws : List ℕ} → Calls terms bs ws [] [] ws
  by_event : {ws end : List ℕ} {cs : List Call} {rs : List Answer}
      (κs : Lfts 2) (a : ArgsD event.signature κs) (r : ResD event.signature κs) (s : AtExit (ended_of 2 event-kinds.ps event-kinds.r) κs)
      → event-reads.Post κs a r s → a.0 ≡ terms → a.1.0.now ≡ bs → a.1.1.0.now ≡ ws → Calls terms bs s.1.1.0.now cs rs end
      → Calls terms bs ws (paper.event (record { event = a.1.1.1.0; day = a.1.1.1.1.0; society = a.1.1.1.1.1.0 }) ∷ cs) (event_told r ∷ rs) end
  by_signal : {ws end : List ℕ} {cs : List Call} {rs : List Answer}
      (κs : Lfts 2) (a : ArgsD signal.signature κs) (r : ResD signal.signature κs) (s : AtExit (ended_of 2 signal-kinds.ps signal-kinds.r) κs)
      → signal-reads.Post κs a r s → a.0 ≡ terms → a.1.0.now ≡ bs → a.1.1.0.now ≡ ws → Calls terms bs s.1.1.0.now cs rs end
      → Calls terms bs ws (paper.signal (record { society = a.1.1.1.0 }) ∷ cs) (signal_told r ∷ rs) end
  by_fire : {ws end : List ℕ} {cs : List Call} {rs : List Answer}
      (κs : Lfts 2) (a : ArgsD fire.signature κs) (r : ResD fire.signature κs) (s : AtExit (ended_of 2 fire-kinds.ps fire-kinds.r) κs)
      → fire-reads.Post κs a r s → a.0 ≡ terms → a.1.0.now ≡ bs → a.1.1.0.now ≡ ws → Calls terms bs s.1.1.0.now cs rs end
      → Calls terms bs ws (paper.fire (record { track = a.1.1.1.0; society = a.1.1.1.1.0 }) ∷ cs) (fire_told r ∷ rs) end

-- the same promise, of the same bytes and words by other names
same : (c : Call) (told : Answer) (left : List ℕ) {k terms : Terms} {x bs y ws : List ℕ} → k ≡ terms → x ≡ bs → y ≡ ws
    → Meets (call_outcome k x y c) told left → Meets (call_outcome terms bs ws c) told left
same c told left {k} {terms} {x} {bs} {y} {ws} l e q m =
    subst (λ z. Meets (call_outcome z bs ws c) told left) l
    (subst (λ z. Meets (call_outcome k z ws c) told left) e (subst (λ z. Meets (call_outcome k x z c) told left) q m))

pub made : (terms : Terms) (bs : List ℕ) {ws end : List ℕ} {cs : List Call} {rs : List Answer} → Calls terms bs ws cs rs end → History terms bs ws cs rs end
unfolding event_outcome signal_outcome fire_outcome
made terms bs none = history.none
made terms bs (by_event κs a r s p l e q h) =
    let x : EventArguments = record { event = a.1.1.1.0; day = a.1.1.1.1.0; society = a.1.1.1.1.1.0 } in
    history.event_made x r (same (paper.event x) (event_told r) s.1.1.0.now l e q (event_meets κs a r s p)) (made terms bs h)
made terms bs (by_signal κs a r s p l e q h) =
    let x : SignalArguments = record { society = a.1.1.1.0 } in
    history.signal_made x r (same (paper.signal x) (signal_told r) s.1.1.0.now l e q (signal_meets κs a r s p)) (made terms bs h)
made terms bs (by_fire κs a r s p l e q h) =
    let x : FireArguments = record { track = a.1.1.1.0; society = a.1.1.1.1.0 } in
    history.fire_made x r (same (paper.fire x) (fire_told r) s.1.1.0.now l e q (fire_meets κs a r s p)) (made terms bs h)

-- From whatever words: what they left and answered is what the reference run leaves and answers.
pub calls_follow : (terms : Terms) (bs : List ℕ) {ws end : List ℕ} {cs : List Call} {rs : List Answer} → Calls terms bs ws cs rs end → Follows terms bs ws cs rs end
calls_follow terms bs h = follows terms bs (made terms bs h)

-- and so of one call, whichever of the three it is
pub call_meets : (terms : Terms) (bs : List ℕ) {ws end : List ℕ} {c : Call} {r : Answer} → Calls terms bs ws (c ∷ []) (r ∷ []) end → Meets (call_outcome terms bs ws c) r end
unfolding words_from answers_from
call_meets terms bs {ws} {end} {c} {r} h =
    let (w, a) = calls_follow terms bs h in
    let e : r ≡ (call_outcome terms bs ws c).answer = cc in record { answered = e; left = w }

-- Property 3 of a begin that answered `Begun` and the calls after it.
pub property3_of_calls : (κs : Lfts 2) (a : ArgsD begin.signature κs) (r : ResD begin.signature κs) (s : AtExit (ended_of 2 begin-kinds.ps begin-kinds.r) κs)
    → begin_reads.Post κs a r s → r ≡ Begun
    → {cs : List Call} {rs : List Answer} {end : List ℕ} → Calls a.0 a.1.0.now s.1.1.0.now cs rs end
    → (c : Counts) × (read_plan a.1.0.now ≡ accepted c) × Property3 a.0 a.1.0.now (plan_of a.1.0.now c) a.1.1.0.now cs rs end
property3_of_calls κs a r s p e h =
    property3 a.0 a.1.0.now a.1.1.0.now s.1.1.0.now
    (subst (λ x. Meets (begin_outcome a.0 a.1.0.now a.1.1.0.now) (begin_told x) s.1.1.0.now) e (begin_meets κs a r s p))
    (made a.0 a.1.0.now h)

-- "No firings beyond 32 times the number of tracks follow one another without an event or a deviation.": deviations, signals and refused calls
-- may even stand between, from whatever words.
pub firings_of_calls : (terms : Terms) (bs : List ℕ) (c : Counts) → read_plan bs ≡ accepted c
    → {ws end : List ℕ} {cs : List Call} {rs : List Answer} → Calls terms bs ws cs rs end
    → is_without is_event_done cs rs ≡ true → firings_in cs rs ≤ terms.limit * track_count (plan_of bs c)
firings_of_calls terms bs c read h n = firings_of_history terms bs c read (made terms bs h) n
