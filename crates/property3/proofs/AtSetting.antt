-- The public calls: made at a setting, each is the call at the setting's terms, by its own contract. So what is proved of lists of calls at any
-- limit holds of lists of the public ones at either setting. Assumes nothing.
use Rattle.std.proofs.Common.{◌≡◌, ap, true, List, [], ◌∷◌, ℕ, ◌*◌, ◌≤◌, ◌<◌, length}
use contract.Lifetimes.{Lfts}
use denote.Triple.Clauses.{AtExit}
use borrow.Fn.Kinds.{ended_of}
use borrow.Fn.World.{ArgsD, ResD}
use Rattle.rules.specs.declared.Counts.{Counts}
use Rattle.rules.specs.declared.Setting.{Setting}
use Rattle.rules.specs.declared.Terms.{Terms}
use Rattle.rules.specs.declared.BeginAnswer.TheVariants.{Begun}
use Rattle.rules.specs.declared.ReadyAnswer.TheVariants.{Ready}
use Rattle.rules.specs.Setting.{limit_of, terms_of}
use Rattle.rules.specs.Plan.{track_count, plan_of}
use Rattle.rules.specs.Acceptance.{accepted, read_plan}
use Rattle.rules.specs.Ledger.{ledger_at}
use Rattle.rules.specs.Call.{Answer, Call}
use Rattle.rules.specs.Call as paper
use Rattle.rules.specs.Answers.{event_told, signal_told, fire_told}
use Rattle.rules.specs.Fold.{sum_below}
use Rattle.rules.specs.Transcript.{firings_in}
use Rattle.rules.specs.History.{Property3}
use Rattle.rules.specs.Isolation.{Alone, own_calls, lasts, Isolated}
use Rattle.rules.specs.Largest.{read_bounded, HoldsNoMore}
use Rattle.rules.specs.FiringsDue.{none_forward, holds_no_deviation, is_firing_order, held_by}
use Rattle.restoration.specs.Firings.{is_event_done, is_without}
use Rattle.manager.specs.contracts.begin as begin
use Rattle.manager.proofs.begin.Kinds as begin-kinds
use Rattle.manager.proofs.begin.Reads as begin_reads
use Rattle.manager.specs.contracts.event as event
use Rattle.manager.proofs.event.Kinds as event-kinds
use Rattle.manager.proofs.event.Reads as event-reads
use Rattle.manager.specs.contracts.signal as signal
use Rattle.manager.proofs.signal.Kinds as signal-kinds
use Rattle.manager.proofs.signal.Reads as signal-reads
use Rattle.manager.specs.contracts.fire as fire
use Rattle.manager.proofs.fire.Kinds as fire-kinds
use Rattle.manager.proofs.fire.Reads as fire-reads
use Rattle.manager.specs.contracts.ready as ready
use Rattle.manager.proofs.ready.Kinds as ready-kinds
use Rattle.manager.proofs.ready.Reads as ready-reads
use Rattle.manager.specs.contracts.entries as entries
use Rattle.manager.proofs.entries.Kinds as entries-kinds
use Rattle.manager.proofs.entries.Reads as entries-reads
use Rattle.property3.proofs.PublicReadings.{begin_at, event_at, signal_at, fire_at, ready_at, entries_at}
use Rattle.property3.proofs.Isolation.{isolation_of_calls}
use Rattle.property3.proofs.HeldMost.{held_most_of_calls}
use Rattle.property3.proofs.FiringsDue.{ReadyIs, PartIs}
use Rattle.property3.proofs.FiringsExactly.{exactly_of_calls, held_of_entries}
use Rattle.property3.proofs.Calls as calls
use Rattle.property3.proofs.Calls.{Calls, property3_of_calls, firings_of_calls}

-- Read `PublicCalls setting bs ws cs rs end` as `Calls`: all calls are made at this one setting.
pub data PublicCalls (setting : Setting) (bs : List ℕ) : List ℕ → List Call → List Answer → List ℕ → Type 0 where
  none : {ws : List ℕ} → PublicCalls setting bs ws [] [] ws
  by_event : {ws end : List ℕ} {cs : List Call} {rs : List Answer}
      (κs : Lfts 2) (a : ArgsD event.signature κs) (r : ResD event.signature κs) (s : AtExit (ended_of 2 event-kinds.ps event-kinds.r) κs)
      → event-reads.Post κs a r s → a.0 ≡ setting → a.1.0.now ≡ bs → a.1.1.0.now ≡ ws → PublicCalls setting bs s.1.1.0.now cs rs end
      → PublicCalls setting bs ws (paper.event (record { event = a.1.1.1.0; day = a.1.1.1.1.0; society = a.1.1.1.1.1.0 }) ∷ cs) (event_told r ∷ rs) end
  by_signal : {ws end : List ℕ} {cs : List Call} {rs : List Answer}
      (κs : Lfts 2) (a : ArgsD signal.signature κs) (r : ResD signal.signature κs) (s : AtExit (ended_of 2 signal-kinds.ps signal-kinds.r) κs)
      → signal-reads.Post κs a r s → a.0 ≡ setting → a.1.0.now ≡ bs → a.1.1.0.now ≡ ws → PublicCalls setting bs s.1.1.0.now cs rs end
      → PublicCalls setting bs ws (paper.signal (record { society = a.1.1.1.0 }) ∷ cs) (signal_told r ∷ rs) end
  by_fire : {ws end : List ℕ} {cs : List Call} {rs : List Answer}
      (κs : Lfts 2) (a : ArgsD fire.signature κs) (r : ResD fire.signature κs) (s : AtExit (ended_of 2 fire-kinds.ps fire-kinds.r) κs)
      → fire-reads.Post κs a r s → a.0 ≡ setting → a.1.0.now ≡ bs → a.1.1.0.now ≡ ws → PublicCalls setting bs s.1.1.0.now cs rs end
      → PublicCalls setting bs ws (paper.fire (record { track = a.1.1.1.0; society = a.1.1.1.1.0 }) ∷ cs) (fire_told r ∷ rs) end

-- they are calls at the setting's terms: of each the arguments are the same but for these, and so are its answer, what it left, and its promise
pub at_terms : {setting : Setting} {bs ws end : List ℕ} {cs : List Call} {rs : List Answer} → PublicCalls setting bs ws cs rs end
    → Calls (terms_of setting) bs ws cs rs end
at_terms none = calls.none
at_terms (by_event κs a r s p l e q h) = calls.by_event κs (terms_of a.0, a.1) r (terms_of s.0, s.1) (event_at κs a r s p) (ap terms_of l) e q (at_terms h)
at_terms (by_signal κs a r s p l e q h) = calls.by_signal κs (terms_of a.0, a.1) r (terms_of s.0, s.1) (signal_at κs a r s p) (ap terms_of l) e q (at_terms h)
at_terms (by_fire κs a r s p l e q h) = calls.by_fire κs (terms_of a.0, a.1) r (terms_of s.0, s.1) (fire_at κs a r s p) (ap terms_of l) e q (at_terms h)

-- Property 3 of a public begin that answered `Begun` and the public calls after it, all at its setting.
pub property3_at_setting : (κs : Lfts 2) (a : ArgsD begin.signature κs) (r : ResD begin.signature κs) (s : AtExit (ended_of 2 begin-kinds.ps begin-kinds.r) κs)
    → begin_reads.Post κs a r s → r ≡ Begun
    → {cs : List Call} {rs : List Answer} {end : List ℕ} → PublicCalls a.0 a.1.0.now s.1.1.0.now cs rs end
    → (c : Counts) × (read_plan a.1.0.now ≡ accepted c)
    × Property3 (terms_of a.0) a.1.0.now (plan_of a.1.0.now c) a.1.1.0.now cs rs end
property3_at_setting κs a r s p e h = property3_of_calls κs (terms_of a.0, a.1) r (terms_of s.0, s.1) (begin_at κs a r s p) e (at_terms h)

-- The bound on firings, at either setting its own limit.
pub firings_at_setting : (setting : Setting) (bs : List ℕ) (c : Counts) → read_plan bs ≡ accepted c
    → {ws end : List ℕ} {cs : List Call} {rs : List Answer} → PublicCalls setting bs ws cs rs end
    → is_without is_event_done cs rs ≡ true → firings_in cs rs ≤ limit_of setting.limit * track_count (plan_of bs c)
unfolding terms_of
firings_at_setting setting bs c read h n = firings_of_calls (terms_of setting) bs c read (at_terms h) n

-- ready and entries, public too, made on these words at this setting
pub record PublicReadyIs (setting : Setting) (bs ws : List ℕ) (bits : ℕ) : Type 0 where
  pub κs : Lfts 2
  pub a : ArgsD ready.signature κs
  pub r : ResD ready.signature κs
  pub s : AtExit (ended_of 2 ready-kinds.ps ready-kinds.r) κs
  pub promise : ready-reads.Post κs a r s
  pub one_setting : a.0 ≡ setting
  pub plan : a.1.0.now ≡ bs
  pub ledger : a.1.1.0.now ≡ ws
  pub answer : r ≡ Ready bits

pub record PublicPartIs (setting : Setting) (bs ws : List ℕ) (t : ℕ) (part : List ℕ) : Type 0 where
  pub κs : Lfts 2
  pub a : ArgsD entries.signature κs
  pub r : ResD entries.signature κs
  pub s : AtExit (ended_of 2 entries-kinds.ps entries-kinds.r) κs
  pub promise : entries-reads.Post κs a r s
  pub one_setting : a.0 ≡ setting
  pub plan : a.1.0.now ≡ bs
  pub ledger : a.1.1.0.now ≡ ws
  pub track : a.1.1.1.0 ≡ t
  pub handed : r.now ≡ part

pub ready_at_terms : {setting : Setting} {bs ws : List ℕ} {bits : ℕ} → PublicReadyIs setting bs ws bits → ReadyIs (terms_of setting) bs ws bits
ready_at_terms z =
    record {
      κs = z.κs;
      a = (terms_of z.a.0, z.a.1);
      r = z.r;
      s = (terms_of z.s.0, z.s.1);
      promise = ready_at z.κs z.a z.r z.s z.promise;
      one_limit = ap terms_of z.one_setting;
      plan = z.plan;
      ledger = z.ledger;
      answer = z.answer;
    }

pub part_at_terms : {setting : Setting} {bs ws : List ℕ} {t : ℕ} {part : List ℕ} → PublicPartIs setting bs ws t part → PartIs (terms_of setting) bs ws t part
part_at_terms z =
    record {
      κs = z.κs;
      a = (terms_of z.a.0, z.a.1);
      r = z.r;
      s = (terms_of z.s.0, z.s.1);
      promise = entries_at z.κs z.a z.r z.s z.promise;
      one_limit = ap terms_of z.one_setting;
      plan = z.plan;
      ledger = z.ledger;
      track = z.track;
      handed = z.handed;
    }

-- A public begin that answered `Begun`; what is called after it is called at its setting
module _ (κs : Lfts 2) (a : ArgsD begin.signature κs) (r : ResD begin.signature κs) (s : AtExit (ended_of 2 begin-kinds.ps begin-kinds.r) κs)
    (post : begin_reads.Post κs a r s) (done-begin : r ≡ Begun) where
  abbrev terms : Terms
  terms = terms_of a.0

  abbrev bs : List ℕ
  bs = a.1.0.now

  abbrev begun : List ℕ
  begun = s.1.1.0.now

  -- Isolation, of two lists of public calls.
  pub isolation_at_setting : (k : Counts) (read : read_plan bs ≡ accepted k) (own : ℕ) → Alone (plan_of bs k) own
      → {cs ds : List Call} {rs ss : List Answer} {end end' : List ℕ} → PublicCalls a.0 bs begun cs rs end → PublicCalls a.0 bs begun ds ss end'
      → own_calls own cs ≡ own_calls own ds → lasts terms bs (plan_of bs k) own begun cs ≡ true → lasts terms bs (plan_of bs k) own begun ds ≡ true
      → Isolated terms bs (plan_of bs k) own cs rs end ds ss end'
  isolation_at_setting k read own alone h g =
      isolation_of_calls κs (terms, a.1) r (terms_of s.0, s.1) (begin_at κs a r s post) done-begin k read own alone (at_terms h) (at_terms g)

  -- What tracks hold at most, after public calls.
  pub held_most_at_setting : {cs : List Call} {rs : List Answer} {ws : List ℕ} → PublicCalls a.0 bs begun cs rs ws
      → (k : Counts) → read_bounded bs ≡ accepted k → HoldsNoMore terms (plan_of bs k) ws
  held_most_at_setting h k read = held_most_of_calls κs (terms, a.1) r (terms_of s.0, s.1) (begin_at κs a r s post) done-begin (at_terms h) k read

-- Firings exactly: public firings, and a public ready that answered 0.
pub exactly_at_setting : (setting : Setting) (bs : List ℕ) (k : Counts) (read : read_plan bs ≡ accepted k)
    → {ws end : List ℕ} {cs : List Call} {rs : List Answer} → PublicCalls setting bs ws cs rs end
    → none_forward (plan_of bs k) (ledger_at (terms_of setting) ws (track_count (plan_of bs k))) ≡ true
    → holds_no_deviation (plan_of bs k) (ledger_at (terms_of setting) ws (track_count (plan_of bs k))) ≡ true
    → is_firing_order cs rs ≡ true → PublicReadyIs setting bs end 0 → length cs ≡ held_by (terms_of setting) (plan_of bs k) ws
exactly_at_setting setting bs k read h f n o z = exactly_of_calls (terms_of setting) bs k read (at_terms h) f n o (ready_at_terms z)

-- The entries held, counted by public calls of entries: two words for each.
pub held_at_setting : (setting : Setting) (bs : List ℕ) (k : Counts) (read : read_plan bs ≡ accepted k) (ws : List ℕ) (bits : ℕ)
    → PublicReadyIs setting bs ws bits → (parts : ℕ → List ℕ) → ((t : ℕ) → t < track_count (plan_of bs k) → PublicPartIs setting bs ws t (parts t))
    → sum_below (track_count (plan_of bs k)) (λ t. length (parts t)) ≡ 2 * held_by (terms_of setting) (plan_of bs k) ws
held_at_setting setting bs k read ws bits z parts told =
    held_of_entries (terms_of setting) bs k read ws bits (ready_at_terms z) parts (λ t b. part_at_terms (told t b))
