-- "Firings exactly, not at most.", of calls as the code made them, from whatever words: where no track is forward and no entry held carries a deviation,
-- a list of firings, each of them done, after which ready answers 0, has as many as entries were held, and there is such a list. "After a signal that
-- turns every forward track" the entries are those that were held before it. Of each call nothing is told but its own promise: so words and answers are
-- those of the reference run, and of that it is proved. Assumes nothing.
use Rattle.std.proofs.Common.{◌≡◌, sym, ap, ◌∙◌, subst, true, List, [], ◌∷◌, ℕ, ◌+◌, ◌*◌, ◌<◌, length}
use contract.Lifetimes.{Lfts}
use denote.Triple.Clauses.{AtExit}
use borrow.Fn.Kinds.{ended_of}
use borrow.Fn.World.{ArgsD, ResD}
use Rattle.rules.specs.declared.Counts.{Counts}
use Rattle.rules.specs.declared.BeginAnswer.TheVariants.{Begun}
use Rattle.rules.specs.declared.SignalAnswer.TheVariants.{Turned}
use Rattle.rules.specs.declared.Terms.{Terms}
use Rattle.rules.specs.Plan.{Plan, track_count, plan_of}
use Rattle.rules.specs.Acceptance.{accepted, read_plan}
use Rattle.rules.specs.Fold.{sum_below}
use Rattle.rules.specs.Rights.{fire_right, is_permitted}
use Rattle.rules.specs.Ledger.{Ledger, ledger_at}
use Rattle.rules.specs.Call.{Answer, SignalArguments, Call, ready_outcome}
use Rattle.rules.specs.Answers.{signal_told}
use Rattle.rules.specs.Transcript.{firings_in, held_total}
use Rattle.rules.specs.FiringsDue.{holds_no_deviation, none_forward, turns_every, is_firing_order, firing_calls, held_by, NoneReady, FiresExactly, Counted}
use Rattle.rules.proofs.Folds.{sum_same, sum_twice}
use Rattle.rules.proofs.LedgerChecks.{Passes}
use Rattle.restoration.proofs.FiringsDue.{calls_length, ready_passes, counted, fires_exactly_of_words, Signalled, signalled, order_there}
use Rattle.restoration.proofs.Restoration.{history_holds}
use Rattle.restoration.proofs.SoundWords.{holds_passes}
use Rattle.isolation.proofs.Readings.{part_length}
use Rattle.manager.specs.contracts.calls.begin as begin
use Rattle.manager.proofs.calls.begin.Kinds as begin-kinds
use Rattle.manager.proofs.calls.begin.Reads as begin_reads
use Rattle.manager.specs.contracts.calls.signal as signal
use Rattle.manager.proofs.calls.signal.Kinds as signal-kinds
use Rattle.manager.proofs.calls.signal.Reads as signal-reads
use Rattle.property3.proofs.Readings.{signal_meets}
use Rattle.property3.proofs.Calls.{Calls, calls_follow}
use Rattle.property3.proofs.WrongPlan.{begun, words}
use Rattle.property3.proofs.FiringsDue.{ReadyIs, PartIs, ready_is, part_is}

module _ (terms : Terms) (bs : List ℕ) (k : Counts) (read : read_plan bs ≡ accepted k) where
  abbrev p : Plan
  p = plan_of bs k

  abbrev ledger : List ℕ → Ledger
  ledger ws = ledger_at terms ws (track_count p)

  abbrev held : List ℕ → ℕ
  held ws = held_by terms p ws

  -- any calls, whoever made them, refused ones too
  module _ {ws end : List ℕ} {cs : List Call} {rs : List Answer} (calls : Calls terms bs ws cs rs end)
      (f : none_forward p (ledger ws) ≡ true) (n : holds_no_deviation p (ledger ws) ≡ true) where
    pub counted_of_calls : Counted terms bs p ws cs rs end
    counted_of_calls =
        let (e, q) = calls_follow terms bs calls in rw (e, q) (counted terms bs k read ws f n cs)

    -- "any allowed firing order that goes on until ready is 0 has exactly as many firings as there were entries held"
    pub exactly_of_calls : is_firing_order cs rs ≡ true → ReadyIs terms bs end 0 → length cs ≡ held ws
    exactly_of_calls o z = counted_of_calls.exactly o (ready_is terms bs end 0 z)

  -- The entries held can be counted by entries: what it hands back of all tracks has two words for each, on words that ready does not refuse
  pub held_of_entries : (ws : List ℕ) (bits : ℕ) → ReadyIs terms bs ws bits → (parts : ℕ → List ℕ) → ((t : ℕ) → t < track_count p → PartIs terms bs ws t (parts t))
      → sum_below (track_count p) (λ t. length (parts t)) ≡ 2 * held ws
  unfolding held_by held_total
  held_of_entries ws bits z parts told =
      let h = ready_passes terms bs k read ws (bits ∷ []) (ready_is terms bs ws bits z) in
      sum_same (track_count p) (λ t. length (parts t)) (λ t. 2 * length (ledger ws t).held)
      (λ t b. ap length (part_is terms bs ws t (parts t) (told t b)) ∙ part_length terms bs k read ws h t b)
      ∙ sum_twice (track_count p) (λ t. length (ledger ws t).held)

  -- rights aside: every order on words that ready does not refuse
  pub fires_exactly_of_ready : (ws : List ℕ) (bits : ℕ) → ReadyIs terms bs ws bits → none_forward p (ledger ws) ≡ true → holds_no_deviation p (ledger ws) ≡ true
      → FiresExactly p (ledger ws)
  fires_exactly_of_ready ws bits z =
      fires_exactly_of_words terms bs k read ws (ready_passes terms bs k read ws (bits ∷ []) (ready_is terms bs ws bits z))

  -- for each track a society that may fire it
  abbrev pub MayFire : (ℕ → ℕ) → Type 0
  MayFire firer = (t : ℕ) → t < track_count p → is_permitted p fire_right (firer t) t ≡ true

  -- There is an order of as many firings as entries are held: whoever makes these calls has each of them done, and ready promises 0 after them
  abbrev pub OrderFrom : List ℕ → (ℕ → ℕ) → Type 0
  OrderFrom ws firer =
      (ts : List ℕ) × (length ts ≡ held ws)
      × ((rs : List Answer) (end : List ℕ) → Calls terms bs ws (firing_calls firer ts) rs end
      → (is_firing_order (firing_calls firer ts) rs ≡ true) × NoneReady terms bs end)

  order_from : (ws : List ℕ) → Passes terms bs p ws → none_forward p (ledger ws) ≡ true → holds_no_deviation p (ledger ws) ≡ true
      → (firer : ℕ → ℕ) → MayFire firer → OrderFrom ws firer
  order_from ws h f n firer able =
      let (ts, o, z) = order_there terms bs k read firer able ws h f n in
      let fs = firing_calls firer ts in (
        ts,
        sym (calls_length firer ts) ∙ (counted terms bs k read ws f n fs).exactly o z,
        λ rs end made.
            let (e, q) = calls_follow terms bs made in
            (ap (is_firing_order fs) q ∙ o, ap (λ v. (ready_outcome terms bs v).answer) e ∙ z),
      )

  -- on any words that ready does not refuse
  pub order_of_calls : (ws : List ℕ) (bits : ℕ) → ReadyIs terms bs ws bits → none_forward p (ledger ws) ≡ true → holds_no_deviation p (ledger ws) ≡ true
      → (firer : ℕ → ℕ) → MayFire firer → OrderFrom ws firer
  order_of_calls ws bits z = order_from ws (ready_passes terms bs k read ws (bits ∷ []) (ready_is terms bs ws bits z))

-- "After a signal that turns every forward track", whose society is who it may be
module _ (κs : Lfts 2) (a : ArgsD signal.signature κs) (r : ResD signal.signature κs) (s : AtExit (ended_of 2 signal-kinds.ps signal-kinds.r) κs)
    (post : signal-reads.Post κs a r s) (n : ℕ) (done-signal : r ≡ Turned n) (k : Counts) (read : read_plan a.1.0.now ≡ accepted k)
    (all : turns_every (plan_of a.1.0.now k) a.1.1.1.0 (ledger_at a.0 a.1.1.0.now (track_count (plan_of a.1.0.now k))) ≡ true)
    (plain : holds_no_deviation (plan_of a.1.0.now k) (ledger_at a.0 a.1.1.0.now (track_count (plan_of a.1.0.now k))) ≡ true) where
  abbrev bs : List ℕ
  bs = a.1.0.now

  abbrev before : List ℕ
  before = a.1.1.0.now

  abbrev after : List ℕ
  after = s.1.1.0.now

  -- no track is forward, no entry carries a deviation, all are held that were, and the ledger is not over
  pub signalled_of_call : Signalled a.0 bs k read before after
  unfolding signal_told
  signalled_of_call =
      let m = signal_meets κs a r s post in
      let x : SignalArguments = record { society = a.1.1.1.0 } in
      subst (Signalled a.0 bs k read before) (sym m.left)
      (signalled a.0 bs k read before x (n ∷ []) (sym m.answered ∙ ap signal_told done-signal) all plain)

  module _ {end : List ℕ} {cs : List Call} {rs : List Answer} (calls : Calls a.0 bs after cs rs end) where
    counted_after : Counted a.0 bs (plan_of bs k) after cs rs end
    counted_after = counted_of_calls a.0 bs k read calls signalled_of_call.unforward signalled_of_call.plain

    pub still_due_after_signal : firings_in cs rs + held_by a.0 (plan_of bs k) end ≡ held_by a.0 (plan_of bs k) before
    still_due_after_signal = counted_after.still_due ∙ signalled_of_call.held

    pub exactly_after_signal : is_firing_order cs rs ≡ true → ReadyIs a.0 bs end 0 → length cs ≡ held_by a.0 (plan_of bs k) before
    exactly_after_signal o z = counted_after.exactly o (ready_is a.0 bs end 0 z) ∙ signalled_of_call.held

-- There is such a list, after a begin that answered `Begun` and any calls
module _ (κs : Lfts 2) (a : ArgsD begin.signature κs) (r : ResD begin.signature κs) (s : AtExit (ended_of 2 begin-kinds.ps begin-kinds.r) κs)
    (post : begin_reads.Post κs a r s) (done-begin : r ≡ Begun) {cs : List Call} {rs : List Answer} {ws : List ℕ}
    (calls : Calls a.0 a.1.0.now s.1.1.0.now cs rs ws) (k : Counts) (read : read_plan a.1.0.now ≡ accepted k) where
  pub order_after_begin : none_forward (plan_of a.1.0.now k) (ledger_at a.0 ws (track_count (plan_of a.1.0.now k))) ≡ true
      → holds_no_deviation (plan_of a.1.0.now k) (ledger_at a.0 ws (track_count (plan_of a.1.0.now k))) ≡ true
      → (firer : ℕ → ℕ) → MayFire a.0 a.1.0.now k read firer → OrderFrom a.0 a.1.0.now k read ws firer
  order_after_begin =
      order_from a.0 a.1.0.now k read ws
      (subst (Passes a.0 a.1.0.now (plan_of a.1.0.now k)) (sym (words κs a r s post done-begin calls))
      (holds_passes a.0 a.1.0.now k read _ _ _
      (history_holds a.0 a.1.0.now k read a.1.1.0.now cs (begun κs a r s post done-begin calls))))
