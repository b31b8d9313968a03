-- The text does not depend on the words beyond the plan's tracks: two ledgers that hold the same are answered alike, and hold the same
-- after each call. Assumes nothing.
use Rattle.std.proofs.Common.{◌≡◌, refl, sym, ap, ◌∙◌, List, ◌++◌, ℕ, zero, suc, ◌+◌}
use Rattle.rules.specs.declared.Counts.{Counts}
use Rattle.rules.specs.Names.{Day}
use Rattle.rules.specs.declared.Terms.{Terms}
use Rattle.rules.specs.Plan.{plan_of}
use Rattle.rules.specs.Acceptance.{accepted, read_plan}
use Rattle.rules.specs.Record.{size_at}
use Rattle.rules.specs.Ledger.{Ledger}
use Rattle.rules.specs.Call.{Answer, Outcome, Call, call_refusal, next, next_day, call_outcome}
use Rattle.rules.specs.Journal.{Item, ended, broken, fire_lowest, called, item_at, fire_lowest_call}
use Rattle.rules.specs.Transcript.{refusal_line, call_line, firings_of, held_total, tally_line, ledger_of, last_line, call_text, replay}
use Rattle.restoration.proofs.SoundWords.{Holds, call_accepted, call_refused, call_holds}

module _ (terms : Terms) (bs js : List ℕ) (c : Counts) (read : read_plan bs ≡ accepted c) where
  -- the words hold the last accepted day and the ledger
  abbrev Held : List ℕ → Day → Ledger → Type 0
  Held ws b l = Holds terms bs c read ws b l

  module _ (ws ws' : List ℕ) (b : Day) (l : Ledger) (h : Held ws b l) (h' : Held ws' b l) where
    answer_same : (d : Call) → (call_outcome terms bs ws d).answer ≡ (call_outcome terms bs ws' d).answer
    answer_same d = go (call_refusal terms (plan_of bs c) b l d) refl
      where
        go : (r : ℕ) → call_refusal terms (plan_of bs c) b l d ≡ r → (call_outcome terms bs ws d).answer ≡ (call_outcome terms bs ws' d).answer
        go zero e =
            ap (λ (o : Outcome). o.answer) (call_accepted terms bs c read ws b l h d e)
            ∙ sym (ap (λ (o : Outcome). o.answer) (call_accepted terms bs c read ws' b l h' d e))
        go (suc r) e =
            ap (λ (o : Outcome). o.answer) (call_refused terms bs c read ws b l h d r e)
            ∙ sym (ap (λ (o : Outcome). o.answer) (call_refused terms bs c read ws' b l h' d r e))

    ledger_same : ledger_of terms (plan_of bs c) ws ≡ ledger_of terms (plan_of bs c) ws'
    unfolding ledger_of
    ledger_same = h.reads ∙ sym h'.reads

    last_same : (fired : ℕ) → last_line terms (plan_of bs c) ws fired ≡ last_line terms (plan_of bs c) ws' fired
    unfolding last_line
    last_same fired = ap (λ (x : Ledger). tally_line (held_total (plan_of bs c) x) fired) ledger_same

    -- a call's text, if what follows it is the same
    call_same : (f : List ℕ → ℕ → List ℕ) (fired : ℕ) (d : Call)
        → ((n : ℕ) → f (call_outcome terms bs ws d).words n ≡ f (call_outcome terms bs ws' d).words n)
        → call_text terms bs js (plan_of bs c) f ws fired d ≡ call_text terms bs js (plan_of bs c) f ws' fired d
    unfolding call_text
    call_same f fired d g =
        ap (λ (a : Answer). call_line d a ++ f (call_outcome terms bs ws d).words (fired + firings_of d a)) (answer_same d)
        ∙ ap (λ (t : List ℕ). call_line d (call_outcome terms bs ws' d).answer ++ t) (g (fired + firings_of d (call_outcome terms bs ws' d).answer))

  pub replay_same : (n at fired : ℕ) (ws ws' : List ℕ) (b : Day) (l : Ledger) → Held ws b l → Held ws' b l
      → replay terms bs js (plan_of bs c) n at ws fired ≡ replay terms bs js (plan_of bs c) n at ws' fired
  unfolding replay
  replay_same zero at fired ws ws' b l h h' = refl
  replay_same (suc n) at fired ws ws' b l h h' = go (λ m vs vs' a k g g'. replay_same n (at + size_at js at) m vs vs' a k g g') (item_at js at) refl
    where
      rest : ((m : ℕ) (vs vs' : List ℕ) (a : Day) (k : Ledger) → Held vs a k → Held vs' a k
          → replay terms bs js (plan_of bs c) n (at + size_at js at) vs m ≡ replay terms bs js (plan_of bs c) n (at + size_at js at) vs' m)
          → (d : Call) → call_text terms bs js (plan_of bs c) (replay terms bs js (plan_of bs c) n (at + size_at js at)) ws fired d
          ≡ call_text terms bs js (plan_of bs c) (replay terms bs js (plan_of bs c) n (at + size_at js at)) ws' fired d
      rest again d =
          call_same ws ws' b l h h' (replay terms bs js (plan_of bs c) n (at + size_at js at)) fired d
          (λ m.
          again m (call_outcome terms bs ws d).words (call_outcome terms bs ws' d).words (next_day terms (plan_of bs c) b l d)
          (next terms (plan_of bs c) b l d)
          (call_holds terms bs c read ws b l h d) (call_holds terms bs c read ws' b l h' d))

      go : ((m : ℕ) (vs vs' : List ℕ) (a : Day) (k : Ledger) → Held vs a k → Held vs' a k
          → replay terms bs js (plan_of bs c) n (at + size_at js at) vs m ≡ replay terms bs js (plan_of bs c) n (at + size_at js at) vs' m)
          → (x : Item) → item_at js at ≡ x → replay terms bs js (plan_of bs c) (suc n) at ws fired ≡ replay terms bs js (plan_of bs c) (suc n) at ws' fired
      go again ended e = rw (e, replay) (last_same ws ws' b l h h' fired)
      go again broken e = rw (e, replay) (ap (λ (t : List ℕ). refusal_line 23 ++ t) (last_same ws ws' b l h h' fired))
      go again (fire_lowest o) e =
          rw (e, replay)
          (rest again (fire_lowest_call (plan_of bs c) (ledger_of terms (plan_of bs c) ws) o)
          ∙ ap (λ (x : Ledger). call_text terms bs js (plan_of bs c) (replay terms bs js (plan_of bs c) n (at + size_at js at)) ws' fired (fire_lowest_call (plan_of bs c) x o))
          (ledger_same ws ws' b l h h'))
      go again (called d) e = rw (e, replay) (rest again d)
