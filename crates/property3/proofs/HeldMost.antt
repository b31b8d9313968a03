-- "No history, whatever its days and rights, makes the track hold more", of calls as the code made them: after a begin that answered `Begun` and any
-- calls under its plan, which has no deviation and no cycle, each track holds `largest` entries at most, which is the figure that the call on the plan
-- alone shows, and what entries hands back of it has two words for each of them at most. The calls' own promises make the words those of the reference run, and of that it is proved. Assumes nothing.
use Rattle.std.proofs.Common.{◌≡◌, sym, ap, ap₂, ◌∙◌, subst, List, ℕ, ◌*◌, ◌<◌, ◌≤◌, arith, length, get_or}
use contract.Lifetimes.{Lfts}
use denote.Triple.Clauses.{AtExit}
use borrow.Fn.Kinds.{ended_of}
use borrow.Fn.World.{ArgsD, ResD}
use Rattle.rules.specs.declared.Counts.{Counts}
use Rattle.rules.specs.declared.Terms.{Terms}
use Rattle.rules.specs.declared.BeginAnswer.TheVariants.{Begun}
use Rattle.rules.specs.Plan.{plan_of, track_count}
use Rattle.rules.specs.Acceptance.{accepted}
use Rattle.rules.specs.Ledger.{ledger_at}
use Rattle.rules.specs.Call.{Answer, Call, entries_part}
use Rattle.rules.specs.Largest.{largest, largest_of, read_bounded, HoldsNoMore}
use Rattle.rules.proofs.Folds.{get_d_tabulate}
use Rattle.rules.proofs.Figures.{bounded_read}
use Rattle.restoration.proofs.HeldMost.{held_most, part_most}
use Rattle.manager.specs.contracts.calls.begin as begin
use Rattle.manager.proofs.calls.begin.Kinds as begin-kinds
use Rattle.manager.proofs.calls.begin.Reads as begin_reads
use Rattle.largest.specs.contracts.of_plan as of-plan
use Rattle.largest.proofs.of_plan.Kinds as of-plan-kinds
use Rattle.largest.proofs.of_plan.Reads as of-plan-reads
use Rattle.manager.specs.contracts.calls.entries as entries
use Rattle.manager.proofs.calls.entries.Kinds as entries-kinds
use Rattle.manager.proofs.calls.entries.Reads as entries-reads
use Rattle.property3.proofs.Calls.{Calls}
use Rattle.property3.proofs.WrongPlan.{begun, words}

-- a begin that answered `Begun`, and the calls after it
module _ (κs : Lfts 2) (a : ArgsD begin.signature κs) (r : ResD begin.signature κs) (s : AtExit (ended_of 2 begin-kinds.ps begin-kinds.r) κs)
    (post : begin_reads.Post κs a r s) (done-begin : r ≡ Begun) {cs : List Call} {rs : List Answer} {ws : List ℕ}
    (calls : Calls a.0 a.1.0.now s.1.1.0.now cs rs ws) (k : Counts) (read : read_bounded a.1.0.now ≡ accepted k) where
  abbrev bs : List ℕ
  bs = a.1.0.now

  pub held_most_of_calls : HoldsNoMore a.0 (plan_of bs k) ws
  held_most_of_calls =
      subst (HoldsNoMore a.0 (plan_of bs k)) (sym (words κs a r s post done-begin calls))
      (held_most a.0 bs k read a.1.1.0.now (begun κs a r s post done-begin calls) cs)

  -- what entries, called on the words that they left, hands back of a track
  pub held_most_of_entries : (κs' : Lfts 2) (a' : ArgsD entries.signature κs') (r' : ResD entries.signature κs')
      (s' : AtExit (ended_of 2 entries-kinds.ps entries-kinds.r) κs') → entries-reads.Post κs' a' r' s' → a'.0 ≡ a.0 → a'.1.0.now ≡ bs → a'.1.1.0.now ≡ ws
      → length r'.now ≤ 2 * largest (plan_of bs k) a'.1.1.1.0
  held_most_of_entries κs' a' r' s' p l e q =
      let t = a'.1.1.1.0 in
      subst (λ v. length v ≤ 2 * largest (plan_of bs k) t) (sym (p.held_as ∙ ap (λ (i : Terms). entries_part i a'.1.0.now a'.1.1.0.now t) l ∙ ap₂ (λ u v. entries_part a.0 u v t) e q))
      (part_most a.0 bs k (bounded_read bs k read).0 ws held_most_of_calls t)

  -- "The figure is shown": what the call on the plan alone showed, by its own promise
  pub held_most_of_figures : (κs' : Lfts 1) (a' : ArgsD of-plan.signature κs') (r' : ResD of-plan.signature κs')
      (s' : AtExit (ended_of 1 of-plan-kinds.ps of-plan-kinds.r) κs') → of-plan-reads.Post κs' a' r' s' → a'.0.now ≡ bs → (t : ℕ) → t < 32
      → length (ledger_at a.0 ws (track_count (plan_of bs k)) t).held ≤ get_or r'.figures t 0
  unfolding HoldsNoMore largest_of
  held_most_of_figures κs' a' r' s' p e t l =
      let shown : get_or r'.figures t 0 ≡ largest_of bs t =
      ap (λ (xs : List ℕ). get_or xs t 0) p.figures_are ∙ get_d_tabulate 32 t (largest_of a'.0.now) 0 l ∙ ap (λ (xs : List ℕ). largest_of xs t) e in
      let figure : largest_of bs t ≡ largest (plan_of bs k) t = rw (read, largest_of) in
      omega (arith, held_most_of_calls t)
