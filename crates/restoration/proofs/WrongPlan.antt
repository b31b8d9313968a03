-- A ledger under the wrong plan: whatever calls were made after a begin, its words lead with the length and the sum of that begin's plan, so
-- every call under a plan that differs in either is refused as 24. Assumes nothing.
use mathlib.Core.Path.{◌≡◌, sym, ◌∙◌}
use mathlib.Core.Logic.{inl, inr}
use mathlib.Core.Bool.{true, false, not}
use mathlib.Core.List.{List, []}
use Prim.Native.Nat.{ℕ, ◌≤◌}
use native.Mathlib.Omega.{arith}
use lib.ListN.{length, get_or}
use lib.Dec.{eqb}
use borrow.Author.Tests.{eqb-true, not-false, le-ltb}
use Rattle.rules.specs.declared.Counts.{Counts}
use Rattle.rules.specs.declared.Terms.{Terms}
use Rattle.rules.specs.Plan.{track_count, plan_of}
use Rattle.rules.specs.Acceptance.{accepted, read_plan}
use Rattle.rules.specs.Layout.{length_place, sum_place, word_count}
use Rattle.rules.specs.Leading.{plan_sum, other_plan}
use Rattle.rules.specs.Call.{refusal, done, Call, refused_or, under_plan, too_short, ledger_refusal, call_outcome, begin_outcome, ready_outcome, entries_part}
use Rattle.rules.specs.ReferenceRun.{words_after}
use Rattle.rules.proofs.Tests.{look, or_fails}
use Rattle.rules.proofs.TrackWords.{fewer_words}
use Rattle.rules.proofs.LedgerChecks.{refused_first, other_refused}
use Rattle.restoration.proofs.SoundWords.{outcome}
use Rattle.restoration.proofs.Restoration.{history_holds}

-- a ledger that is a plan's own leads with its length and its sum
pub own_leads : (bs ws : List ℕ) → other_plan bs ws ≡ false → (get_or ws length_place 0 ≡ length bs) × (get_or ws sum_place 0 ≡ plan_sum bs)
unfolding other_plan
own_leads bs ws e =
    let (a, b) = or_fails (not (eqb (get_or ws length_place 0) (length bs))) (not (eqb (get_or ws sum_place 0) (plan_sum bs))) e in
    (eqb-true _ _ (not-false _ a), eqb-true _ _ (not-false _ b))

-- plans that are not alike in both words
abbrev pub Differ : List ℕ → List ℕ → Type 0
Differ bs bs' = length bs ≡ length bs' → plan_sum bs ≡ plan_sum bs' → ⊥

-- so it is no ledger of a plan that differs in either
pub other_differs : (bs bs' ws : List ℕ) → other_plan bs ws ≡ false → Differ bs bs' → other_plan bs' ws ≡ true
other_differs bs bs' ws e d =
    elim (look (other_plan bs' ws)) [
      | inl y ↦ y
      | inr n ↦
          let (a, b) = own_leads bs ws e in
          let (a', b') = own_leads bs' ws n in
          absurd (d (sym a ∙ a') (sym b ∙ b'))
    ]

module _ (terms : Terms) (bs : List ℕ) (k : Counts) (read : read_plan bs ≡ accepted k) (lent : List ℕ) (begun : (begin_outcome terms bs lent).answer ≡ done [])
    (cs : List Call) where
  abbrev ws : List ℕ
  ws = words_after terms bs lent cs

  -- "Begin writes them", and they stay
  pub leads : (get_or ws length_place 0 ≡ length bs) × (get_or ws sum_place 0 ≡ plan_sum bs)
  leads = own_leads bs ws (history_holds terms bs k read lent cs begun).own

  -- "every other call tests them": under another accepted plan with no more tracks
  module _ (bs' : List ℕ) (k' : Counts) (read' : read_plan bs' ≡ accepted k') (few : track_count (plan_of bs' k') ≤ track_count (plan_of bs k))
      (differ : Differ bs bs') where
    refused : ledger_refusal terms bs' (plan_of bs' k') ws ≡ 24
    unfolding too_short
    refused =
        let h = history_holds terms bs k read lent cs begun in
        let long : word_count terms (track_count (plan_of bs' k')) ≤ length ws =
        omega (arith, h.long, fewer_words terms (track_count (plan_of bs' k')) (track_count (plan_of bs k)) few) in
        other_refused terms bs' (plan_of bs' k') ws (le-ltb (length ws) (word_count terms (track_count (plan_of bs' k'))) long)
        (other_differs bs bs' ws h.own differ)

    pub call_wrong : (c : Call) → call_outcome terms bs' ws c ≡ record { answer = refusal 24; words = ws }
    unfolding refused_or
    call_wrong c = outcome terms bs' k' read' ws c 24 (refused_first terms bs' (plan_of bs' k') ws 23 refused _)

    pub ready_wrong : ready_outcome terms bs' ws ≡ record { answer = refusal 24; words = ws }
    unfolding ready_outcome under_plan refused_or
    ready_wrong = rw (read', under_plan, refused)

    pub entries_wrong : (t : ℕ) → entries_part terms bs' ws t ≡ []
    unfolding entries_part
    entries_wrong t = rw (read', entries_part, refused)
