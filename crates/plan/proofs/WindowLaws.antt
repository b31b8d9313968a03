-- A day and a window, as the code compares them; and how long an accepted plan is at most, since its windows are no more than its transitions
-- and its grants no more than 64. Assumes nothing.
use Rattle.std.proofs.Common.{◌≡◌, true, false, List, ℕ, ◌<◌, ◌≤◌, arith, length}
use lib.Signed.{mag, le_z}
use Rattle.rules.specs.Names.{Day}
use Rattle.rules.specs.declared.Counts.{Counts}
use Rattle.rules.specs.Plan.{Window, plan_of, is_within}
use Rattle.rules.proofs.Windows.{FitWindows, few_windows}
use Rattle.rules.proofs.Grants.{FitGrants}
use Rattle.signed.proofs.Integers.{rd, read_le}
use Rattle.plan.specs.Holds.{Holds}
use Rattle.plan.proofs.FieldLaws.{transition_count_lem, window_count_lem, grant_count_lem}

module _ (w : Window) (day first : Day) (h : mag first < 2147483648) (k : mag day < 2147483648) (e : first ≡ w.first) where
  pub before_first : le_z (rd first) (rd day) ≡ false → is_within w day ≡ false
  unfolding is_within
  before_first t = rw (← e, ← read_le first day h k, t)

  pub from_first : (last : Day) → mag last < 2147483648 → last ≡ w.last → le_z (rd first) (rd day) ≡ true
      → is_within w day ≡ le_z (rd day) (rd last)
  unfolding is_within
  from_first last l g t = rw (← e, ← g, ← read_le first day h k, t, ← read_le day last k l)

-- an accepted plan
module _ (bs : List ℕ) (c : Counts) (a : FitWindows (plan_of bs c)) (b : FitGrants (plan_of bs c)) where
  few_counted : c.windows ≤ c.transitions
  few_counted = omega (arith, few_windows (plan_of bs c) a, window_count_lem bs c, transition_count_lem bs c)

  few_granted : c.grants ≤ 64
  few_granted = omega (arith, b.few, grant_count_lem bs c)

  pub length_most : Holds bs c → length bs ≤ 9284
  length_most h = omega (arith, few_counted, few_granted, h.whole, h.tracks, h.states, h.transitions)
