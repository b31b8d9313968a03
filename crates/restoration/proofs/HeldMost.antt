-- "No history, whatever its days and rights, makes the track hold more": along every list of calls from an accepted begin each track is on its way, so
-- it holds no more than the path of its way has entries; and where the plan has no cycle, no path from its first state has more than `largest`.
-- Assumes nothing.
use mathlib.Core.Path.{◌≡◌, refl}
use mathlib.Core.Logic.{inl, inr}
use mathlib.Core.Bool.{true, false, ◌&&◌}
use mathlib.Core.List.{List, [], ◌∷◌}
use Prim.Native.Nat.{ℕ, ◌*◌, ◌≤◌}
use native.Mathlib.Omega.{arith}
use lib.ListN.{length, drop, length-take}
use lib.Dec.{eqb, ltb}
use borrow.Author.Tests.{ltb-true}
use Rattle.rules.specs.declared.Counts.{Counts}
use Rattle.rules.specs.Names.{Day}
use Rattle.rules.specs.declared.Terms.{Terms}
use Rattle.rules.specs.Day.{earliest_day}
use Rattle.rules.specs.Plan.{Plan, track_count, plan_of, first_state}
use Rattle.rules.specs.Acceptance.{accepted, read_plan}
use Rattle.rules.specs.Layout.{entry_width, entries_place}
use Rattle.rules.specs.Ledger.{Ledger, is_awake, ledger_at}
use Rattle.rules.specs.Opening.{begun}
use Rattle.rules.specs.Call.{done, Call, ledger_refusal, next, next_day, call_outcome, begin_outcome, held_part, entries_part}
use Rattle.rules.specs.ReferenceRun.{words_from, words_after}
use Rattle.rules.specs.Largest.{is_path, entries_along, largest, has_deviation, read_bounded, HoldsNoMore}
use Rattle.rules.proofs.Tests.{look}
use Rattle.rules.proofs.Acceptance.{accepts}
use Rattle.rules.proofs.Figures.{no_more, bounded_read}
use Rattle.theory.proofs.SoundParts.{sleeping_held}
use Rattle.restoration.proofs.Theorems01.{Kept, asleep_nothing}
use Rattle.restoration.proofs.SoundWords.{Holds, begin_holds, call_holds}
use Rattle.restoration.proofs.Ways.{Ways}
use Rattle.restoration.proofs.WaysKept.{ways_begun, ways_next}

-- a path from the track's first state has no fewer entries than a track holds
pub record Along (p : Plan) (l : Ledger) (t : ℕ) : Type 0 where
  pub path : List ℕ
  pub leads : is_path p (first_state p t) path ≡ true
  pub enough : length (l t).held ≤ entries_along p (first_state p t) path

ways_along : (terms : Terms) (p : Plan) (l : Ledger) → Kept terms p l → Ways p l → (t : ℕ) → Along p l t
unfolding is_path
ways_along terms p l k w t =
    elim (look (is_awake (l t).mode)) [
      | inl a ↦ let y = w t a in record { path = y.path; leads = y.leads; enough = omega (arith, y.room) }
      | inr a ↦ record { path = []; leads = refl; enough = rw (asleep_nothing terms p l k t a) (omega arith) }
    ]

module _ (terms : Terms) (bs : List ℕ) (k : Counts) (read : read_plan bs ≡ accepted k) (quiet : has_deviation (plan_of bs k) ≡ false) where
  abbrev p : Plan
  p = plan_of bs k

  list_along : (cs : List Call) (ws : List ℕ) (d : Day) (l : Ledger) → Holds terms bs k read ws d l → Ways p l
      → (t : ℕ) → Along p (ledger_at terms (words_from terms bs ws cs) (track_count p)) t
  unfolding words_from
  list_along [] ws d l h w = rw h.reads (ways_along terms p l h.kept w)
  list_along (c ∷ cs) ws d l h w =
      list_along cs (call_outcome terms bs ws c).words (next_day terms p d l c) (next terms p d l c) (call_holds terms bs k read ws d l h c)
      (ways_next terms p (accepts bs k read) quiet d l h.kept w c)

  -- no history makes a track hold more than some path from its first state has entries
  pub held_along : (lent : List ℕ) → (begin_outcome terms bs lent).answer ≡ done [] → (cs : List Call)
      → (t : ℕ) → Along p (ledger_at terms (words_after terms bs lent cs) (track_count p)) t
  unfolding words_after
  held_along lent b cs =
      list_along cs (begin_outcome terms bs lent).words earliest_day (begun p) (begin_holds terms bs k read lent b)
      (ways_begun terms p (accepts bs k read) quiet)

-- a track that does not exist holds nothing
beyond_nothing : (terms : Terms) (ws : List ℕ) (n t : ℕ) → ltb t n ≡ false → (ledger_at terms ws n t).held ≡ []
unfolding ledger_at
beyond_nothing terms ws n t b = rw b sleeping_held

pub held_most : (terms : Terms) (bs : List ℕ) (k : Counts) → read_bounded bs ≡ accepted k
    → (lent : List ℕ) → (begin_outcome terms bs lent).answer ≡ done [] → (cs : List Call) → HoldsNoMore terms (plan_of bs k) (words_after terms bs lent cs)
unfolding HoldsNoMore
held_most terms bs k h lent b cs t =
    let (read, quiet, acyclic) = bounded_read bs k h in
    let p = plan_of bs k in
    let y = held_along terms bs k read quiet lent b cs t in
    elim (look (ltb t (track_count p))) [
      | inl i ↦ omega (arith, y.enough, no_more p (accepts bs k read) acyclic t (ltb-true t (track_count p) i) y.path y.leads)
      | inr i ↦ rw (beyond_nothing terms (words_after terms bs lent cs) (track_count p) t i) (omega arith)
    ]

-- so the part that entries hands back has two words for each of them at most
pub part_most : (terms : Terms) (bs : List ℕ) (k : Counts) → read_plan bs ≡ accepted k → (ws : List ℕ) → HoldsNoMore terms (plan_of bs k) ws
    → (t : ℕ) → length (entries_part terms bs ws t) ≤ 2 * largest (plan_of bs k) t
unfolding entries_part held_part entry_width HoldsNoMore
part_most terms bs k read ws h t =
    rw (read, entries_part)
    (elim (look (eqb (ledger_refusal terms bs p ws) 0 && ltb t (track_count p))) [
      | inl i ↦ rw i (omega (arith, h t, length-take (2 * length (ledger_at terms ws (track_count p) t).held) (drop (entries_place terms t) ws)))
      | inr i ↦ rw i (omega arith)
    ])
  where
    p : Plan
    p = plan_of bs k
