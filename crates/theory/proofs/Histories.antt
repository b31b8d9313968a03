-- Soundness, restoration and progress along lists of calls, on ledgers: each call keeps what the call before left. Assumes nothing.
use mathlib.Core.Path.{◌≡◌, ap, ◌∙◌}
use mathlib.Core.Logic.{inl, inr}
use mathlib.Core.Bool.{true, false}
use mathlib.Core.List.{List, [], ◌∷◌}
use Prim.Native.Nat.{ℕ}
use lib.Dec.{eqb}
use borrow.Author.Tests.{eqb-true, eqb-false}
use Rattle.rules.specs.declared.Mode.TheVariants.{Undoing}
use Rattle.rules.specs.declared.Terms.{Terms}
use Rattle.rules.specs.Plan.{Plan}
use Rattle.rules.specs.Ledger.{Configuration, Ledger, is_awake, is_empty}
use Rattle.rules.specs.Opening.{begun}
use Rattle.rules.specs.Fire.{may_fire}
use Rattle.rules.specs.ReferenceRun.{AllWithdrawn}
use Rattle.rules.proofs.Tests.{look, clash}
use Rattle.rules.proofs.Acceptance.{Accepted}
use Rattle.theory.specs.Seams.{Seams, Call}
use Rattle.theory.specs.Runs as run
use Rattle.theory.specs.Runs.{Reached, Books, ledger_from, booked, books_from}
use Rattle.theory.proofs.SoundParts.{sleeping_asleep}
use Rattle.theory.proofs.Laws.{Laws, Unfinished}
use Rattle.theory.proofs.SoundBegin.{begun_sound}
use Rattle.theory.proofs.SoundKept.{Kept, kept_next}
use Rattle.theory.proofs.Progress.{progress}
use Rattle.theory.proofs.InvariantCalls.{Invariant, accepted_keeps, begun_keeps, withdrawn_books}

module _ {σ : Seams} (ω : Laws σ) (υ : Unfinished σ) (terms : Terms) (p : Plan) (ok : Accepted p) where
  open σ use {Head, first_head, next_head, refusal, next}

  -- what lists of calls reach is sound, or over
  pub reached_kept : {h : Head} {l : Ledger} → Reached σ p terms h l → Kept σ terms p l
  reached_kept run.start = inr (begun_sound ω terms p ok)
  reached_kept (run.then {h = h} {l = l} r c) = kept_next ω υ terms p ok h l (reached_kept r) c

  pub list_kept : (cs : List (Call σ)) (h : Head) (l : Ledger) → Kept σ terms p l → Kept σ terms p (ledger_from σ p terms h l cs)
  unfolding ledger_from
  list_kept [] h l k = k
  list_kept (c ∷ cs) h l k = list_kept cs (next_head terms p h l c) (next terms p h l c) (kept_next ω υ terms p ok h l k c)

  -- "if any track is undoing and holds an entry, some firing is allowed"
  pub kept_progress : (l : Ledger) → Kept σ terms p l → (t : ℕ) → (l t).mode ≡ Undoing → is_empty (l t).held ≡ false
      → (u : ℕ) × (may_fire p l u ≡ true)
  unfolding is_awake
  kept_progress l (inl o) t d e =
      let a : is_awake (l t).mode ≡ true = rw d in
      clash a (ap (λ (x : Configuration). is_awake x.mode) (o t) ∙ sleeping_asleep)
  kept_progress l (inr s) t d e = progress terms p ok l s t d e

  pub goes_on : (cs : List (Call σ)) (t : ℕ) → (ledger_from σ p terms (first_head p) (begun p) cs t).mode ≡ Undoing
      → is_empty (ledger_from σ p terms (first_head p) (begun p) cs t).held ≡ false
      → (u : ℕ) × (may_fire p (ledger_from σ p terms (first_head p) (begun p) cs) u ≡ true)
  goes_on cs =
      kept_progress (ledger_from σ p terms (first_head p) (begun p) cs) (list_kept cs (first_head p) (begun p) (inr (begun_sound ω terms p ok)))

  module _ (k : Books σ p terms) where
    abbrev Inv : Head → Ledger → k.State → k.State → Type 0
    Inv = Invariant ω υ terms p ok k

    -- any call, refused or not
    keeps : (h : Head) (l : Ledger) (first now : k.State) → Reached σ p terms h l → Inv h l first now → (c : Call σ)
        → Inv (next_head terms p h l c) (next terms p h l c) first (booked σ p terms k h l c now)
    unfolding booked
    keeps h l first now r i c =
        elim (look (eqb (refusal terms p h l c) 0)) [
          | inl z ↦ rw z (accepted_keeps ω υ terms p ok k h l first now r i c (eqb-true (refusal terms p h l c) 0 z))
          | inr z ↦
              let (q, q') = ω.refused terms p h l c (eqb-false (refusal terms p h l c) 0 z) in
              rw (z, q, q') i
        ]

    through : (cs : List (Call σ)) (h : Head) (l : Ledger) (first now : k.State) → Reached σ p terms h l → Inv h l first now
        → AllWithdrawn p (ledger_from σ p terms h l cs) → books_from σ p terms k h l cs now ≡ first
    unfolding ledger_from books_from
    through [] h l first now r i w = withdrawn_books ω υ terms p ok k h l first now i w
    through (c ∷ cs) h l first now r i w =
        through cs (next_head terms p h l c) (next terms p h l c) first (booked σ p terms k h l c now) (run.then r c) (keeps h l first now r i c) w

    -- "if every root is undoing, holds nothing and has no open scope, her books stand exactly as at that begin"
    pub restored : (cs : List (Call σ)) (b : k.State) → AllWithdrawn p (ledger_from σ p terms (first_head p) (begun p) cs)
        → books_from σ p terms k (first_head p) (begun p) cs b ≡ b
    restored cs b w = through cs (first_head p) (begun p) b b run.start (begun_keeps ω υ terms p ok k b) w
