-- What is known of a call of ready and of a call of entries, by their own promises: what ready answered is the outcome by the rules, and what entries handed
-- back is the part by the rules. The theorems on the firings still due, which take both, are in FiringsExactly. Assumes nothing.
use Rattle.std.proofs.Common.{◌≡◌, sym, ap, ap₂, ◌∙◌, List, [], ◌∷◌, ℕ}
use contract.Lifetimes.{Lfts}
use denote.Triple.Clauses.{AtExit}
use borrow.Fn.Kinds.{ended_of}
use borrow.Fn.World.{ArgsD, ResD}
use Rattle.rules.specs.declared.ReadyAnswer.TheVariants.{Ready}
use Rattle.rules.specs.declared.Terms.{Terms}
use Rattle.rules.specs.Call.{done, ready_outcome, entries_part}
use Rattle.rules.specs.Answers.{ready_told}
use Rattle.manager.specs.contracts.calls.ready as ready
use Rattle.manager.proofs.calls.ready.Kinds as ready-kinds
use Rattle.manager.proofs.calls.ready.Reads as ready-reads
use Rattle.manager.specs.contracts.calls.entries as entries
use Rattle.manager.proofs.calls.entries.Kinds as entries-kinds
use Rattle.manager.proofs.calls.entries.Reads as entries-reads

-- ready was called on these words and answered so, by its own promise
pub record ReadyIs (terms : Terms) (bs ws : List ℕ) (bits : ℕ) : Type 0 where
  pub κs : Lfts 2
  pub a : ArgsD ready.signature κs
  pub r : ResD ready.signature κs
  pub s : AtExit (ended_of 2 ready-kinds.ps ready-kinds.r) κs
  pub promise : ready-reads.Post κs a r s
  pub one_limit : a.0 ≡ terms
  pub plan : a.1.0.now ≡ bs
  pub ledger : a.1.1.0.now ≡ ws
  pub answer : r ≡ Ready bits

pub ready_is : (terms : Terms) (bs ws : List ℕ) (bits : ℕ) → ReadyIs terms bs ws bits → (ready_outcome terms bs ws).answer ≡ done (bits ∷ [])
unfolding ready_told
ready_is terms bs ws bits z =
    sym (z.promise.answered ∙ ap₂ (λ u v. (ready_outcome z.a.0 u v).answer) z.plan z.ledger ∙ ap (λ (i : Terms). (ready_outcome i bs ws).answer) z.one_limit) ∙ ap ready_told z.answer

-- entries was called for this track of the words and handed back this part, by its own promise
pub record PartIs (terms : Terms) (bs ws : List ℕ) (t : ℕ) (part : List ℕ) : Type 0 where
  pub κs : Lfts 2
  pub a : ArgsD entries.signature κs
  pub r : ResD entries.signature κs
  pub s : AtExit (ended_of 2 entries-kinds.ps entries-kinds.r) κs
  pub promise : entries-reads.Post κs a r s
  pub one_limit : a.0 ≡ terms
  pub plan : a.1.0.now ≡ bs
  pub ledger : a.1.1.0.now ≡ ws
  pub track : a.1.1.1.0 ≡ t
  pub handed : r.now ≡ part

pub part_is : (terms : Terms) (bs ws : List ℕ) (t : ℕ) (part : List ℕ) → PartIs terms bs ws t part → part ≡ entries_part terms bs ws t
part_is terms bs ws t part e =
    sym e.handed ∙ e.promise.held_as ∙ ap₂ (λ u v. entries_part e.a.0 u v e.a.1.1.1.0) e.plan e.ledger
    ∙ ap (λ (i : Terms). entries_part i bs ws e.a.1.1.1.0) e.one_limit ∙ ap (entries_part terms bs ws) e.track
