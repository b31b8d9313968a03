-- The entry read is asked by its two words, its code alone if that is 0. Assumes nothing.
use Rattle.std.proofs.Common.{refl, ap, ◌∙◌, not, eq-eqb, ne_eqb}
use Rattle.rules.specs.Ledger.{Entry}
use Rattle.ledger.proofs.Branches.{and_then, and_else}
use Rattle.ledger.proofs.Words.{in_room}
use Rattle.soundness.proofs.Asking.{entry_asked}
use Rattle.soundness.proofs.entries.good_entry.Goals as goal

pub entry_at-entry-requires : goal.entry_at-entry-requires
entry_at-entry-requires c = (in_room _ _ _ c.requires.0.room c.requires.1, c.requires.2)

pub returns-then-entry-ne0 : goal.returns-then-entry-ne0
returns-then-entry-ne0 c =
    let e = c.entry_at-entry.ensures in
    and_then _ (ap not (ne_eqb _ 0 c.if-entry-ne0.true)) ∙ entry_asked _ _ _ (ap (λ (e : Entry). e.code) e) (ap (λ (e : Entry). e.deviation) e) c.good_deviation.ensures

pub returns-else-entry-ne0 : goal.returns-else-entry-ne0
returns-else-entry-ne0 c =
    let e = c.entry_at-entry.ensures in
    and_else _ (ap not (eq-eqb _ 0 c.if-entry-ne0.false)) ∙ entry_asked _ _ _ (ap (λ (e : Entry). e.code) e) (ap (λ (e : Entry). e.deviation) e) refl
