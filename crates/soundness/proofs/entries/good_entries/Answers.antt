-- Every entry below the count of those held is asked; there are no more of them than the limit. Assumes nothing.
use Rattle.plan.specs.Plans.{plan_in}
use Rattle.std.proofs.Common.{◌∙◌, rules, tests}
use Rattle.rules.proofs.Ranges.{every_from_all}
use Rattle.rules.specs.Ledger.{entry_at}
use Rattle.ledger.specs.Words.{entry_place}
use Rattle.soundness.specs.Parts.{good_entry}
use Rattle.soundness.proofs.Asking.{held_asked}
use Rattle.soundness.proofs.entries.good_entries.Goals as goal

pub returns : goal.returns
returns c =
    every_from_all (λ k. good_entry (plan_in c.args.plan.now.records) c.args.t (entry_at c.args.ledger.now (entry_place c.args.terms c.args.t k))) _ c.all.ensures.ran (λ k b q h. search (rules, tests))
    ∙ held_asked _ _ _ _ _ _ c.requires.1 (c.from.ensures ∙ c.requires.3)
