-- The search comes to the first track that is ready, by the mark of its right. Assumes nothing.
use Rattle.std.proofs.Common.{◌≡◌, true, false, rules, tests}
use Rattle.std.proofs.lemmas.Iterator.{first_from_Range}
use Rattle.journal.proofs.OfLedger.{is_marked, lowest_found}
use Rattle.journal.proofs.held.lowest_ready.Goals as goal

pub returns : goal.returns
returns c =
    let m = c.permitted-may.ensures in
    rw c.unwrap_or.ensures
    (lowest_found c.args.terms c.args.plan.now.records.bytes.now c.args.plan.now.records.counts c.args.ledger.now c.args.society m _
    (first_from_Range _ _ _ _ (λ x. is_marked c.args.terms c.args.plan.now.records.bytes.now c.args.plan.now.records.counts c.args.ledger.now c.args.society m x ≡ true) (λ x. is_marked c.args.terms c.args.plan.now.records.bytes.now c.args.plan.now.records.counts c.args.ledger.now c.args.society m x ≡ false) c.find-lowest.ensures.ran
    (λ x q k. search (rules, tests)) (λ x q k. search (rules, tests))))
