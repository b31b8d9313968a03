use Rattle.std.proofs.Common.{◌≡◌, refl, sym, ◌∙◌, rules}
use Rattle.std.proofs.lemmas.Result.{err_from_is_err_and}
use Rattle.rules.specs.Record.{no_counts, end_kind}
use Rattle.plan_scan.specs.Kinds.{number_of}
use Rattle.plan_scan.proofs.RefusalNumbers.{not_zero}
use Rattle.plan_scan.proofs.KindTables.{is_end, end_is}
use Rattle.plan_scan.proofs.Scanning.{start_stands, rest_start, rest_refused, rest_end, next}
use Rattle.rules.proofs.Tests.{clash}
use Rattle.plan_scan.proofs.records.scan_each.Goals as goal

pub loop-kind-init : goal.loop-kind-init
unfolding no_counts
loop-kind-init c = (start_stands _, rest_start _)

pub returns-in_err-kind : goal.returns-in_err-kind
returns-in_err-kind c =
    let p = err_from_is_err_and c.from_residual.result c.from_residual.ensures.1 in
    rw (p.1, p.2) (sym (c.loop-kind.invariant.1 ∙ rest_refused _ _ _ _ _ c.in_err-kind.ensures (not_zero _)))

pub returns-then-eq : goal.returns-then-eq
returns-then-eq c =
    let k = c.in_ok-kind.ensures in
    sym (c.loop-kind.invariant.1 ∙ rest_end _ _ _ _ k.0 (k.1 ∙ is_end _ (sym c.eq.ensures ∙ c.if-eq.true)))

pub overflow_add-k : goal.overflow_add-k
overflow_add-k c =
    let k = c.in_ok-kind.ensures in
    let n = next _ _ _ _ _ _ _ k.0 c.loop-kind.invariant.0 (sym k.1) (λ (e : number_of c.in_ok-kind.kind ≡ end_kind). clash (c.eq.ensures ∙ end_is _ e) c.if-eq.false) c.length.ensures.0 refl in
    let f = n.stands.within in
    search rules

pub loop-kind-smaller : goal.loop-kind-smaller
loop-kind-smaller c =
    let k = c.in_ok-kind.ensures in
    let n = next _ _ _ _ _ _ _ k.0 c.loop-kind.invariant.0 (sym k.1) (λ (e : number_of c.in_ok-kind.kind ≡ end_kind). clash (c.eq.ensures ∙ end_is _ e) c.if-eq.false) c.length.ensures.0 c.one_more.ensures in
    let f = n.stands.within in
    let g = n.further in
    search rules

pub loop-kind-preserved : goal.loop-kind-preserved
loop-kind-preserved c =
    let k = c.in_ok-kind.ensures in
    let n = next _ _ _ _ _ _ _ k.0 c.loop-kind.invariant.0 (sym k.1) (λ (e : number_of c.in_ok-kind.kind ≡ end_kind). clash (c.eq.ensures ∙ end_is _ e) c.if-eq.false) c.length.ensures.0 c.one_more.ensures in
    (n.stands, rw c.number.ensures (c.loop-kind.invariant.1 ∙ n.rest))
