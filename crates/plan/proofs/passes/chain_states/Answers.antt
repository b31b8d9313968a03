use Rattle.std.specs.Option.{is_some}
use Rattle.plan.proofs.ForestLaws.{chained_none, chained_pass, no_host, scope_some, host_within, visit_hosting}
use Rattle.plan.proofs.FieldLaws.{track_count_lem}
use Rattle.std.proofs.Common.{arith, ◌≡◌, sym, ap, ◌∙◌, rules}
use Rattle.plan.proofs.passes.chain_states.Goals as goal

pub loop-s-init : goal.loop-s-init
loop-s-init c = rw (c.new-hosts.ensures.0, c.new-hosts.ensures.1) (chained_none _ 32 128)

pub add-requires : goal.add-requires
add-requires c =
    let h = sym (ap is_some c.last.ensures ∙ scope_some _ _ _ _ (sym (track_count_lem _ _)) (c.requires.1.at _ (search rules))) ∙ sym c.is_some.ensures ∙ c.if-is_some.true in
    let q = host_within _ _ c.args.records.now.holds c.requires.0 _ h in
    search rules

pub loop-s-preserved : goal.loop-s-preserved
loop-s-preserved c =
    let h = sym (ap is_some c.last.ensures ∙ scope_some _ _ _ _ (sym (track_count_lem _ _)) (c.requires.1.at c.loop-s.s (search rules))) ∙ sym c.is_some.ensures in
    elim c.if-is_some.branch [
      | goal.then-is_some w ↦
          rw (w.hosts-is, w.add.ensures.0, w.add.ensures.1)
          (visit_hosting _ _ c.args.records.now.holds c.requires.0 _ _ _ _ (search rules) (w.from.ensures ∙ w.track_of.ensures) (h ∙ w.if-is_some.true) c.loop-s.invariant)
      | goal.else-is_some w ↦ rw w.hosts-is (chained_pass _ _ _ _ _ _ (no_host _ _ (h ∙ w.if-is_some.false)) c.loop-s.invariant)
    ]

pub returns : goal.returns
returns c = let e : c.loop-s.s ≡ c.args.records.now.counts.states = omega arith in rw e at c.loop-s.invariant.chains
