use Rattle.plan.proofs.PassedLaws.{host_low}
use Rattle.plan.proofs.ForestLaws.{chained_none, chained_pass, root_alone, visit_hosted}
use Rattle.rules.proofs.Folds.{some_not}
use Rattle.rules.specs.Plan.{no_state}
use Rattle.std.proofs.Common.{arith, ◌≡◌, rules}
use Rattle.plan.proofs.passes.chain_tracks.Goals as goal

pub loop-t-init : goal.loop-t-init
loop-t-init c = rw (c.new-scopes.ensures.0, c.new-scopes.ensures.1) (chained_none _ 128 32)

pub add-requires : goal.add-requires
unfolding no_state
add-requires c =
    let q = (host_low _ _ c.args.records.now.holds _ _ (search rules) c.host_word-h.ensures c.if-h.true (some_not _ _ c.requires _ (search rules))).1 in search rules

pub loop-t-preserved : goal.loop-t-preserved
unfolding no_state
loop-t-preserved c =
    elim c.if-h.branch [
      | goal.then-h w ↦
          rw (w.scopes-is, w.add.ensures.0, w.add.ensures.1, w.from.ensures)
          (visit_hosted _ _ c.args.records.now.holds c.requires _ _ _ _ (search rules) c.host_word-h.ensures w.if-h.true c.loop-t.invariant)
      | goal.else-h w ↦
          rw w.scopes-is (chained_pass _ _ _ _ _ _ (root_alone _ _ _ c.host_word-h.ensures w.if-h.false) c.loop-t.invariant)
    ]

pub returns : goal.returns
returns c = let e : c.loop-t.t ≡ c.args.records.now.counts.tracks = omega arith in rw e at c.loop-t.invariant.chains
