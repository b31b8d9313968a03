-- A root's host word is 65535. Assumes nothing.
use Rattle.rules.specs.Plan.{no_state}
use Rattle.plan.proofs.Hosting.{root_word_lem}
use Rattle.plan.proofs.Records.is_root.Goals as goal

pub returns : goal.returns
unfolding no_state
returns c = root_word_lem _ _ _ c.host_word.ensures
