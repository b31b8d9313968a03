-- Every state of an accepted plan has its track, and what the pass leaves are the first states. Assumes nothing.
use Rattle.opening.proofs.FirstStates.{states_passed, first_figures}
use Rattle.opening.proofs.firsts.first_states.Goals as goal

pub first_states-requires : goal.first_states-requires
first_states-requires c = states_passed _ _ c.args.plan.now.accepted

pub returns : goal.returns
returns c = first_figures _ _ c.args.plan.now.accepted c.first_states.ensures
