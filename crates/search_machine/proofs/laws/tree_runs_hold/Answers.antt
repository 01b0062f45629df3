-- Along a run the tree stays true, whatever its workers prune by.
use Rattle.search_machine.proofs.TrueSteps.{tree_runs_hold}
use Rattle.search_machine.proofs.laws.tree_runs_hold.Goals as goal

pub returns : goal.returns
returns c = tree_runs_hold
