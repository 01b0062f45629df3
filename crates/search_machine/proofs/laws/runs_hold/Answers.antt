-- The law of tolerances is that of the call.
use Rattle.search_machine.proofs.TrueSteps.{runs_hold}
use Rattle.search_machine.proofs.laws.runs_hold.Goals as goal

pub returns : goal.returns
returns c = runs_hold c.cost_less_tolerance_never_decreases.ensures
