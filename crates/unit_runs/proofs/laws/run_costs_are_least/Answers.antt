-- The clause is the lemma.
use Rattle.unit_runs.proofs.RunCosts.{run_costs_are_least}
use Rattle.unit_runs.proofs.laws.run_costs_are_least.Goals as goal

pub returns : goal.returns
returns c = run_costs_are_least
