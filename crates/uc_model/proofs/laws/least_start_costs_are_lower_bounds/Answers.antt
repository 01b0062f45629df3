use Rattle.uc_model.proofs.StartCosts.{sigma-le-allowed}
use Rattle.uc_model.proofs.laws.least_start_costs_are_lower_bounds.Goals as goal

pub returns : goal.returns
returns c = sigma-le-allowed
