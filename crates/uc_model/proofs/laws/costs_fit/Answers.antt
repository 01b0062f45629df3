use Rattle.uc_model.proofs.CostBound.{cost_fits}
use Rattle.uc_model.proofs.laws.costs_fit.Goals as goal

pub returns : goal.returns
returns c = cost_fits
