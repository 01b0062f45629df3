use Rattle.cost_curves.proofs.OneHull.{one_hull}
use Rattle.cost_curves.proofs.laws.lower_hulls_are_unique.Goals as goal

pub returns : goal.returns
returns c = one_hull
