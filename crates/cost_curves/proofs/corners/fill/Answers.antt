-- At the end the points so far are all of them.
use Rattle.std.proofs.Common.{arith}
use Rattle.cost_curves.proofs.corners.fill.Goals as goal

pub returns-clause-hull : goal.returns-clause-hull
returns-clause-hull c = grind (arith, c)
