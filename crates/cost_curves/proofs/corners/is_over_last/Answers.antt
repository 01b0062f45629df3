-- The last corner is the one before the end.
use Rattle.std.proofs.Common.{arith}
use Rattle.cost_curves.proofs.corners.is_over_last.Goals as goal

pub returns-clause-some : goal.returns-clause-some
returns-clause-some c = grind (arith, c)
