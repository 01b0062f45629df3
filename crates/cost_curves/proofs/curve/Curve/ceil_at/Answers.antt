-- The corners are those that the curve shows.
use Rattle.std.proofs.Common.{arith}
use Rattle.std.proofs.lemmas.Int.{to_z-of_z}
use Rattle.cost_curves.proofs.curve.Curve.ceil_at.Goals as goal

pub returns-clause-least : goal.returns-clause-least
returns-clause-least c = grind (arith, to_z-of_z, c)

pub returns-clause-hull : goal.returns-clause-hull
returns-clause-hull c = grind (arith, to_z-of_z, c)
