-- The corners are those that the curve shows.
use Rattle.std.proofs.Common.{arith}
use Rattle.std.proofs.lemmas.Int.{to_z-of_z}
use Rattle.cost_curves.proofs.curve.Curve.segment.Goals as goal

pub returns : goal.returns
returns c = grind (arith, to_z-of_z, c)
