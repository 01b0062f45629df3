-- The corners are lawful, as those of any lower hull are.
use Rattle.std.proofs.Common.{arith}
use Rattle.cost_curves.proofs.HullValues.{lawful_corners}
use Rattle.cost_curves.proofs.inline.InlineCurve.of.Goals as goal

pub invariant_of-result : goal.invariant_of-result
invariant_of-result c = grind (arith, lawful_corners, c)
