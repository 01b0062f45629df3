-- The sums over the renewable units stand in the period's.
use Rattle.std.proofs.Common.{arith}
use Rattle.decommitment.proofs.fill.begin.Goals as goal

pub returns : goal.returns
returns c = grind (arith, c)
