-- The next cell is the unit's.
use Rattle.std.proofs.Common.{arith}
use Rattle.decommitment.proofs.RunCosts.{row_longer}
use Rattle.decommitment.proofs.price.row_of.Goals as goal

pub loop-t-preserved : goal.loop-t-preserved
loop-t-preserved c = grind (arith, row_longer, c)
