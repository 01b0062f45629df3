-- One more cell.
use Rattle.std.proofs.Common.{arith}
use Rattle.roll.proofs.rows.pattern_of.Goals as goal

pub loop-t-preserved : goal.loop-t-preserved
loop-t-preserved c = grind (arith, c)
