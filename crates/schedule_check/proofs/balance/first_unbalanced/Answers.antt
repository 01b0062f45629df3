-- The rule holds in one period more.
use Rattle.std.proofs.Common.{arith}
use Rattle.schedule_check.proofs.balance.first_unbalanced.Goals as goal

pub loop-t-preserved : goal.loop-t-preserved
loop-t-preserved c = grind (arith, c)
