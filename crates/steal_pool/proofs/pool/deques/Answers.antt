-- One new deque more.
use Rattle.std.proofs.Common.{arith}
use Rattle.steal_pool.proofs.pool.deques.Goals as goal

pub loop-preserved : goal.loop-preserved
loop-preserved c = grind (arith, c)
