-- Each number is that of the sums, and the bits keep it.
use Rattle.std.proofs.Common.{arith}
use Rattle.uc_model.proofs.Common.{abs_sub, narrow}
use Rattle.dispatch_repair.proofs.obstacle.reserve_room.Goals as goal

pub returns-clause-value : goal.returns-clause-value
returns-clause-value c = grind (arith, narrow, abs_sub, c)
