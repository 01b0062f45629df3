-- The end is that of the head.
use Rattle.std.proofs.Common.{arith}
use Rattle.uc_model.proofs.Common.{narrow}
use Rattle.dispatch_repair.proofs.range.unit_reach.Goals as goal

pub returns-clause-high : goal.returns-clause-high
returns-clause-high c = grind (arith, narrow, c)
