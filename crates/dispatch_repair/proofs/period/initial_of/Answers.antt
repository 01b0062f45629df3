-- The unit at the place is the instance's.
use Rattle.std.proofs.Common.{arith}
use Rattle.uc_model.proofs.Common.{narrow}
use Rattle.dispatch_repair.proofs.Places.{unit_read}
use Rattle.dispatch_repair.proofs.period.initial_of.Goals as goal

pub returns : goal.returns
returns c = grind (arith, unit_read, narrow, c)
