-- The units' costs and those of what is missing, as 128 bits keep them.
use Rattle.std.proofs.Common.{arith}
use Rattle.uc_model.proofs.Common.{abs_add}
use Rattle.uc_model.proofs.Sizes.{wide}
use Rattle.schedule_check.proofs.pricing.printed_cost.Goals as goal

pub returns : goal.returns
returns c = grind (arith, wide, abs_add, c)
