-- What is missing costs what it does in the schedule.
use Rattle.std.proofs.Common.{arith}
use Rattle.uc_model.proofs.Sizes.{wide}
use Rattle.decommitment.proofs.RunCosts.{missing_total}
use Rattle.decommitment.proofs.price.missing_cost.Goals as goal

pub returns-clause-value : goal.returns-clause-value
returns-clause-value c = grind (arith, wide, missing_total, c)
