-- The difference of both outputs.
use Rattle.std.proofs.Common.{arith}
use Rattle.uc_model.proofs.Common.{difference-size, difference-is}
use Rattle.uc_model.proofs.Sizes.{wide}
use Rattle.period_term.proofs.cell.run.Goals as goal

pub returns-clause-value : goal.returns-clause-value
returns-clause-value c = grind (arith, wide, difference-size, difference-is, c)
