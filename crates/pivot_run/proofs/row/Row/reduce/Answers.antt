-- Each number is divided.
use Rattle.std.proofs.Common.{arith}
use Rattle.pivot_run.proofs.SpreadRows.{spread_reduced, view_of}
use Rattle.pivot_run.proofs.row.Row.reduce.Goals as goal

pub returns-clause-value : goal.returns-clause-value
returns-clause-value c = grind (arith, view_of, spread_reduced, c)
