-- The first of the numbers is the first of the row.
use Rattle.std.proofs.Common.{arith, int_lt}
use Rattle.pivot_run.proofs.SpreadRows.{first_spread}
use Rattle.pivot_run.proofs.row.Row.first_negative.Goals as goal

pub returns-clause-column : goal.returns-clause-column
returns-clause-column c = grind (arith, first_spread, int_lt, c)
