-- A cell that is on above its minimum runs.
use Rattle.std.proofs.Common.{arith}
use Rattle.std.proofs.lemmas.Int.{to_z-of_z}
use Rattle.opening_tables.proofs.marginal_prices.cell_slope.Goals as goal

pub returns-then-cell-gt0 : goal.returns-then-cell-gt0
returns-then-cell-gt0 c = grind (arith, to_z-of_z, c)
