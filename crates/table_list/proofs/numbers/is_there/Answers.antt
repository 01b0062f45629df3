-- The row there is of the same unit and period, or a later one.
use Rattle.std.proofs.Common.{arith}
use Rattle.table_list.proofs.Places.{there}
use Rattle.table_list.proofs.numbers.is_there.Goals as goal

pub returns-then-place-rows-clause-rows : goal.returns-then-place-rows-clause-rows
returns-then-place-rows-clause-rows c = grind (arith, there, c)
