-- A row that isn't all 0 stands in the place.
use Rattle.std.proofs.Common.{arith}
use Rattle.table_list.proofs.Places.{set_split, placed_if}
use Rattle.table_list.proofs.numbers.replace.Goals as goal

pub returns-else-is_none : goal.returns-else-is_none
returns-else-is_none c = grind (arith, set_split, placed_if, c)
