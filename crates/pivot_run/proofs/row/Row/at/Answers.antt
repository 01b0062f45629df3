-- The number in the column.
use Rattle.std.proofs.Common.{arith}
use Rattle.pivot_run.proofs.EntryLists.{entry_spread}
use Rattle.pivot_run.proofs.row.Row.at.Goals as goal

pub returns : goal.returns
returns c = grind (arith, entry_spread, c)
