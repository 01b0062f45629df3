-- A row has so many numbers.
use Rattle.std.proofs.Common.{arith}
use Rattle.pivot_run.proofs.EntryLists.{length_spread}
use Rattle.pivot_run.proofs.row.Row.len.Goals as goal

pub returns : goal.returns
returns c = grind (arith, length_spread, c)
