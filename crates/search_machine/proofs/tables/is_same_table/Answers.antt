-- Tables are equal where their parts are.
use Rattle.std.proofs.Common.{arith}
use Rattle.search_machine.proofs.tables.is_same_table.Goals as goal

pub returns : goal.returns
returns c = grind (arith, c)
