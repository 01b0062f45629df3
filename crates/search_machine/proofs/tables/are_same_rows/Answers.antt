-- Lists of one length with the same rows are equal.
use Rattle.std.proofs.Common.{arith}
use Rattle.std.proofs.lemmas.List.{same_lists}
use Rattle.search_machine.proofs.tables.are_same_rows.Goals as goal

pub returns : goal.returns
returns c = grind (arith, same_lists, c)
