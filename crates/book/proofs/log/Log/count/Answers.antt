-- No entry is of a node past the last.
use Rattle.std.proofs.Common.{arith}
use Rattle.book.proofs.Links.{entries_none}
use Rattle.book.proofs.log.Log.count.Goals as goal

pub returns-in-None : goal.returns-in-None
returns-in-None c = grind (arith, entries_none, c)
