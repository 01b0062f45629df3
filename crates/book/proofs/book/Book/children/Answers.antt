-- What stands at a number is a node.
use Rattle.std.proofs.Common.{arith}
use Rattle.book.proofs.Books.{spot_below}
use Rattle.book.proofs.book.Book.children.Goals as goal

pub returns-then-node-self-clause-none : goal.returns-then-node-self-clause-none
returns-then-node-self-clause-none g c = grind (arith, spot_below, g, c)
