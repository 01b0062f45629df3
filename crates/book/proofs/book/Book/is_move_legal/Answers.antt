-- The cost that was seen is what its bits say.
use Rattle.std.proofs.Common.{arith}
use Rattle.std.proofs.lemmas.Int.{to_z-of_z}
use Rattle.book.proofs.book.Book.is_move_legal.Goals as goal

pub returns-then-is_value-3 : goal.returns-then-is_value-3
returns-then-is_value-3 g c = grind (arith, to_z-of_z, g, c)
