-- Where there are no values there is nothing to be the least of.
use Rattle.std.proofs.Common.{arith}
use Rattle.branch_tree.proofs.minima.Minima.with_room.Goals as goal

pub invariant_of-result : goal.invariant_of-result
invariant_of-result c = grind (arith, c)
