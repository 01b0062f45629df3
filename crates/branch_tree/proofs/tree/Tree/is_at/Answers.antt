-- The path of the places is that of the tree.
use Rattle.std.proofs.Common.{arith}
use Rattle.branch_tree.proofs.tree.Tree.is_at.Goals as goal

pub returns : goal.returns
returns c = grind (arith, c)
