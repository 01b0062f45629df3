-- What is still to be walked, and what has been; each turn finds a node.
use Rattle.std.proofs.Common.{◌-◌, length}
use Rattle.branch_tree.specs.NumberedTree.{node_count}
use Rattle.branch_tree.proofs.Preorder.{IsWalked}
use Rattle.branch_tree.proofs.layout.preorder.Given as goal

abbrev pub invariant-loop-node : goal.invariant-loop-node
invariant-loop-node l = IsWalked l.tree.nodes l.pending.items l.nodes.items

abbrev pub decreases-loop-node : goal.decreases-loop-node
decreases-loop-node l = node_count l.tree.nodes - length l.nodes.items
